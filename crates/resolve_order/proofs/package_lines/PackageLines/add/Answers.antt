use Rattle.std.proofs.Common.{◌≡◌, ℕ, Option, true, sym, subst}
use Rattle.std.specs.Prelude.{slice_get}
use Rattle.resolve_order.specs.Keys.{number_of, places_of}
use Rattle.resolve_order.specs.Kept.{has_line, list_at}
use Rattle.resolve_order.proofs.KeyLemmas.{keys_keep}
use Rattle.resolve_order.proofs.NeedLemmas.{on_ok}
use Rattle.resolve_order.proofs.package_lines.PackageLines.add.Goals as goal

pub returns-clause-added : goal.returns-clause-added
returns-clause-added c =
    on_ok c.add_numbered.result (λ added. subst (λ (o : Option ℕ). has_line (list_at c.add_numbered.new.lines.items o) c.args.line ≡ true) (sym c.in_ok-number.ensures.here)
    (subst (λ (i : ℕ). has_line (slice_get c.add_numbered.new.lines.items c.in_ok-number.number) i ≡ true) c.in_ok-kept.ensures added)) c.add_numbered.ensures.added

pub returns-clause-kept : goal.returns-clause-kept
returns-clause-kept c = on_ok c.add_numbered.result (λ kept. keys_keep c.args.self.now.lines.items c.add_numbered.new.lines.items (number_of (places_of c.args.self.now.keys.places)) (number_of (places_of c.put.new.self.places)) c.args.key kept c.in_ok-number.ensures.known c.in_ok-number.ensures.others) c.add_numbered.ensures.kept
