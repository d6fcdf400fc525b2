use Rattle.std.proofs.Common.{◌≡◌, ◌∙◌, ℕ, Option, true, sym, subst}
use Rattle.resolve_order.specs.Keys.{places_of}
use Rattle.resolve_order.specs.Kept.{has_line, list_at}
use Rattle.resolve_order.proofs.KeyLemmas.{others_keep, true_false}
use Rattle.resolve_order.proofs.package_lines.PackageLines.take.Goals as goal

pub returns-in-Some-clause-taken : goal.returns-in-Some-clause-taken
returns-in-Some-clause-taken c = λ i h. c.take_numbered.ensures.taken i (subst (λ (o : Option ℕ). has_line (list_at c.args.self.now.lines.items o) i ≡ true) (sym c.find.ensures ∙ c.in-Some.is) h)

pub returns-in-Some-clause-others : goal.returns-in-Some-clause-others
returns-in-Some-clause-others c = others_keep c.args.self.now.lines.items c.take_numbered.new.lines.items (places_of c.args.self.now.keys.places) c.args.self.now.keys.count c.args.key c.in-Some.number c.args.self.now.keys.keys (sym c.find.ensures ∙ c.in-Some.is) c.take_numbered.ensures.others

pub returns-in-None-clause-taken : goal.returns-in-None-clause-taken
returns-in-None-clause-taken c = λ i h. absurd (true_false (sym (subst (λ (o : Option ℕ). has_line (list_at c.args.self.now.lines.items o) i ≡ true) (sym c.find.ensures ∙ c.in-None.is) h)))
