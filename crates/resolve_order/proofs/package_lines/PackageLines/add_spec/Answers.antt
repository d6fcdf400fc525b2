use Rattle.std.proofs.Common.{◌≡◌, ℕ, true, subst}
use Rattle.resolve_order.specs.Kept.{is_kept}
use Rattle.resolve_order.proofs.NeedLemmas.{on_ok, same_some, not_some}
use Rattle.resolve_order.proofs.package_lines.PackageLines.add_spec.Goals as goal

pub returns-in-Some-clause-added : goal.returns-in-Some-clause-added
returns-in-Some-clause-added c = on_ok c.add.result (λ added s of k key.
    let same : c.in-Some.key ≡ k = same_some c.key_of.result c.in-Some.key k c.in-Some.is (c.key_of.ensures s k of key) in
    subst (λ (i : ℕ). is_kept c.add.new.self i c.args.line ≡ true) same added) c.add.ensures.added

pub returns-in-None-clause-added : goal.returns-in-None-clause-added
returns-in-None-clause-added c = λ s of k key. absurd (not_some c.key_of.result k c.in-None.is (c.key_of.ensures s k of key))
