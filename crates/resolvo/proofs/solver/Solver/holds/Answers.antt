use Rattle.std.proofs.Common.{◌≡◌, List, Some, sym, ◌∙◌, ap, subst, eqb-true, eq-eqb}
use Rattle.std.specs.Bool.{Decides}
use Rattle.std.specs.Option.{option_map}
use Rattle.std.proofs.lemmas.Option.{same_Some}
use Rattle.std.proofs.lemmas.Slice.Eq.{slice_eq-Decides}
use Rattle.resolvo_pool_core.specs.declared.id.ClauseId.{ClauseId}
use Rattle.resolvo.specs.Conflicts.{Left, left_of}
use Rattle.resolvo.proofs.solver.Solver.holds.Goals as goal

pub returns-in-Some : goal.returns-in-Some
returns-in-Some g c =
    let kept = c.in-Some.kept in
    let others = c.args.conflict.now.clauses.items in
    let same : Decides c.eq.result (kept.clauses.items ≡ others) =
    subst (λ (xs : List ClauseId). Decides c.eq.result (xs ≡ others)) c.as_slice.ensures.value
    (subst (λ (ys : List ClauseId). Decides c.eq.result (c.as_slice.result.now ≡ ys)) c.as_slice-in-Some.ensures.value
    (slice_eq-Decides (λ a b. (λ h. ap (λ n. record { 0 = n }) (eqb-true a.0 b.0 h), λ e. eq-eqb a.0 b.0 (ap (λ x. x.0) e))) c.as_slice.result.now c.as_slice-in-Some.result.now c.eq.result c.eq.ensures)) in
    let there : c.args.self.now.conflict ≡ Some (left_of kept) = sym (ap (λ k. k.conflict) c.self.view_is) ∙ ap (option_map left_of) c.in-Some.is in (
      λ yes. (left_of kept, there, same.0 yes),
      λ held. same.1 (ap (λ (l : Left g.row.D-SolvableId.Denot). l.clauses) (same_Some (left_of kept) held.0 (sym there ∙ held.1)) ∙ held.2),
    )
