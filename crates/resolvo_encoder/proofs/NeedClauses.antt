-- The clause of a need keeps to the need's literals as clauses and lists are added.
use Rattle.std.proofs.Common.{◌≡◌, ℕ, ◌+◌, inl, inr, false, true, ◌∷◌, ◌++◌, List, length, Option, Some, None, refl, sym, ◌∙◌, ap, subst, arith}
use Rattle.std.specs.Prelude.{slice_get}
use Rattle.std.proofs.lemmas.Bool.{both_ways}
use Rattle.std.proofs.lemmas.List.{length-append}
use Rattle.resolvo_pool_core.specs.declared.id.DenseId.{DenseId}
use Rattle.resolvo_pool_core.specs.declared.id.DisjunctionTag.{DisjunctionTag}
use Rattle.resolvo_store_core.specs.AtMostOne.{IsPrefixOf}
use Rattle.resolvo_store_core.specs.Signed.{Signed, has}
use Rattle.resolvo_store_core.specs.Clauses.{no}
use Rattle.resolvo_store_core.specs.Lists.{list_or_none, condition_in}
use Rattle.resolvo_store_core.specs.declared.pick.NeedClause.{NeedClause}
use Rattle.resolvo_store_core.specs.declared.lists.FixedLists.{FixedLists}
use Rattle.resolvo_decide.specs.Needs.{literals_in}
use Rattle.resolvo_sat.specs.Known.{clause_at}
use Rattle.resolvo_sat.specs.State.{lists}
use Rattle.resolvo_sat.specs.Clauses.{SatClause}
use Rattle.resolvo_sat.proofs.Clauses.{length-lists}
use Rattle.resolvo_sat.proofs.GrowLemmas.{clause_stays}
use Rattle.resolvo_sat.proofs.StepLemmas.{lists-append}
use Rattle.resolvo_sat.proofs.Literals.{has-cons, has-append, has_here, has_later, has_left, has_right}
use Rattle.resolvo_state.proofs.Positions.{prefix_get}
use Rattle.resolvo_encoder.specs.Steps.{HasNeedLiterals}

-- where clauses were added
pub literals_grow : {N : Type 0} (ls : FixedLists N) (old new : List SatClause) (q : NeedClause) → IsPrefixOf old new → HasNeedLiterals ls old q → HasNeedLiterals ls new q
literals_grow ls old new q (more, is) h =
    let long : length new ≡ length old + length more = ap length is ∙ length-append old more in
    let same : length (lists old) ≡ length old = length-lists old in
    let below = h.in_range in
    let stays : clause_at (lists new) q.clause.0 ≡ clause_at (lists old) q.clause.0 = ap (λ cs. clause_at (lists cs) q.clause.0) is ∙ ap (λ (cs : List (List Signed)). clause_at cs q.clause.0) (lists-append old more) ∙ clause_stays (lists old) (lists more) q.clause.0 (omega arith) in
    record { in_range = omega arith; each = λ l a. h.each l (subst (λ (c : List Signed). has c l ≡ true) stays a) }

-- where lists were added
pub literals_widen : {N : Type 0} (old new : FixedLists N) (cs : List SatClause) (q : NeedClause) → ((l : Signed) → has (condition_in old q.condition) l ≡ true → has (condition_in new q.condition) l ≡ true)
    → ((l : Signed) → has (literals_in old q.requirement) l ≡ true → has (literals_in new q.requirement) l ≡ true) → HasNeedLiterals old cs q → HasNeedLiterals new cs q
literals_widen old new cs q conditions candidates h = record { in_range = h.in_range; each = λ l a. wider l (h.each l a) }
  where
    wider : (l : Signed) → has (no q.parent ∷ (condition_in old q.condition ++ literals_in old q.requirement)) l ≡ true → has (no q.parent ∷ (condition_in new q.condition ++ literals_in new q.requirement)) l ≡ true
    wider l a = elim (has-cons (no q.parent) (condition_in old q.condition ++ literals_in old q.requirement) l a) [
      | inl is ↦ has_here (no q.parent) (condition_in new q.condition ++ literals_in new q.requirement) l is
      | inr b ↦ has_later (no q.parent) (condition_in new q.condition ++ literals_in new q.requirement) l (elim (has-append (condition_in old q.condition) (literals_in old q.requirement) l b) [
        | inl c ↦ has_left (condition_in new q.condition) (literals_in new q.requirement) l (conditions l c)
        | inr c ↦ has_right (condition_in new q.condition) (literals_in new q.requirement) l (candidates l c)
      ])
    ]

-- the literals of a condition remain
pub condition_widens : {N : Type 0} (old new : FixedLists N) → IsPrefixOf old.disjunctions new.disjunctions → (condition : Option (DenseId DisjunctionTag ℕ)) (l : Signed) → has (condition_in old condition) l ≡ true → has (condition_in new condition) l ≡ true
condition_widens old new prefix None l h = h
condition_widens old new prefix (Some d) l h = go (slice_get old.disjunctions d.raw) refl h
  where
    go : (o : Option (List Signed)) → slice_get old.disjunctions d.raw ≡ o → has (list_or_none o) l ≡ true → has (condition_in new (Some d)) l ≡ true
    go None at a = absurd (both_ways false refl a)
    go (Some x) at a = subst (λ (o : Option (List Signed)). has (list_or_none o) l ≡ true) (sym (prefix_get old.disjunctions new.disjunctions d.raw x prefix at)) a
