-- Literals that are false on the trail are distinct.
use Rattle.std.proofs.Common.{◌≡◌, inl, inr, true, List, ◌∷◌, subst}
use Rattle.resolvo_store_core.specs.Signed.{Signed, negation, has}
use Rattle.resolvo_store_core.specs.Clauses.{no, root}
use Rattle.resolvo_sat.specs.declared.state.SatState.{SatState}
use Rattle.resolvo_sat.specs.Entries.{made_true}
use Rattle.resolvo_sat.specs.State.{count_of, history, clauses_of, IsState, AreApart}
use Rattle.resolvo_sat.proofs.Literals.{has-cons}
use Rattle.resolvo_sat.proofs.Trails.{consistent, root_known}

pub false_apart : (s : SatState) (literals : List Signed) → IsState s → ((l : Signed) → has literals l ≡ true → has (made_true (history s)) (negation l) ≡ true) → AreApart literals
false_apart s literals state falls l a b = consistent (count_of s) (clauses_of s) (history s) (negation l) state.trail (fell l a) (fell (negation l) b)
  where
    fell : (x : Signed) → has (no root ∷ literals) x ≡ true → has (made_true (history s)) (negation x) ≡ true
    fell x h = elim (has-cons (no root) literals x h) [
      | inl e ↦ subst (λ (y : Signed). has (made_true (history s)) (negation y) ≡ true) e (root_known (history s) state.rooted)
      | inr i ↦ falls x i
    ]
