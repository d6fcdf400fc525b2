-- Rules of two literals, and the rules of a place's digits.
use Rattle.std.proofs.Common.{◌≡◌, ℕ, suc, ◌+◌, ◌/◌, ◌%◌, ◌==◌, ◌<◌, ◌≤◌, inl, inr, Bool, true, false, not, List, [], ◌∷◌, ◌++◌, get_or, drop, reverse, length, Some, Vec, Global, refl, sym, ◌∙◌, ap, subst, arith, append_assoc, drop-cons}
use Rattle.std.proofs.lemmas.Bool.{both_ways}
use Rattle.std.proofs.lemmas.List.{append-nil, drop_all}
use Rattle.resolvo_pool_core.specs.declared.id.ClauseId.{ClauseId}
use Rattle.resolvo_pool_core.specs.declared.id.VariableId.{VariableId}
use Rattle.resolvo_store_core.specs.Signed.{Signed, negation, same_literal, has}
use Rattle.resolvo_store_core.specs.Clauses.{no}
use Rattle.resolvo_store_core.specs.Trail.{Tracked}
use Rattle.resolvo_store_core.specs.declared.watched_literals.WatchedLiterals.{WatchedLiterals}
use Rattle.resolvo_sat.specs.Clauses.{SatClause, sat_clause, pair_clause}
use Rattle.resolvo_sat.specs.declared.state.SatState.{SatState}
use Rattle.resolvo_sat.specs.declared.state.VariableKind.{VariableKind}
use Rattle.resolvo_sat.specs.declared.watch_lists.WatchLists.{WatchLists}
use Rattle.resolvo_sat.specs.Entries.{made_true}
use Rattle.resolvo_sat.specs.State.{history, count_of}
use Rattle.resolvo_sat.specs.Steps.{Adds, AreInRange}
use Rattle.resolvo_sat.specs.Propagation.{IsReady, AreCovered}
use Rattle.resolvo_sat.specs.Pending.{AreOpen}
use Rattle.resolvo_sat.specs.AddClause.{AreFirst, Begins, AddsClause, IsFreeIf, BeginsPair, tie_clause, tie_clauses, AreVariables, AddsClauses}
use Rattle.resolvo_sat.proofs.Literals.{not_not, has-cons, has_here}
use Rattle.resolvo_sat.proofs.PendingLemmas.{two_first, clause_added}
use Rattle.resolvo_sat.proofs.StartLemmas.{kept_nothing}
use Rattle.resolvo_sat.proofs.SetLemmas.{adds_kept}

pair_first : (p : WatchedLiterals) → same_literal p.first p.second ≡ false → AreFirst (p.first ∷ p.second ∷ []) p.first (Some p)
pair_first p differ = two_first p.first p.second p.first (Some p) (has_here p.first (p.second ∷ []) p.first refl) (refl, refl, differ)

-- neither literal is false, so the clause isn't pending
pub begun_plain : (c : ClauseId) (p : WatchedLiterals) (s : SatState) (v w : WatchLists) → AreOpen (made_true (history s)) p → Begins (record { clause = c; literal = p.first }) (Some p) true v w → BeginsPair c p s v w
begun_plain c p s v w both begins = record { noted = v; begun = w; notes = record { rest = refl; listed = inl (refl, both) }; begins = begins; kept = kept_nothing w }

pub pair_added : (id : ClauseId) (p : WatchedLiterals) (s t : SatState) (v w : WatchLists) → IsReady s v → AreCovered s v → same_literal p.first p.second ≡ false → Adds (pair_clause p) id s t → BeginsPair id p t v w
    → AddsClause (pair_clause p) id s v t w
pair_added id p s t v w ready covers differ adds begun =
    adds_kept (pair_clause p) id s v t begun.begun w
    (clause_added (pair_clause p) id p.first true (Some p) s t v begun.noted begun.begun ready covers (pair_first p differ) adds begun.notes begun.begins)
    begun.kept

-- a literal that isn't false stays so while the trail is the same
pub free_after : (b : Bool) (l : Signed) (s t : SatState) → t.tracker ≡ s.tracker → IsFreeIf b s l → IsFreeIf b t l
free_after b l s t same free h = subst (λ (x : Tracked). has (made_true (reverse x.trail)) (negation l) ≡ false) (sym same) (free h)

pub two_in_range : (count : ℕ) (p : WatchedLiterals) → p.first.variable.0 < count → p.second.variable.0 < count → AreInRange count (p.first ∷ p.second ∷ [])
two_in_range count p first second l h = elim (has-cons p.first (p.second ∷ []) l h) [
  | inl e ↦ subst (λ (m : Signed). m.variable.0 < count) e first
  | inr later ↦ elim (has-cons p.second [] l later) [ inl e ↦ subst (λ (m : Signed). m.variable.0 < count) e second | inr none ↦ absurd (both_ways false refl none) ]
]

-- the literals of a tie are of the variables
pub tie_within : (x : VariableId) (digits : List VariableId) (i : ℕ) (p : WatchedLiterals) (b : Bool) (o s : SatState) → s.variables ≡ o.variables → x.0 < count_of o → AreVariables (count_of o) digits → i < length digits
    → p.first ≡ no x → p.second ≡ record { variable = get_or digits i (record { 0 = 0 }); positive = b } → AreInRange (count_of s) (p.first ∷ p.second ∷ [])
tie_within x digits i p b o s variables low each below first second =
    subst (λ (vs : Vec VariableKind Global). AreInRange (length vs.items) (p.first ∷ p.second ∷ [])) (sym variables)
    (two_in_range (count_of o) p (subst (λ (l : Signed). l.variable.0 < count_of o) (sym first) low) (subst (λ (l : Signed). l.variable.0 < count_of o) (sym second) (each i below)))

-- ---- clauses were added one after another

adds_nothing : (s : SatState) (v : WatchLists) → IsReady s v → AreCovered s v → AddsClauses [] s s v
adds_nothing s v ready covers = record { ready = ready; covered = covers; variables = refl; base_level = refl; tracker = refl; qhead = refl; guard = refl; added = sym (append-nil s.clauses) }

adds_more : (cs : List SatClause) (c : SatClause) (id : ClauseId) (s t : SatState) (v : WatchLists) (u : SatState) (w : WatchLists) → AddsClauses cs s t v → AddsClause c id t v u w → AddsClauses (cs ++ c ∷ []) s u w
adds_more cs c id s t v u w all one = record {
  ready = one.ready;
  covered = one.covered;
  variables = one.adds.variables ∙ all.variables;
  base_level = one.adds.base_level ∙ all.base_level;
  tracker = one.adds.tracker ∙ all.tracker;
  qhead = one.adds.qhead ∙ all.qhead;
  guard = one.adds.guard ∙ all.guard;
  added = one.adds.added ∙ (ap (λ (xs : List SatClause). xs ++ c ∷ []) all.added ∙ append_assoc s.clauses cs (c ∷ []));
}

-- the rules of a place's first digits were added; these are left of its digits
pub record TiesSoFar (x : VariableId) (place : ℕ) (digits : List VariableId) (i rest : ℕ) (old new : SatState) (w : WatchLists) : Type 0 where
  pub done : List SatClause
  pub adds : AddsClauses done old new w
  pub left : done ++ tie_clauses rest x (drop i digits) ≡ tie_clauses place x digits

pub ties_begun : (x : VariableId) (place : ℕ) (digits : List VariableId) (s : SatState) (v : WatchLists) → IsReady s v → AreCovered s v → TiesSoFar x place digits 0 place s s v
ties_begun x place digits s v ready covers = record { done = []; adds = adds_nothing s v ready covers; left = refl }

pub ties_more : (x : VariableId) (place : ℕ) (digits : List VariableId) (i rest : ℕ) (d : VariableId) (p : WatchedLiterals) (id : ClauseId) (o s t : SatState) (v w : WatchLists) → i < length digits
    → p.first ≡ no x → p.second ≡ record { variable = get_or digits i d; positive = not (not (rest % 2 == 1)) } → TiesSoFar x place digits i rest o s v → AddsClause (pair_clause p) id s v t w
    → TiesSoFar x place digits (i + 1) (rest / 2) o t w
ties_more x place digits i rest d p id o s t v w below first second far one = record {
  done = far.done ++ pair_clause p ∷ [];
  adds = adds_more far.done (pair_clause p) id o s v t w far.adds one;
  left =
      append_assoc far.done (pair_clause p ∷ []) others
      ∙ (ap (λ (c : SatClause). far.done ++ c ∷ others) is_tie
      ∙ (ap (λ (vs : List VariableId). far.done ++ tie_clauses rest x vs) (sym splits)
      ∙ far.left));
}
  where
    others : List SatClause
    others = tie_clauses (rest / 2) x (drop (i + 1) digits)

    splits : drop i digits ≡ get_or digits i d ∷ drop (i + 1) digits
    splits = let next : suc i ≡ i + 1 = omega arith in drop-cons digits i d below ∙ ap (λ (k : ℕ). get_or digits i d ∷ drop k digits) next

    is_tie : pair_clause p ≡ tie_clause (x, get_or digits i d, rest % 2 == 1)
    is_tie =
        ap (λ (l : Signed). sat_clause (l ∷ p.second ∷ []) []) first
        ∙ ap (λ (l : Signed). sat_clause (no x ∷ l ∷ []) []) (second ∙ ap (λ (b : Bool). let m : Signed = record { variable = get_or digits i d; positive = b } in m) (not_not (rest % 2 == 1)))

pub ties_added : (x : VariableId) (place : ℕ) (digits : List VariableId) (i rest : ℕ) (o s : SatState) (w : WatchLists) → length digits ≤ i → TiesSoFar x place digits i rest o s w → AddsClauses (tie_clauses place x digits) o s w
ties_added x place digits i rest o s w past far = subst (λ (cs : List SatClause). AddsClauses cs o s w) all far.adds
  where
    all : far.done ≡ tie_clauses place x digits
    all = sym (append-nil far.done) ∙ (ap (λ (vs : List VariableId). far.done ++ tie_clauses rest x vs) (sym (drop_all i digits past)) ∙ far.left)
