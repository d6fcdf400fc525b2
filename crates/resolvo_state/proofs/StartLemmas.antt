-- The search at its start, and a variable more.
use Rattle.std.proofs.Common.{◌≡◌, ℕ, zero, suc, inl, inr, true, false, List, [], ◌∷◌, ◌++◌, length, map, Some, None, refl, sym, ◌∙◌, ap, subst}
use Rattle.std.specs.Prelude.{slice_get}
use Rattle.std.proofs.lemmas.Bool.{both_ways}
use Rattle.resolvo_pool_core.specs.declared.id.VariableId.{VariableId}
use Rattle.resolvo_store_core.specs.Clauses.{yes, root as root_variable}
use Rattle.resolvo_store_core.specs.Signed.{Signed, has}
use Rattle.resolvo_sat.specs.Clauses.{SatClause}
use Rattle.resolvo_sat.specs.declared.state.VariableKind.{VariableKind}
use Rattle.resolvo_sat.specs.declared.state.VariableKind.TheVariants as Kinds
use Rattle.resolvo_sat.specs.declared.watch_lists.WatchLists.{WatchLists}
use Rattle.resolvo_sat.specs.Known.{clause_at}
use Rattle.resolvo_sat.specs.State.{lists}
use Rattle.resolvo_sat.specs.Propagation.{IsReady, AreCovered}
use Rattle.resolvo_sat.specs.Begin.{Begun, IsRootClause, AddsVariable}
use Rattle.resolvo_sat.proofs.Literals.{has-cons}
use Rattle.resolvo_sat.proofs.Readiness.{ready_same, covered_same}
use Rattle.resolvo_state.specs.declared.atom.ProofAtom.{ProofAtom}
use Rattle.resolvo_state.specs.Kinds.{Kind}
use Rattle.resolvo_state.specs.Kinds.{Root, Learnt}
use Rattle.resolvo_state.specs.declared.solver_state.SolverState.{SolverState}
use Rattle.resolvo_state.specs.Atoms.{kind_of, Represents}
use Rattle.resolvo_state.specs.Keys.{IsPlace, AreOnce}
use Rattle.resolvo_state.specs.ClauseKinds.{kind_at}
use Rattle.resolvo_state.specs.StoredKinds.{KindList}
use Rattle.resolvo_state.specs.SolverState.{IsCoding, IsBegun, Gives}
use Rattle.resolvo_state.proofs.Positions.{get_last, once_none, once_push, prefix_same, prefix_equal}
use Rattle.resolvo_state.proofs.Origins.{count_is}

one_clause : (cs : List SatClause) → IsRootClause cs → length cs ≡ 1
one_clause [] h = absurd h
one_clause (c ∷ []) h = refl
one_clause (c ∷ d ∷ cs) h = absurd h

-- the root's clause names no other variable
root_only : (cs : List SatClause) → IsRootClause cs → (l : Signed) → has (clause_at (lists cs) 0) l ≡ true → l.variable.0 ≡ 0
root_only [] h l a = absurd h
root_only (c ∷ []) (is, none) l a = elim (has-cons (yes root_variable) [] l (subst (λ (x : List Signed). has x l ≡ true) is a)) [ inl i ↦ ap (λ (y : Signed). y.variable.0) (sym i) | inr f ↦ absurd (both_ways false refl f) ]
root_only (c ∷ d ∷ cs) h l a = absurd h

-- the root's clause has the only kind in the list
root_alone : {N S : Type 0} (kinds : List (Kind N S)) (n : ℕ) (x : Kind N S) → kinds ≡ Root ∷ [] → kind_at kinds n ≡ Some x → (n ≡ 0) × (x ≡ Root)
root_alone {N} {S} kinds n x e h = go n (subst (λ (xs : List (Kind N S)). kind_at xs n ≡ Some x) e h)
  where
    alone : List (Kind N S)
    alone = Root ∷ []

    go : (k : ℕ) → kind_at (Root ∷ []) k ≡ Some x → (k ≡ 0) × (x ≡ Root)
    go zero i = (refl, cc)
    go (suc k) i = absurd cc

pub begun_is : {N S : Type 0} (c : SolverState N S) → Begun c.search c.watching → c.atoms.keys ≡ [] → c.kinds.items ≡ Root ∷ [] → IsBegun c
begun_is {N} {S} c begun none alone = record {
  coding = record {
    ready = begun.ready;
    covered = begun.covered;
    variable_kinds = begun.variables ∙ sym (ap (λ (atoms : List (ProofAtom N S)). Kinds.Root ∷ map kind_of atoms) none);
    each = ap length alone ∙ sym (one_clause c.search.clauses begun.clause);
    distinct = once_none c.atoms.keys none;
    learnt = λ n clause h is. (let (z, e) = root_alone c.kinds.items n Learnt alone h in absurd cc);
    apart = λ n clause h is. (let (z, e) = root_alone c.kinds.items n Learnt alone h in absurd cc);
    drawn = λ n clause h is l a. (let (z, e) = root_alone c.kinds.items n Learnt alone h in absurd cc);
    first = ap (λ (xs : List (Kind N S)). kind_at xs 0) alone;
    rooted = λ n h. (root_alone c.kinds.items n Root alone h).0;
    alone = root_only c.search.clauses begun.clause;
  };
  atoms = none;
  kinds = alone;
  clause = begun.clause;
  trail = begun.trail;
  base_level = begun.base_level;
}

map_push : {X Y : Type 0} (f : X → Y) (xs : List X) (x : X) → map f (xs ++ x ∷ []) ≡ map f xs ++ f x ∷ []
map_push f [] x = refl
map_push f (y ∷ xs) x = ap (λ zs. f y ∷ zs) (map_push f xs x)

-- a variable of an atom that had none
pub gives_added : {N S : Type 0} (a : ProofAtom N S) (v : VariableId) (old new : SolverState N S) → IsCoding old → IsPlace old.atoms.keys a None
    → AddsVariable (kind_of a) v old.search new.search → new.watching ≡ old.watching → new.atoms.keys ≡ old.atoms.keys ++ a ∷ [] → new.kinds ≡ old.kinds → Gives a v old new
gives_added {N} {S} a v old new coding fresh adds watching pushed kinds = record {
  coding = record {
    ready = subst (λ (w : WatchLists). IsReady new.search w) (sym watching) (ready_same old.search new.search old.watching coding.ready adds.state adds.clauses adds.tracker adds.qhead adds.guard);
    covered = subst (λ (w : WatchLists). AreCovered new.search w) (sym watching) (covered_same old.search new.search old.watching coding.covered adds.clauses);
    variable_kinds = adds.variables ∙ ap (λ (variable_kinds : List VariableKind). variable_kinds ++ kind_of a ∷ []) coding.variable_kinds ∙ sym (ap (λ (atoms : List (ProofAtom N S)). Kinds.Root ∷ map kind_of atoms) pushed ∙ ap (λ (variable_kinds : List VariableKind). Kinds.Root ∷ variable_kinds) (map_push kind_of old.atoms.keys a));
    each = ap (λ (xs : KindList N S). length xs.items) kinds ∙ coding.each ∙ sym (ap length adds.clauses);
    distinct = subst (λ (atoms : List (ProofAtom N S)). AreOnce atoms) (sym pushed) (once_push old.atoms.keys a coding.distinct fresh);
    learnt = λ n clause h is. coding.learnt n clause (same n Learnt h) (subst (λ (cs : List SatClause). slice_get cs n ≡ Some clause) adds.clauses is);
    apart = λ n clause h is. coding.apart n clause (same n Learnt h) (subst (λ (cs : List SatClause). slice_get cs n ≡ Some clause) adds.clauses is);
    drawn = λ n clause h is l a. (
        let (m, before, there) = coding.drawn n clause (same n Learnt h) (subst (λ (cs : List SatClause). slice_get cs n ≡ Some clause) adds.clauses is) l a in
        (m, before, subst (λ (cs : List SatClause). has (clause_at (lists cs) m) l ≡ true) (sym adds.clauses) there));
    first = ap (λ (xs : KindList N S). kind_at xs.items 0) kinds ∙ coding.first;
    rooted = λ n h. coding.rooted n (same n Root h);
    alone = λ l a. coding.alone l (subst (λ (cs : List SatClause). has (clause_at (lists cs) 0) l ≡ true) adds.clauses a);
  };
  present = (length old.atoms.keys, place, subst (λ (atoms : List (ProofAtom N S)). slice_get atoms (length old.atoms.keys) ≡ Some a) (sym pushed) (get_last old.atoms.keys a));
  same = λ k at. absurd (fresh k at);
  added = λ h. pushed;
  grows = record {
    atoms = (a ∷ [], pushed);
    clauses = prefix_equal old.search.clauses new.search.clauses adds.clauses;
    kinds = prefix_equal old.kinds.items new.kinds.items (ap (λ (xs : KindList N S). xs.items) kinds);
    base_level = adds.base_level;
  };
  trail = record { tracker = adds.tracker };
  clauses = adds.clauses;
  kinds = kinds;
}
  where
    same : (n : ℕ) (x : Kind N S) → kind_at new.kinds.items n ≡ Some x → kind_at old.kinds.items n ≡ Some x
    same n x h = ap (λ (xs : KindList N S). kind_at xs.items n) (sym kinds) ∙ h

    place : v.0 ≡ suc (length old.atoms.keys)
    place = adds.number ∙ count_is old coding
