-- A clause more.
use Rattle.std.proofs.Common.{◌≡◌, ℕ, ◌+◌, ◌<◌, ◌⊎◌, inl, inr, true, false, List, [], ◌∷◌, ◌++◌, length, map, Some, Vec, Global, refl, sym, ◌∙◌, ap, subst, arith}
use Rattle.std.specs.Prelude.{not, slice_get, IsSome}
use Rattle.std.proofs.lemmas.List.{length-append}
use Rattle.std.proofs.lemmas.Bool.{both_ways}
use Rattle.std.proofs.lemmas.Option.{slice_get_within}
use Rattle.resolvo_pool_core.specs.Ordered.{Ordered}
use Rattle.resolvo_pool_core.specs.declared.id.ClauseId.{ClauseId}
use Rattle.resolvo_store_core.specs.Signed.{Signed, negation, has}
use Rattle.resolvo_sat.specs.Clauses.{SatClause}
use Rattle.resolvo_sat.specs.declared.state.VariableKind.{VariableKind}
use Rattle.resolvo_sat.specs.declared.state.VariableKind.TheVariants as Kinds
use Rattle.resolvo_sat.specs.declared.propagate_and_learn.StepResult.{StepResult}
use Rattle.resolvo_sat.specs.Known.{clause_at}
use Rattle.resolvo_sat.specs.State.{AreApart, IsState, lists, clauses_of, count_of}
use Rattle.resolvo_sat.specs.Analysis.{AreFromClauses, IsDenial}
use Rattle.resolvo_sat.specs.Steps.{AreInRange}
use Rattle.resolvo_sat.specs.declared.state.SatState.{SatState}
use Rattle.resolvo_sat.proofs.Literals.{has-cons}
use Rattle.resolvo_store_core.specs.Clauses.{no, root as root_variable}
use Rattle.resolvo_sat.specs.Propagation.{IsReady, AreCovered}
use Rattle.resolvo_sat.specs.AddClause.{AddsClause}
use Rattle.resolvo_sat.specs.PropagateAndLearn.{Improves}
use Rattle.resolvo_sat.proofs.Clauses.{length-lists}
use Rattle.resolvo_sat.proofs.StepLemmas.{lists-append}
use Rattle.resolvo_sat.proofs.GrowLemmas.{clause_stays}
use Rattle.resolvo_sat.proofs.Meanings.{clause_in_range}
use Rattle.resolvo_state.specs.Kinds.{Kind}
use Rattle.resolvo_state.specs.Kinds.{Root, Learnt}
use Rattle.resolvo_state.specs.declared.solver_state.SolverState.{SolverState}
use Rattle.resolvo_state.specs.declared.atom.ProofAtom.{ProofAtom}
use Rattle.resolvo_state.specs.Atoms.{kind_of}
use Rattle.resolvo_state.specs.Keys.{AreOnce}
use Rattle.resolvo_state.specs.ClauseKinds.{rule_of, kind_at}
use Rattle.resolvo_state.specs.SolverState.{IsCoding, AddsRule, AddsDenial, Advances}
use Rattle.resolvo_state.proofs.Positions.{get_in_prefix, get_old, get_last, get_push, prefix_equal}

-- a literal of one of the first clauses is in it among more
pub has_before : (old more : List SatClause) (m : ℕ) (l : Signed) → has (clause_at (lists old) m) l ≡ true → has (clause_at (lists (old ++ more)) m) l ≡ true
has_before old more m l h =
    let within : m < length (lists old) = clause_in_range (lists old) m l h in
    subst (λ (ls : List Signed). has ls l ≡ true) (sym (ap (λ (cs : List (List Signed)). clause_at cs m) (lists-append old more) ∙ clause_stays (lists old) (lists more) m within)) h

-- A clause and its kind were appended: neither is the root's, and a learnt one has causes, no literal beside
-- its negation, and none but those of the others.
pub one_more : {N S : Type 0} (old new : SolverState N S) (x : Kind N S) (clause : SatClause) → IsCoding old → IsReady new.search new.watching → AreCovered new.search new.watching
    → new.atoms ≡ old.atoms → new.search.variables ≡ old.search.variables → new.search.clauses ≡ old.search.clauses ++ clause ∷ [] → new.kinds.items ≡ old.kinds.items ++ x ∷ []
    → (x ≡ Root → ⊥) → (x ≡ Learnt → 0 < length clause.causes) → (x ≡ Learnt → AreApart clause.literals) → (x ≡ Learnt → AreFromClauses old.search clause.literals) → IsCoding new
one_more {N} {S} old new x clause coding ready covered atoms variables clauses kinds unrooted caused apart from = record {
  ready = ready;
  covered = covered;
  variable_kinds = ap (λ (variable_kinds : Vec VariableKind Global). variable_kinds.items) variables ∙ coding.variable_kinds ∙ sym (ap (λ (a : Ordered (ProofAtom N S)). Kinds.Root ∷ map kind_of a.keys) atoms);
  each =
      let a : length new.kinds.items ≡ length old.kinds.items + 1 = ap length kinds ∙ length-append old.kinds.items (x ∷ []) in
      let b : length new.search.clauses ≡ length old.search.clauses + 1 = ap length clauses ∙ length-append old.search.clauses (clause ∷ []) in
      let c : length old.kinds.items ≡ length old.search.clauses = coding.each in
      omega arith;
  distinct = subst (λ (a : Ordered (ProofAtom N S)). AreOnce a.keys) (sym atoms) coding.distinct;
  learnt = λ n held h is. elim (old_or_this n held h is) [ inl (a, at) ↦ coding.learnt n held a at | inr (e, one, place) ↦ subst (λ (d : SatClause). 0 < length d.causes) one (caused e) ];
  apart = λ n held h is. elim (old_or_this n held h is) [ inl (a, at) ↦ coding.apart n held a at | inr (e, one, place) ↦ subst (λ (d : SatClause). AreApart d.literals) one (apart e) ];
  drawn = λ n held h is l a. elim (old_or_this n held h is) [
    | inl (b, at) ↦ let (m, before, there) = coding.drawn n held b at l a in (m, before, stays m l there)
    | inr (e, one, place) ↦
        let (m, there) = from e l (subst (λ (d : SatClause). has d.literals l ≡ true) (sym one) a) in
        let within : m < length (lists old.search.clauses) = clause_in_range (lists old.search.clauses) m l there in
        let long : length (lists old.search.clauses) ≡ length old.search.clauses = length-lists old.search.clauses in
        (m, omega arith, stays m l there)
  ];
  first = subst (λ (xs : List (Kind N S)). kind_at xs 0 ≡ Some Root) (sym kinds) (get_in_prefix old.kinds.items (x ∷ []) 0 Root coding.first);
  rooted = λ n h. elim (get_push old.kinds.items x Root n (kind_is n Root h)) [ inl a ↦ coding.rooted n a | inr (e, same) ↦ absurd (unrooted (sym same)) ];
  alone = λ l a. coding.alone l (subst (λ (ls : List Signed). has ls l ≡ true) first_stays a);
}
  where
    kind_is : (n : ℕ) (y : Kind N S) → kind_at new.kinds.items n ≡ Some y → slice_get (old.kinds.items ++ x ∷ []) n ≡ Some y
    kind_is n y h = subst (λ (xs : List (Kind N S)). slice_get xs n ≡ Some y) kinds h

    holds : (n : ℕ) (held : SatClause) → slice_get new.search.clauses n ≡ Some held → slice_get (old.search.clauses ++ clause ∷ []) n ≡ Some held
    holds n held is = subst (λ (cs : List SatClause). slice_get cs n ≡ Some held) clauses is

    first_stays : clause_at (clauses_of new.search) 0 ≡ clause_at (clauses_of old.search) 0
    first_stays =
        let within : 0 < length old.kinds.items = slice_get_within old.kinds.items 0 Root coding.first in
        let each : length old.kinds.items ≡ length old.search.clauses = coding.each in
        let long : length (lists old.search.clauses) ≡ length old.search.clauses = length-lists old.search.clauses in
        ap (λ (cs : List SatClause). clause_at (lists cs) 0) clauses
        ∙ ap (λ (ls : List (List Signed)). clause_at ls 0) (lists-append old.search.clauses (clause ∷ []))
        ∙ clause_stays (lists old.search.clauses) (lists (clause ∷ [])) 0 (omega arith)

    stays : (m : ℕ) (l : Signed) → has (clause_at (clauses_of old.search) m) l ≡ true → has (clause_at (clauses_of new.search) m) l ≡ true
    stays m l h = subst (λ (cs : List SatClause). has (clause_at (lists cs) m) l ≡ true) (sym clauses) (has_before old.search.clauses (clause ∷ []) m l h)

    -- a learnt clause is an old one or the new one
    old_or_this : (n : ℕ) (held : SatClause) → kind_at new.kinds.items n ≡ Some Learnt → slice_get new.search.clauses n ≡ Some held
        → ((kind_at old.kinds.items n ≡ Some Learnt) × (slice_get old.search.clauses n ≡ Some held)) ⊎ ((x ≡ Learnt) × (clause ≡ held) × (n ≡ length old.search.clauses))
    old_or_this n held h is = elim (get_push old.kinds.items x Learnt n (kind_is n Learnt h)) [
      | inl a ↦
          let within : n < length old.kinds.items = slice_get_within old.kinds.items n Learnt a in
          let long : length old.kinds.items ≡ length old.search.clauses = coding.each in
          inl (a, get_old old.search.clauses (clause ∷ []) n held (omega arith) (holds n held is))
      | inr (e, same) ↦
          let here : slice_get (old.search.clauses ++ clause ∷ []) n ≡ Some clause = subst (λ k. slice_get (old.search.clauses ++ clause ∷ []) k ≡ Some clause) (sym (e ∙ coding.each)) (get_last old.search.clauses clause) in
          let there : slice_get (old.search.clauses ++ clause ∷ []) n ≡ Some held = holds n held is in
          let one : clause ≡ held = cc in
          inr (sym same, one, e ∙ coding.each)
    ]

pub adds_rule_is : {N S : Type 0} (old new : SolverState N S) (x : Kind N S) (clause : SatClause) (id : ClauseId) → IsCoding old → IsSome (rule_of x) → AddsClause clause id old.search old.watching new.search new.watching
    → clause.causes ≡ [] → new.atoms ≡ old.atoms → new.kinds.items ≡ old.kinds.items ++ x ∷ [] → AddsRule x clause.literals id old new
adds_rule_is {N} {S} old new x clause id coding rule addition plain atoms kinds = record {
  coding = one_more old new x clause coding addition.ready addition.covered atoms addition.adds.variables addition.adds.added kinds (unrooted x rule) (λ e. absurd (unlearnt x rule e)) (λ e. absurd (unlearnt x rule e)) (λ e. absurd (unlearnt x rule e));
  atoms = atoms;
  clause = clause;
  literals = refl;
  plain = plain;
  number = addition.adds.number;
  added = addition.adds.added;
  kinds = kinds;
  grows = record { atoms = prefix_equal old.atoms.keys new.atoms.keys (ap (λ (a : Ordered (ProofAtom N S)). a.keys) atoms); clauses = (clause ∷ [], addition.adds.added); kinds = (x ∷ [], kinds); base_level = addition.adds.base_level };
  trail = record { tracker = addition.adds.tracker };
}
  where
    unrooted : (y : Kind N S) → IsSome (rule_of y) → y ≡ Root → ⊥
    unrooted y h e = both_ways false refl (subst (λ (z : Kind N S). IsSome (rule_of z)) e h)

    unlearnt : (y : Kind N S) → IsSome (rule_of y) → y ≡ Learnt → ⊥
    unlearnt y h e = both_ways false refl (subst (λ (z : Kind N S). IsSome (rule_of z)) e h)

-- a learnt clause was added
pub learnt_is : {N S : Type 0} (old new : SolverState N S) (id : ClauseId) → IsCoding old → (improves : Improves id old.search new.search new.watching) → new.atoms ≡ old.atoms → new.kinds.items ≡ old.kinds.items ++ Learnt ∷ [] → Advances old new (StepResult.Learnt id)
learnt_is {N} {S} old new id coding improves atoms kinds = record {
  coding = one_more old new Learnt improves.clause coding improves.ready improves.covered atoms improves.variables improves.added kinds (λ e. absurd cc) (λ e. improves.caused) (λ e. improves.apart) (λ e. improves.from);
  progress = improves;
  atoms = atoms;
  kinds = kinds;
  grows = record { atoms = prefix_equal old.atoms.keys new.atoms.keys (ap (λ (a : Ordered (ProofAtom N S)). a.keys) atoms); clauses = (improves.clause ∷ [], improves.added); kinds = (Learnt ∷ [], kinds); base_level = improves.base_level };
}

-- a literal of a clause is of one of the variables
pub denial_in_range : (s : SatState) (literals : List Signed) (causes : List ClauseId) → IsState s → IsDenial s literals causes → AreInRange (count_of s) literals
denial_in_range s literals causes state forbid l h = let (n, present) = forbid.from l h in state.in_range n l present

-- literals that only deny are distinct
negative_apart : (literals : List Signed) → ((l : Signed) → has literals l ≡ true → l.positive ≡ false) → AreApart literals
negative_apart literals negative l a b = both_ways (not l.positive) (falls (negation l) b) (ap not (falls l a))
  where
    falls : (k : Signed) → has (no root_variable ∷ literals) k ≡ true → k.positive ≡ false
    falls k h = elim (has-cons (no root_variable) literals k h) [ inl e ↦ ap (λ (x : Signed). x.positive) (sym e) | inr e ↦ negative k e ]

-- a clause of negative literals alone was added
pub denial_is : {N S : Type 0} (old new : SolverState N S) (clause : SatClause) (id : ClauseId) → IsCoding old → IsDenial old.search clause.literals clause.causes → AddsClause clause id old.search old.watching new.search new.watching
    → new.atoms ≡ old.atoms → new.kinds.items ≡ old.kinds.items ++ Learnt ∷ [] → AddsDenial clause.literals clause.causes id old new
denial_is {N} {S} old new clause id coding forbid addition atoms kinds = record {
  coding = one_more old new Learnt clause coding addition.ready addition.covered atoms addition.adds.variables addition.adds.added kinds (λ e. absurd cc) (λ e. forbid.caused) (λ e. negative_apart clause.literals forbid.negative) (λ e. forbid.from);
  atoms = atoms;
  variables = addition.adds.variables;
  clause = clause;
  literals = refl;
  causes = refl;
  number = addition.adds.number;
  added = addition.adds.added;
  kinds = kinds;
  grows = record { atoms = prefix_equal old.atoms.keys new.atoms.keys (ap (λ (a : Ordered (ProofAtom N S)). a.keys) atoms); clauses = (clause ∷ [], addition.adds.added); kinds = (Learnt ∷ [], kinds); base_level = addition.adds.base_level };
  trail = record { tracker = addition.adds.tracker };
}
