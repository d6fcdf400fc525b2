-- What is written literal by literal, cause by cause and step by step.
use Rattle.std.proofs.Common.{◌≡◌, ℕ, zero, suc, ◌<◌, ◌≤◌, inl, inr, Bool, true, false, ◌==◌, List, [], ◌∷◌, ◌++◌, map, length, get_or, cond, Option, Some, None, refl, sym, ◌∙◌, ap, subst, arith, eqb-true}
use Rattle.std.proofs.lemmas.Bool.{cases_Bool}
use Rattle.std.specs.Prelude.{slice_get}
use Rattle.std.proofs.lemmas.Option.{slice_get_within}
use Rattle.std.proofs.lemmas.List.{map-append}
use Rattle.resolvo_pool_core.specs.declared.id.ClauseId.{ClauseId}
use Rattle.resolvo_pool_core.specs.OnePass.{Literal}
use Rattle.resolvo_store_core.specs.Signed.{Signed, has}
use Rattle.resolvo_sat.specs.Clauses.{SatClause, causes_at}
use Rattle.resolvo_sat.specs.State.{count_of}
use Rattle.resolvo_sat.specs.Steps.{AreInRange}
use Rattle.resolvo_sat.proofs.Clauses.{literals_at}
use Rattle.resolvo_sat.proofs.Literals.{has_here, has_later}
use Rattle.resolvo_sat.specs.RuleClauses.{Atom}
use Rattle.resolvo_sat.specs.Numbered.{meaning, meanings}
use Rattle.resolvo_state.specs.declared.atom.ProofAtom.{ProofAtom}
use Rattle.resolvo_state.specs.declared.solver_state.SolverState.{SolverState}
use Rattle.resolvo_state.specs.Kinds.{Kind}
use Rattle.resolvo_state.specs.ClauseKinds.{kind_at}
use Rattle.resolvo_state.specs.Atoms.{atom_of, origin}
use Rattle.resolvo_state.specs.SolverState.{IsCoding}
use Rattle.resolvo_state.proofs.Origins.{atom_at_place}
use Rattle.resolvo_state.proofs.Positions.{get_below, get_push}
use Rattle.resolvo_proof.specs.declared.step.ProofLiteral.{ProofLiteral}
use Rattle.resolvo_proof.specs.declared.step.ProofRule.{ProofRule}
use Rattle.resolvo_proof.specs.declared.step.ProofStep.{ProofStep}
use Rattle.resolvo_proof.specs.declared.step.ProofStep.TheVariants.{Rule}
use Rattle.resolvo_proof.specs.Steps.{literal_in}
use Rattle.resolvo_proof.specs.Written.{atoms_of, with_place, places, IsRuleOf, IsDerivation, IsStepAt, AreSteps, AreStepsThen}

meanings-append : {N S : Type 0} (of : ℕ → Atom N S) (xs ys : List Signed) → meanings of (xs ++ ys) ≡ meanings of xs ++ meanings of ys
meanings-append of [] ys = refl
meanings-append {N} {S} of (x ∷ xs) ys = go (x.variable.0 == 0) (meanings-append of xs ys)
  where
    go : (b : Bool) → meanings of (xs ++ ys) ≡ meanings of xs ++ meanings of ys → cond b (meanings of (xs ++ ys)) (meaning of x ∷ meanings of (xs ++ ys)) ≡ cond b (meanings of xs) (meaning of x ∷ meanings of xs) ++ meanings of ys
    go true e = e
    go false e = ap (λ (ls : List (Literal (Atom N S))). meaning of x ∷ ls) e

not_zero : (k : ℕ) → (suc k == 0) ≡ false
not_zero k = elim (cases_Bool (suc k == 0)) [ inl e ↦ (let z : suc k ≡ 0 = eqb-true (suc k) 0 e in absurd (omega arith)) | inr e ↦ e ]

-- a literal of an atom is appended
pub written_more : {N S : Type 0} (atoms : List (ProofAtom N S)) (xs : List Signed) (l : Signed) (a : ProofAtom N S) (b : Bool) (ys : List (ProofLiteral N S)) → b ≡ l.positive → atoms_of atoms l.variable.0 ≡ Some a → map literal_in ys ≡ meanings (origin atoms) xs
    → map literal_in (ys ++ (let r : ProofLiteral N S = record { atom = a; positive = b } in r) ∷ []) ≡ meanings (origin atoms) (xs ++ l ∷ [])
written_more {N} {S} atoms xs l a b ys sign known e =
    let r : ProofLiteral N S = record { atom = a; positive = b } in
    map-append literal_in ys (r ∷ []) ∙ (ap (λ ls. ls ++ literal_in r ∷ []) e ∙ (ap (λ ls. meanings (origin atoms) xs ++ ls) (go l.variable.0 known) ∙ sym (meanings-append (origin atoms) xs (l ∷ []))))
  where
    go : (v : ℕ) → atoms_of atoms v ≡ Some a → (let m : Literal (Atom N S) = record { atom = atom_of a; positive = b } in m) ∷ [] ≡ cond (v == 0) [] ((let m : Literal (Atom N S) = record { atom = origin atoms v; positive = l.positive } in m) ∷ [])
    go zero h = absurd cc
    go (suc k) h =
        ap (λ (p : Bool). (let m : Literal (Atom N S) = record { atom = atom_of a; positive = p } in m) ∷ []) sign
        ∙ (ap (λ (x : Atom N S). (let m : Literal (Atom N S) = record { atom = x; positive = l.positive } in m) ∷ []) (sym (atom_at_place atoms k a h))
        ∙ ap (λ t. cond t [] ((let m : Literal (Atom N S) = record { atom = origin atoms (suc k); positive = l.positive } in m) ∷ [])) (sym (not_zero k)))

-- one of the root is left out
pub written_skip : {N S : Type 0} (atoms : List (ProofAtom N S)) (xs : List Signed) (l : Signed) (ys : List (ProofLiteral N S)) → atoms_of atoms l.variable.0 ≡ None → l.variable.0 < suc (length atoms) → map literal_in ys ≡ meanings (origin atoms) xs
    → map literal_in ys ≡ meanings (origin atoms) (xs ++ l ∷ [])
written_skip {N} {S} atoms xs l ys unknown below e = e ∙ (sym (Rattle.std.proofs.lemmas.List.append-nil (meanings (origin atoms) xs)) ∙ (ap (λ ls. meanings (origin atoms) xs ++ ls) (go l.variable.0 unknown below) ∙ sym (meanings-append (origin atoms) xs (l ∷ []))))
  where
    go : (v : ℕ) → atoms_of atoms v ≡ None → v < suc (length atoms) → (let none : List (Literal (Atom N S)) = [] in none) ≡ cond (v == 0) [] ((let m : Literal (Atom N S) = record { atom = origin atoms v; positive = l.positive } in m) ∷ [])
    go zero h b = refl
    go (suc k) h b = let (x, at) = get_below atoms k (omega arith) in absurd cc

pub places-append : (xs ys : List ClauseId) → places (xs ++ ys) ≡ places xs ++ places ys
places-append [] ys = refl
places-append (c ∷ cs) ys = go c.0 (places-append cs ys)
  where
    go : (n : ℕ) → places (cs ++ ys) ≡ places cs ++ places ys → with_place n (places (cs ++ ys)) ≡ with_place n (places cs) ++ places ys
    go zero e = e
    go (suc n) e = ap (λ zs. n ∷ zs) e

-- a literal that is read is in the clause
pub has_read : (xs : List Signed) (i : ℕ) (d : Signed) → i < length xs → has xs (get_or xs i d) ≡ true
has_read [] i d below = absurd (omega arith)
has_read (x ∷ xs) zero d below = has_here x xs x refl
has_read (x ∷ xs) (suc i) d below = has_later x xs (get_or xs i d) (has_read xs i d (omega arith))

-- a cause other than the root's clause is appended
pub place_more : (cs : List ClauseId) (c : ClauseId) (k : ℕ) (ys : List ℕ) → c.0 ≡ suc k → ys ≡ places cs → ys ++ k ∷ [] ≡ places (cs ++ c ∷ [])
place_more cs c k ys is e = ap (λ zs. zs ++ k ∷ []) e ∙ (ap (λ n. places cs ++ with_place n []) (sym is) ∙ sym (places-append cs (c ∷ [])))

-- the root's clause is left out
pub place_skip : (cs : List ClauseId) (c : ClauseId) (ys : List ℕ) → c.0 ≡ 0 → ys ≡ places cs → ys ≡ places (cs ++ c ∷ [])
place_skip cs c ys is e = e ∙ (sym (Rattle.std.proofs.lemmas.List.append-nil (places cs)) ∙ (ap (λ n. places cs ++ with_place n []) (sym is) ∙ sym (places-append cs (c ∷ []))))

-- the literals of a clause are of variables that are there
pub clause_in_range : {N S : Type 0} (c : SolverState N S) → IsCoding c → (n : ℕ) (clause : SatClause) → slice_get c.search.clauses n ≡ Some clause → AreInRange (count_of c.search) clause.literals
clause_in_range c coding n clause at l h = coding.ready.state.in_range n l (subst (λ xs. has xs l ≡ true) (sym (literals_at c.search.clauses n clause at)) h)

-- the causes of a clause
pub causes_are : (cs : List SatClause) (n : ℕ) (clause : SatClause) → slice_get cs n ≡ Some clause → causes_at cs n ≡ clause.causes
causes_are [] n clause at = absurd cc
causes_are (d ∷ cs) zero clause at = let same : d ≡ clause = cc in ap (λ (x : SatClause). x.causes) same
causes_are (d ∷ cs) (suc n) clause at = causes_are cs n clause at

-- the step of a clause that encodes a rule
pub rule_step : {N S : Type 0} (c : SolverState N S) (n : ℕ) (x : Kind N S) (r : ProofRule N S) → n < length c.search.clauses → kind_at c.kinds.items n ≡ Some x → IsRuleOf x (Some r) → IsStepAt c n (Rule r)
rule_step c n x r below kind_is encoded = let (clause, at) = get_below c.search.clauses n below in record { kinds = x; clause = clause; kind_is = kind_is; present = at; writes = inl (r, refl, encoded) }

-- the step of a clause after the root's that encodes none
pub learnt_step : {N S : Type 0} (c : SolverState N S) → IsCoding c → (n : ℕ) (x : Kind N S) (clause : SatClause) (step : ProofStep N S) → 0 < n → kind_at c.kinds.items n ≡ Some x → slice_get c.search.clauses n ≡ Some clause → IsRuleOf x None
    → IsDerivation c.atoms.keys clause.literals clause.causes step → IsStepAt c n step
learnt_step {N} {S} c coding n x clause step behind kind_is at encoded d = record { kinds = x; clause = clause; kind_is = kind_is; present = at; writes = inr (go x kind_is encoded, d) }
  where
    go : (y : Kind N S) → kind_at c.kinds.items n ≡ Some y → IsRuleOf y None → y ≡ Kind.Learnt
    go Kind.Root e t = (let first : n ≡ 0 = coding.rooted n e in absurd (omega arith))
    go (Kind.Needs parent need case) e (copy, t, same) = absurd cc
    go (Kind.Gated s r) e t = absurd cc
    go (Kind.Shared r) e t = absurd cc
    go (Kind.Limits parent v s) e t = absurd cc
    go (Kind.LimitsOutside parent v) e t = absurd cc
    go (Kind.IsOut v s) e t = absurd cc
    go (Kind.Locked locked s) e t = absurd cc
    go (Kind.Excluded s reason) e t = absurd cc
    go (Kind.Digit m s place bit) e t = absurd cc
    go (Kind.IsThere m s) e t = absurd cc
    go (Kind.Matches v s) e t = absurd cc
    go Kind.Learnt e t = refl

-- the steps of the first clauses, and the next one
pub step_more : {N S : Type 0} (c : SolverState N S) (steps : List (ProofStep N S)) (n : ℕ) (step : ProofStep N S) → n ≡ suc (length steps) → ((place : ℕ) (x : ProofStep N S) → slice_get steps place ≡ Some x → IsStepAt c (suc place) x) → IsStepAt c n step
    → (place : ℕ) (x : ProofStep N S) → slice_get (steps ++ step ∷ []) place ≡ Some x → IsStepAt c (suc place) x
step_more c steps n step number each at place x h = elim (get_push steps step x place h) [
  | inl old ↦ each place x old
  | inr (e, is) ↦ subst (λ y. IsStepAt c (suc place) y) (sym is) (subst (λ k. IsStepAt c k step) (number ∙ ap suc (sym e)) at)
]

-- the steps of the clauses, and a refusal's after them
pub refusal_step : {N S : Type 0} (c : SolverState N S) (literals spelled : List Signed) (causes from : List ClauseId) (earlier steps : List (ProofStep N S)) (step : ProofStep N S) → steps ≡ earlier ++ step ∷ [] → AreSteps c earlier → spelled ≡ literals → from ≡ causes
    → IsDerivation c.atoms.keys spelled from step → AreStepsThen c literals causes steps
refusal_step c literals spelled causes from earlier steps step ends are e f d = record {
  earlier = earlier;
  final = step;
  ends = ends;
  clauses = are;
  derivation = subst (λ (ls : List Signed). IsDerivation c.atoms.keys ls causes step) e (subst (λ (cs : List ClauseId). IsDerivation c.atoms.keys spelled cs step) f d);
}
