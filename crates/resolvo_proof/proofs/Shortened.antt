-- A proof without the steps that lead nowhere is one, and ends as it did.
use Rattle.std.proofs.Common.{◌≡◌, ℕ, zero, suc, ◌+◌, ◌<◌, ◌≤◌, ◌⊎◌, inl, inr, Bool, true, List, [], ◌∷◌, ◌++◌, map, length, Some, refl, sym, ◌∙◌, ap, subst, arith}
use Rattle.std.specs.Prelude.{slice_get, Contains}
use Rattle.std.specs.List.{AllZip}
use Rattle.std.proofs.lemmas.List.{length-append}
use Rattle.std.proofs.lemmas.Option.{slice_get_within}
use Rattle.resolvo_pool_core.specs.OnePass.{Literal, one_pass}
use Rattle.resolvo_pool_core.specs.RuleKeeping.{Packages, Rules}
use Rattle.resolvo_sat.specs.RuleClauses.{Atom}
use Rattle.resolvo_sat.proofs.Lists.{contains_none, contains_cases, contains_first, contains_later}
use Rattle.resolvo_state.proofs.Positions.{get_below, get_last}
use Rattle.resolvo_proof.specs.declared.step.ProofStep.{ProofStep}
use Rattle.resolvo_proof.specs.declared.step.ProofStep.TheVariants.{Rule, Derived}
use Rattle.resolvo_proof.specs.Steps.{literal_in, clause_of, clause_at}
use Rattle.resolvo_proof.specs.Proof.{IsStep, IsRefuted, IsProof, EndsEmpty}
use Rattle.resolvo_proof.specs.Trimmed.{IsRenumbered, IsTrimmedTo, IsTrimmed, StaysProof}
use Rattle.resolvo_proof.proofs.NumberLemmas.{one_place, falls_back, order}
use Rattle.resolvo_proof.proofs.ProveLemmas.{step_clause}

-- a renumbered step has its clause
clause_kept : {N S : Type 0} (same : S → S → Bool) (p : Packages N S) (from : List ℕ) (place : ℕ) (old step : ProofStep N S) → IsRenumbered from place old step → clause_of same p step ≡ clause_of same p old
clause_kept same p from place (Rule r) step is = ap (clause_of same p) is
clause_kept same p from place (Derived literals causes) step (renumbered, is, zip) = ap (clause_of same p) is

module _ {N S : Type 0} {Wanted : ℕ → Type 0} (steps kept : List (ProofStep N S)) (trimmed : IsTrimmedTo Wanted steps kept) where
  -- the place that a kept step had, and the step there
  pub was_at : (k : ℕ) (step : ProofStep N S) → slice_get kept k ≡ Some step → (place : ℕ) × (old : ProofStep N S) × (slice_get trimmed.from k ≡ Some place) × (slice_get steps place ≡ Some old) × IsRenumbered trimmed.from place old step
  was_at k step at =
      let within : k < length kept = slice_get_within kept k step at in
      let count : length kept ≡ length trimmed.from = trimmed.count in
      let (place, here) = get_below trimmed.from k (omega arith) in
      let (old, there, is) = trimmed.each k place step here at in
      (place, old, here, there, is)

  module _ (same_atom : Atom N S → Atom N S → Bool) (same : S → S → Bool) (p : Packages N S) (root : Rules) (proof : IsProof same_atom same p root steps) where
    -- a step is found by its number as by its place
    same_clause : (n place : ℕ) → slice_get trimmed.from n ≡ Some place → clause_at same p kept n ≡ clause_at same p steps place
    same_clause n place at =
        let within : n < length trimmed.from = slice_get_within trimmed.from n place at in
        let count : length kept ≡ length trimmed.from = trimmed.count in
        let (step, here) = get_below kept n (omega arith) in
        let (old, there, is) = trimmed.each n place step at here in
        step_clause same p kept n step here ∙ (clause_kept same p trimmed.from place old step is ∙ sym (step_clause same p steps place old there))

    -- the causes of a step by their numbers
    abbrev Numbers : ℕ → List ℕ → List ℕ → Type 0
    Numbers place = AllZip (λ cause number. cause < place → slice_get trimmed.from number ≡ Some cause)

    same_clauses : (place : ℕ) (causes numbers : List ℕ) → ((cause : ℕ) → Contains causes cause → cause < place) → Numbers place causes numbers → map (clause_at same p kept) numbers ≡ map (clause_at same p steps) causes
    same_clauses place [] [] earlier h = refl
    same_clauses place [] (n ∷ ns) earlier h = absurd h
    same_clauses place (c ∷ cs) [] earlier h = absurd h
    same_clauses place (c ∷ cs) (n ∷ ns) earlier (first, rest) =
        ap (λ (x : List (Literal (Atom N S))). x ∷ map (clause_at same p kept) ns) (same_clause n c (first (earlier c (contains_first c c cs refl))))
        ∙ ap (λ (xs : List (List (Literal (Atom N S)))). clause_at same p steps c ∷ xs) (same_clauses place cs ns (λ cause a. earlier cause (contains_later cause c cs a)) rest)

    same_count : (place : ℕ) (causes numbers : List ℕ) → Numbers place causes numbers → length numbers ≡ length causes
    same_count place [] [] h = refl
    same_count place [] (n ∷ ns) h = absurd h
    same_count place (c ∷ cs) [] h = absurd h
    same_count place (c ∷ cs) (n ∷ ns) (first, rest) = ap suc (same_count place cs ns rest)

    -- the number of an earlier cause is that of an earlier step
    numbers_earlier : (k place : ℕ) (causes numbers : List ℕ) → slice_get trimmed.from k ≡ Some place → ((cause : ℕ) → Contains causes cause → cause < place) → Numbers place causes numbers → (n : ℕ) → Contains numbers n → n < k
    numbers_earlier k place causes [] at earlier h n a = absurd (contains_none n a)
    numbers_earlier k place [] (m ∷ ns) at earlier h n a = absurd h
    numbers_earlier k place (c ∷ cs) (m ∷ ns) at earlier (first, rest) n a =
        let small : c < place = earlier c (contains_first c c cs refl) in
        elim (contains_cases n m ns a) [
          | inl e ↦ subst (λ i. i < k) (sym e) (falls_back trimmed.from trimmed.rising m k c place (first small) at small)
          | inr b ↦ numbers_earlier k place cs ns at (λ cause d. earlier cause (contains_later cause c cs d)) rest n b
        ]

    -- a step that is allowed at its old place is allowed at its number
    present : (k place : ℕ) (old step : ProofStep N S) → slice_get trimmed.from k ≡ Some place → IsRenumbered trimmed.from place old step → IsStep same_atom same p root steps place old → IsStep same_atom same p root kept k step
    present k place (Rule r) step at is may = subst (IsStep same_atom same p root kept k) (sym is) may
    present k place (Derived literals causes) step at (renumbered, is, zip) may =
        let r : IsRefuted same_atom same p root steps place literals.items causes.items = may in
        let new : IsRefuted same_atom same p root kept k literals.items renumbered.items = record {
          some = subst (λ n. 0 < n) (sym (same_count place causes.items renumbered.items zip)) r.some;
          earlier = numbers_earlier k place causes.items renumbered.items at r.earlier zip;
          refuted = subst (λ (xs : List (List (Literal (Atom N S)))). one_pass same_atom (map literal_in literals.items) xs ≡ true) (sym (same_clauses place causes.items renumbered.items r.earlier zip)) r.refuted;
        } in
        subst (IsStep same_atom same p root kept k) (sym is) new

    trimmed_proof : IsProof same_atom same p root kept
    trimmed_proof k step at = let (place, old, here, there, is) = was_at k step at in present k place old step here is (proof place old there)

-- the kept steps of a proof are one
pub trimmed_proves : {N S : Type 0} {Wanted : ℕ → Type 0} (steps kept : List (ProofStep N S)) → IsTrimmedTo Wanted steps kept → StaysProof steps kept
trimmed_proves steps kept trimmed same_atom same p root proof = trimmed_proof steps kept trimmed same_atom same p root proof

-- a list is the items before its last one, and that item
split_last : {X : Type 0} (xs : List X) (k : ℕ) (x : X) → slice_get xs k ≡ Some x → length xs ≡ suc k → (prefix : List X) × (xs ≡ prefix ++ x ∷ [])
split_last [] k x at long = absurd cc
split_last (y ∷ []) zero x at long = ([], let e : Some y ≡ Some x = at in cc)
split_last (y ∷ z ∷ xs) zero x at long = absurd (omega arith)
split_last (y ∷ xs) (suc k) x at long = let (prefix, e) = split_last xs k x at (omega arith) in (y ∷ prefix, ap (λ zs. y ∷ zs) e)

-- the last step stays the last
pub trimmed_empty : {N S : Type 0} (steps kept : List (ProofStep N S)) → IsTrimmed steps kept → EndsEmpty steps → EndsEmpty kept
trimmed_empty {N} {S} steps kept trimmed ends =
    let last : ProofStep N S = Derived ends.literals ends.causes in
    let at : slice_get steps (length ends.earlier) ≡ Some last = subst (λ (xs : List (ProofStep N S)). slice_get xs (length ends.earlier) ≡ Some last) (sym ends.ends) (get_last ends.earlier last) in
    let long : length steps ≡ length ends.earlier + 1 = ap length ends.ends ∙ length-append ends.earlier (last ∷ []) in
    let (k, here) = trimmed.wanted (length ends.earlier) (omega arith) (omega arith) in
    let within : k < length trimmed.from = slice_get_within trimmed.from k (length ends.earlier) here in
    let count : length kept ≡ length trimmed.from = trimmed.count in
    let (step, new) = get_below kept k (omega arith) in
    let (old, there, (renumbered, is, zip)) = found k step here new at in
    let (prefix, e) = split_last kept k step new (final k long here) in
    record {
      earlier = prefix;
      literals = ends.literals;
      causes = renumbered;
      ends = e ∙ ap (λ (x : ProofStep N S). prefix ++ x ∷ []) is;
      empty = ends.empty;
    }
  where
    found : (k : ℕ) (step : ProofStep N S) → slice_get trimmed.from k ≡ Some (length ends.earlier) → slice_get kept k ≡ Some step → slice_get steps (length ends.earlier) ≡ Some (Derived ends.literals ends.causes)
        → (old : ProofStep N S) × (slice_get steps (length ends.earlier) ≡ Some old) × IsRenumbered trimmed.from (length ends.earlier) (Derived ends.literals ends.causes) step
    found k step here new at =
        let (old, there, is) = trimmed.each k (length ends.earlier) step here new in
        (old, there, subst (λ (x : ProofStep N S). IsRenumbered trimmed.from (length ends.earlier) x step) (one_place steps (length ends.earlier) (length ends.earlier) old (Derived ends.literals ends.causes) refl there at) is)

    final : (k : ℕ) → length steps ≡ length ends.earlier + 1 → slice_get trimmed.from k ≡ Some (length ends.earlier) → length kept ≡ suc k
    final k long here = go (order (suc k) (length kept))
      where
        go : (suc k < length kept) ⊎ (length kept ≤ suc k) → length kept ≡ suc k
        go (inl less) =
            let (step, new) = get_below kept (suc k) less in
            let (place, old, next, there, is) = was_at steps kept trimmed (suc k) step new in
            let rises : length ends.earlier < place = trimmed.rising k (suc k) (length ends.earlier) place (omega arith) here next in
            let inside : place < length steps = slice_get_within steps place old there in
            absurd (omega arith)
        go (inr most) = let within : k < length trimmed.from = slice_get_within trimmed.from k (length ends.earlier) here in let count : length kept ≡ length trimmed.from = trimmed.count in omega arith
