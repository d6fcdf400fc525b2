-- The reasons of a refused soft requirement: no rule-keeping set has it beside the earlier
-- decisions.
use Rattle.std.proofs.Common.{◌≡◌, ℕ, zero, suc, ◌+◌, ◌<◌, ◌≤◌, ◌⊎◌, inl, inr, Bool, true, false, List, [], ◌∷◌, ◌++◌, length, map, Some, refl, sym, ◌∙◌, ap, subst, arith}
use Rattle.std.specs.Prelude.{slice_get}
use Rattle.std.proofs.lemmas.Bool.{both_ways}
use Rattle.resolvo_pool_core.specs.declared.id.ClauseId.{ClauseId}
use Rattle.resolvo_pool_core.specs.declared.id.VariableId.{VariableId}
use Rattle.resolvo_pool_core.specs.RuleKeeping.{Packages, Rules, is_in, IsRuleKeeping}
use Rattle.resolvo_store_core.specs.Signed.{Signed, negation, has}
use Rattle.resolvo_store_core.specs.Clauses.{yes, no, root as root_variable}
use Rattle.resolvo_store_core.specs.declared.decision.Entry.{Entry}
use Rattle.resolvo_sat.specs.declared.state.VariableKind.{VariableKind}
use Rattle.resolvo_sat.specs.declared.state.VariableKind.TheVariants as Kinds
use Rattle.resolvo_sat.specs.Analysis.{IsAssumption, IsReason, IsRefusal}
use Rattle.resolvo_sat.specs.Entries.{literal_of, made_true, top_level, IsChoice, IsOnTrail, IsTrail}
use Rattle.resolvo_sat.specs.State.{count_of, history, clauses_of}
use Rattle.resolvo_sat.specs.Steps.{choice_entry}
use Rattle.resolvo_sat.proofs.Literals.{negation-negation, has-cons}
use Rattle.resolvo_sat.proofs.Trails.{known_from_level, level_le_last, level_from_entry}
use Rattle.resolvo_sat.specs.RuleClauses.{IsExact, Atom, minus}
use Rattle.resolvo_sat.specs.Numbered.{Means, Denies}
use Rattle.resolvo_sat.proofs.Turns.{turn_refused}
use Rattle.resolvo_state.specs.declared.atom.ProofAtom.{ProofAtom}
use Rattle.resolvo_state.specs.declared.atom.ProofAtom.TheVariants.{Solvable}
use Rattle.resolvo_state.specs.declared.atom.ProofAtom.TheVariants as Atoms
use Rattle.resolvo_state.specs.Atoms.{kind_of, origin, Represents}
use Rattle.resolvo_state.proofs.Growth.{below_or_not, coding_coded}
use Rattle.resolvo_state.proofs.Positions.{get_mapped}
use Rattle.resolvo_state.proofs.Origins.{means_solvable, means_atom}
use Rattle.resolvo_encoder.specs.declared.encoder.Encoder.{Encoder}
use Rattle.resolvo_encoder.specs.Base.{base_of, IsOpen, IsTaken, DeniesEarlier, IsBlame, IsBlamed}
use Rattle.resolvo_encoder.specs.Encoded.{IsEncoding, Registered}
use Rattle.resolvo_encoder.specs.Encoded as E
use Rattle.resolvo_encoder.proofs.Bases.{above_choice, on_trail_below}
use Rattle.resolvo_encoder.proofs.Digits.{digit_found, digits_agree}

-- ---- the variable of a solvable

kind_solvable : {N S : Type 0} (a : ProofAtom N S) → kind_of a ≡ Kinds.Solvable → (s : S) × (a ≡ Solvable s)
kind_solvable (Solvable s) h = (s, refl)
kind_solvable (Atoms.AtLeastOne n) h = absurd cc
kind_solvable (Atoms.Matches v) h = absurd cc
kind_solvable (Atoms.Gate r) h = absurd cc
kind_solvable (Atoms.Outside v) h = absurd cc
kind_solvable (Atoms.Bit n bit) h = absurd cc

solvable_of_kind : {N S : Type 0} (atoms : List (ProofAtom N S)) (v : VariableId) (n : ℕ) → v.0 ≡ n → slice_get (Kinds.Root ∷ map kind_of atoms) n ≡ Some Kinds.Solvable → (s : S) × Represents atoms v (Solvable s)
solvable_of_kind atoms v zero is h = absurd cc
solvable_of_kind atoms v (suc k) is h =
    let (a, at, kind) = get_mapped kind_of atoms k Kinds.Solvable h in
    let (s, same) = kind_solvable a kind in
    (s, (k, is, at ∙ ap (λ x. Some x) same))

zero_or_more : (n : ℕ) → (n ≡ 0) ⊎ (0 < n)
zero_or_more zero = inl refl
zero_or_more (suc n) = inr (omega arith)

-- ---- the only decision at the turn's first level

choice_alone : (count : ℕ) (cs : List (List Signed)) (level : ℕ) (v : VariableId) (q : List Entry) (c : Entry) (base : List Entry) (d : Entry) (older : List Entry)
    → IsTrail count cs (q ++ c ∷ base) → c.level ≡ level → top_level base < level → literal_of c ≡ yes v → IsOnTrail (q ++ c ∷ base) d older → IsChoice d older → d.level ≡ level → literal_of d ≡ yes v
choice_alone count cs level v [] c base d older t high low is (inl (same, rest)) choice at = ap literal_of (sym same) ∙ is
choice_alone count cs level v [] c base d older t high low is (inr s) choice at =
    let under : d.level ≤ top_level base = level_le_last count cs base (literal_of d) d.level t.1 (level_from_entry base d older s) in
    absurd (omega arith)
choice_alone count cs level v (x ∷ q) c base d older t high low is (inl (same, rest)) choice at =
    let reached : level ≤ top_level (q ++ c ∷ base) = above_choice count cs level q (c ∷ base) t.1 (omega arith) in
    let top : top_level (q ++ c ∷ base) ≡ top_level older = ap top_level rest in
    let opens : d.level ≡ suc (top_level older) = choice.opens in
    absurd (omega arith)
choice_alone count cs level v (x ∷ q) c base d older t high low is (inr s) choice at = choice_alone count cs level v q c base d older t.1 high low is s choice at

-- ---- the denied solvable of a literal

module _ {N S : Type 0} (same : S → S → Bool) (exact : IsExact same) (p : Packages N S) (root : Rules) (e : Encoder N S) (holds : IsEncoding same p root e) where
  -- a decision is of the root, or of a solvable
  choice_solvable : (d : Entry) (older : List Entry) → IsOnTrail (history e.coding.search) d older → IsChoice d older → (d.decision.variable.0 ≡ 0) ⊎ ((s : S) × Represents e.coding.atoms.keys d.decision.variable (Solvable s))
  choice_solvable d older present is = elim (zero_or_more d.decision.variable.0) [
    | inl zeroth ↦ inl zeroth
    | inr some ↦ inr (elim (holds.called d older present is some) [
      | inl soft ↦ (soft.solvable, (means_solvable e.coding.atoms.keys (literal_of d) soft.solvable (some, sym soft.is)).1)
      | inr pick ↦ (pick.solvable, (means_solvable e.coding.atoms.keys (literal_of d) pick.solvable (some, sym pick.is)).1)
    ])
  ]

  -- the negation of a positive entry's literal denies its variable
  denied_entry : (l : Signed) (d : Entry) → literal_of d ≡ negation l → d.decision.value ≡ true → (literal_of d ≡ yes d.decision.variable) × (l ≡ no d.decision.variable)
  denied_entry l d is chosen =
      let truth : literal_of d ≡ yes d.decision.variable = (λ i. record { variable = d.decision.variable; positive = chosen i }) in
      (truth, sym (negation-negation l) ∙ ap negation (sym is ∙ truth))

  -- an entry below the turn's first level that makes a solvable true
  denies_base : (l : Signed) (d : Entry) (older : List Entry) → IsOnTrail (history e.coding.search) d older → literal_of d ≡ negation l → d.decision.value ≡ true → d.level < e.coding.search.base_level
      → (s : S) → Represents e.coding.atoms.keys d.decision.variable (Solvable s) → DeniesEarlier e l
  denies_base l d older present is chosen low s named =
      let there : IsOnTrail (base_of e) d older = on_trail_below e.coding.search.base_level (history e.coding.search) d older present low in
      let (truth, denied) = denied_entry l d is chosen in
      (s, d.decision.variable, denied, named, subst (λ (x : Signed). has (made_true (base_of e)) x ≡ true) truth (known_from_level (base_of e) (literal_of d) d.level (level_from_entry (base_of e) d older there)))

  -- a kept decision below the turn's first level is the root's, or of a solvable that was true
  -- before the turn
  denies_low : (l : Signed) (d : Entry) (older : List Entry) → IsOnTrail (history e.coding.search) d older → literal_of d ≡ negation l → IsAssumption e.coding.search d older → d.level < e.coding.search.base_level
      → (l ≡ no root_variable) ⊎ DeniesEarlier e l
  denies_low l d older present is kept low = elim kept.begins [
    | inl (under, kind) ↦ (
        let (s, named) = solvable_of_kind e.coding.atoms.keys d.decision.variable d.decision.variable.0 refl (subst (λ (ks : List VariableKind). slice_get ks d.decision.variable.0 ≡ Some Kinds.Solvable) holds.coding.variable_kinds kind) in
        inr (denies_base l d older present is kept.chosen low s named))
    | inr choice ↦ elim (choice_solvable d older present choice) [
      | inl zeroth ↦ inl ((denied_entry l d is kept.chosen).1 ∙ ap no (λ i. record { 0 = zeroth i }))
      | inr (s, named) ↦ inr (denies_base l d older present is kept.chosen low s named)
    ]
  ]

  -- the final conflict of a decided soft requirement
  pub refusal_blames : (v : VariableId) (literals : List Signed) (causes : List ClauseId) → IsOpen e v → has (made_true (history e.coding.search)) (yes v) ≡ true → IsRefusal e.coding.search literals causes → IsBlamed e v literals causes
  refusal_blames v literals causes o known refusal = record { derived = refusal.derived; caused = refusal.caused; from = refusal.from; blame = blame }
    where
      blame : IsBlame e v literals
      blame l h =
          let (d, older, present, is, kept) = refusal.denies l h in
          let begun : top_level (base_of e) + 1 ≡ e.coding.search.base_level = o.begun in
          elim (below_or_not d.level e.coding.search.base_level) [
            | inl low ↦ elim (denies_low l d older present is kept low) [ inl a ↦ inl a | inr a ↦ inr (inr a) ]
            | inr high ↦ elim kept.begins [
              | inl (under, kind) ↦ absurd (let x : d.level < e.coding.search.base_level = under in omega arith)
              | inr choice ↦
                  let (c, (q, ends)) = o.first known in
                  let highest : d.level ≤ e.coding.search.base_level = kept.low in
                  let which : literal_of d ≡ yes v = choice_alone (count_of e.coding.search) (clauses_of e.coding.search) e.coding.search.base_level v q (choice_entry v c (base_of e)) (base_of e) d older
                  (subst (λ (x : List Entry). IsTrail (count_of e.coding.search) (clauses_of e.coding.search) x) ends holds.coding.ready.state.trail) (omega arith) (omega arith) refl
                  (subst (λ (x : List Entry). IsOnTrail x d older) ends present) choice (omega arith) in
                  inr (inl (sym (negation-negation l) ∙ ap negation (sym is ∙ which)))
            ]
          ]

  -- the final conflict of a soft requirement that is false before its turn
  pub reason_blames : (v : VariableId) (literals : List Signed) (causes : List ClauseId) → top_level (history e.coding.search) < e.coding.search.base_level → IsReason e.coding.search (no v) literals causes → IsBlamed e v literals causes
  reason_blames v literals causes low reason = record { derived = reason.derived; caused = reason.caused; from = reason.from; blame = blame }
    where
      blame : IsBlame e v literals
      blame l h = elim (reason.denies l h) [
        | inl itself ↦ elim (has-cons (no v) [] l itself) [ inl is ↦ inr (inl (sym is)) | inr none ↦ absurd (both_ways false refl none) ]
        | inr (d, older, present, is, kept) ↦
            let under : d.level ≤ top_level (history e.coding.search) = level_le_last (count_of e.coding.search) (clauses_of e.coding.search) (history e.coding.search) (literal_of d) d.level holds.coding.ready.state.trail (level_from_entry (history e.coding.search) d older present) in
            elim (denies_low l d older present is kept (omega arith)) [ inl a ↦ inl a | inr a ↦ inr (inr a) ]
      ]

  -- A rule-keeping set with all that was true before the turn doesn't have the soft requirement.
  pub blame_refuses : (same_name : N → N → Bool) → IsExact same_name → (v : VariableId) (s : S) (literals : List Signed) (causes : List ClauseId) → IsBlamed e v literals causes → Represents e.coding.atoms.keys v (Solvable s)
      → (chosen : List S) → IsRuleKeeping same p root chosen → ((t : S) → IsTaken e t → is_in same p chosen t ≡ true) → is_in same p chosen s ≡ true → ⊥
  blame_refuses same_name names v s literals causes blamed present chosen keeping taken held =
      turn_refused same exact same_name names p root (origin e.coding.atoms.keys) (E.rules_of e) (Registered same p root e) (count_of e.coding.search) e.coding.search.clauses literals causes (digit_found same e.coding.kinds.items) chosen chosen
      (coding_coded same p (Registered same p root e) e.coding holds.coding holds.spelled holds.positive) holds.rule (digits_agree same exact p root e holds) blamed.derived denies keeping (λ t h. h)
    where
      denial : (l : Signed) (u : VariableId) (t : S) → l ≡ no u → Represents e.coding.atoms.keys u (Solvable t) → Means (origin e.coding.atoms.keys) l (minus (Atom.solvable t))
      denial l u t is named = subst (λ (x : Signed). Means (origin e.coding.atoms.keys) x (minus (Atom.solvable t))) (sym is) (means_atom e.coding.atoms.keys (no u) (Solvable t) named)

      denies : Denies (origin e.coding.atoms.keys) same p chosen literals
      denies l h = elim (blamed.blame l h) [
        | inl of_root ↦ inl of_root
        | inr (inl soft) ↦ inr (s, denial l v s soft present, held)
        | inr (inr (t, u, is, named, truth)) ↦ inr (t, denial l u t is named, taken t (u, named, truth))
      ]

  -- A clause without literals excludes each rule-keeping set.
  pub empty_refuses : (same_name : N → N → Bool) → IsExact same_name → (v : VariableId) (literals : List Signed) (causes : List ClauseId) → IsBlamed e v literals causes → length literals ≡ 0
      → (chosen : List S) → IsRuleKeeping same p root chosen → ⊥
  empty_refuses same_name names v literals causes blamed none chosen keeping =
      turn_refused same exact same_name names p root (origin e.coding.atoms.keys) (E.rules_of e) (Registered same p root e) (count_of e.coding.search) e.coding.search.clauses literals causes (digit_found same e.coding.kinds.items) chosen chosen
      (coding_coded same p (Registered same p root e) e.coding holds.coding holds.spelled holds.positive) holds.rule (digits_agree same exact p root e holds) blamed.derived (λ l h. absurd (nothing literals none l h)) keeping (λ t h. h)
    where
      nothing : (ls : List Signed) → length ls ≡ 0 → (l : Signed) → has ls l ≡ true → ⊥
      nothing [] none l h = both_ways false refl h
      nothing (x ∷ xs) none l h = omega arith
