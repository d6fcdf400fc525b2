-- Flags of the steps that lead to wanted ones of a proof, found from the back.
use Rattle.std.proofs.Common.{◌≡◌, ℕ, zero, suc, ◌-◌, ◌<◌, ◌≤◌, inl, inr, Bool, true, false, List, [], ◌∷◌, ◌++◌, length, take, replicate, Some, refl, sym, ◌∙◌, ap, subst, arith}
use Rattle.std.specs.Prelude.{slice_get, slice_set, Contains}
use Rattle.std.proofs.lemmas.Option.{slice_get_within}
use Rattle.std.proofs.lemmas.List.{length-set, length-replicate}
use Rattle.std.proofs.lemmas.Bool.{cases_eq}
use Rattle.std.proofs.Math.Seq.{take-nil}
use Rattle.resolvo_sat.proofs.Lists.{contains_none, contains_one, contains_left, contains_right, contains_parts, contains_first}
use Rattle.resolvo_state.proofs.Positions.{get_set_here, get_set_other}
use Rattle.resolvo_proof.specs.declared.step.ProofStep.{ProofStep}
use Rattle.resolvo_proof.specs.Trimmed.{Names, IsFlagged, Flags, AreLeadingFrom}

-- one more that is named
pub flags_more : (xs : List ℕ) (c place : ℕ) (old mid : List Bool) → c < place → place ≤ length old → Flags (Contains xs) place old mid → Flags (Contains (xs ++ c ∷ [])) place old (slice_set mid c true)
flags_more xs c place old mid below long (same, kept, named, only) = (
  length-set mid c true ∙ same,
  λ k h. keep k (kept k h),
  λ k n small. elim (contains_parts k xs (c ∷ []) n) [
    | inl a ↦ keep k (named k a small)
    | inr a ↦ subst (IsFlagged (slice_set mid c true)) (sym (contains_one k c a)) here
  ],
  λ k h. elim (cases_eq k c) [
    | inl e ↦ inr (contains_right k xs (c ∷ []) (contains_first k c [] (sym e)), omega arith)
    | inr other ↦ elim (only k (sym (get_set_other mid c k true other) ∙ h)) [ inl a ↦ inl a | inr (a, small) ↦ inr (contains_left k xs (c ∷ []) a, small) ]
  ],
)
  where
    here : IsFlagged (slice_set mid c true) c
    here = get_set_here mid c true (omega arith)

    keep : (k : ℕ) → IsFlagged mid k → IsFlagged (slice_set mid c true) k
    keep k h = elim (cases_eq k c) [ inl e ↦ subst (IsFlagged (slice_set mid c true)) (sym e) here | inr other ↦ get_set_other mid c k true other ∙ h ]

-- one more that is no earlier step
pub flags_skip : (xs : List ℕ) (c place : ℕ) (old new : List Bool) → place ≤ c → Flags (Contains xs) place old new → Flags (Contains (xs ++ c ∷ [])) place old new
flags_skip xs c place old new past (same, kept, named, only) = (
  same,
  kept,
  λ k n small. elim (contains_parts k xs (c ∷ []) n) [
    | inl a ↦ named k a small
    | inr a ↦ (let e : k ≡ c = contains_one k c a in absurd (omega arith))
  ],
  λ k h. elim (only k h) [ inl a ↦ inl a | inr (a, small) ↦ inr (contains_left k xs (c ∷ []) a, small) ],
)

-- one step further back, which is flagged
pub leads_more : {N S : Type 0} {Wanted : ℕ → Type 0} (steps : List (ProofStep N S)) (p : ℕ) (step : ProofStep N S) (old new : List Bool) → slice_get steps p ≡ Some step → IsFlagged old p → Flags (Names step) p old new → AreLeadingFrom (suc p) Wanted steps old → AreLeadingFrom p Wanted steps new
leads_more {N} {S} steps p step old new at flagged (same, kept, marked, only) leads = record {
  count = same ∙ leads.count;
  wanted = λ k is within. kept k (leads.wanted k is within);
  closed = λ k cause s from is there names below. elim (cases_eq k p) [
    | inl e ↦ marked cause (subst (λ (x : ProofStep N S). Names x cause) (one_step k s e there) names) (omega arith)
    | inr other ↦ elim (only k is) [
      | inl was ↦ kept cause (leads.closed k cause s (omega (arith, other)) was there names below)
      | inr (n, small) ↦ absurd (omega arith)
    ]
  ];
  named = λ k is. elim (only k is) [
    | inl was ↦ elim (leads.named k was) [
      | inl is_wanted ↦ inl is_wanted
      | inr (later, s, after, f, there, names) ↦ inr (later, s, after, kept later f, there, names)
    ]
    | inr (n, small) ↦ inr (p, step, small, kept p flagged, at, n)
  ];
}
  where
    one_step : (k : ℕ) (s : ProofStep N S) → k ≡ p → slice_get steps k ≡ Some s → s ≡ step
    one_step k s e there = let both : Some s ≡ Some step = sym there ∙ (ap (slice_get steps) e ∙ at) in cc

-- one that is not
pub leads_skip : {N S : Type 0} {Wanted : ℕ → Type 0} (steps : List (ProofStep N S)) (p : ℕ) (flags : List Bool) → (IsFlagged flags p → ⊥) → AreLeadingFrom (suc p) Wanted steps flags → AreLeadingFrom p Wanted steps flags
leads_skip steps p flags out leads = record {
  count = leads.count;
  wanted = leads.wanted;
  closed = λ k cause s from is there names below. elim (cases_eq k p) [
    | inl e ↦ absurd (out (subst (IsFlagged flags) e is))
    | inr other ↦ leads.closed k cause s (omega (arith, other)) is there names below
  ];
  named = leads.named;
}

-- at first the wanted steps alone are flagged
pub leads_first : {N S : Type 0} {Wanted : ℕ → Type 0} (steps : List (ProofStep N S)) (none new : List Bool) → length none ≡ length steps → ((k : ℕ) → IsFlagged none k → ⊥) → Flags Wanted (length steps) none new → AreLeadingFrom (length steps) Wanted steps new
leads_first steps none new many empty (same, kept, marked, only) = record {
  count = same ∙ many;
  wanted = marked;
  closed = λ place cause s from is there names below. absurd (let within : place < length steps = slice_get_within steps place s there in omega arith);
  named = λ place is. elim (only place is) [ inl was ↦ absurd (empty place was) | inr (is_wanted, within) ↦ inl is_wanted ];
}

get_replicate : (n k : ℕ) → IsFlagged (replicate n false) k → ⊥
get_replicate zero k h = absurd cc
get_replicate (suc n) zero h = (let e : Some false ≡ Some true = h in absurd cc)
get_replicate (suc n) (suc k) h = get_replicate n k h

-- none is flagged before
pub none_flagged : (n k : ℕ) (old flags : List Bool) → old ≡ [] → k ≡ 0 → flags ≡ take n old ++ replicate (n - k) false → (length flags ≡ n) × ((k : ℕ) → IsFlagged flags k → ⊥)
none_flagged n k old flags empty at_start is = (ap length plain ∙ length-replicate n false, λ i h. get_replicate n i (subst (λ xs. IsFlagged xs i) plain h))
  where
    plain : flags ≡ replicate n false
    plain = is ∙ (ap (λ (xs : List Bool). take n xs ++ replicate (n - k) false) empty ∙ (ap (λ (xs : List Bool). xs ++ replicate (n - k) false) (take-nil n) ∙ ap (λ i. replicate i false) (omega arith)))
