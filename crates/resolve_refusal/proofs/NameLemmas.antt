-- Lines that steps rest on, by flags.
use Rattle.std.proofs.Common.{◌≡◌, ℕ, zero, suc, ◌+◌, ◌-◌, ◌<◌, ◌⊎◌, inl, inr, Bool, true, false, List, [], ◌∷◌, ◌++◌, take, replicate, length, Some, None, refl, sym, ◌∙◌, ap, subst, arith}
use Rattle.std.specs.Prelude.{◌↔◌}
use Rattle.std.proofs.lemmas.Bool.{cases_eq}
use Rattle.std.proofs.lemmas.List.{length-replicate}
use Rattle.std.proofs.Math.Seq.{take-nil}
use Rattle.resolvo_catalogue_core.specs.Questions.{AreAll}
use Rattle.resolvo_catalogue_core.proofs.Pushed.{Grows, all_new}
use Rattle.resolvo_sat.proofs.Lists.{contains_none, contains_one, contains_left, contains_right, contains_parts, contains_first}
use Rattle.resolvo_report.specs.Value.{Step}
use Rattle.resolve_refusal.specs.declared.named_lines.Text.{Text}
use Rattle.resolve_refusal.specs.Named.{line_in, RestsOn, IsNamedBy, IsFlagged, IsFlaggedLine, AreFlagged}

-- the same lines have another description
all_alike : {P Q : ℕ → Type 0} (numbers : List ℕ) → ((n : ℕ) → P n ↔ Q n) → AreAll numbers P → AreAll numbers Q
all_alike numbers alike all = record { rising = all.rising; all = λ n. (λ h. (alike n).0 ((all.all n).0 h), λ q. (all.all n).1 ((alike n).1 q)) }

-- the flagged lines are those that steps rest on
pub flagged_named : (of : Text) (count : ℕ) (steps : List Step) (flags : List Bool) (numbers : List ℕ) → AreFlagged of count steps flags → AreAll numbers (IsFlaggedLine flags (length flags)) → AreAll numbers (IsNamedBy of count steps)
flagged_named of count steps flags numbers are all = all_alike numbers (λ n. (
  λ (k, e, below, is). (k, e, (let l : length flags ≡ count = are.long in omega arith), subst (RestsOn of steps) (sym e) (are.only k is)),
  λ (k, e, below, rests). (k, e, (let l : length flags ≡ count = are.long in omega arith), are.set k below (subst (RestsOn of steps) e rests)),
)) all

get_replicate : (n k : ℕ) → IsFlagged (replicate n false) k → ⊥
get_replicate zero k h = absurd cc
get_replicate (suc n) zero h = (let e : Some false ≡ Some true = h in absurd cc)
get_replicate (suc n) (suc k) h = get_replicate n k h

-- no steps rest on lines at first
pub none_flagged : (of : Text) (n k : ℕ) (old flags : List Bool) → old ≡ [] → k ≡ 0 → flags ≡ take n old ++ replicate (n - k) false → AreFlagged of n [] flags
none_flagged of n k old flags empty at_start is = record {
  long = ap length plain ∙ length-replicate n false;
  set = λ i below (s, h, e). absurd (contains_none s h);
  only = λ i h. absurd (get_replicate n i (subst (λ xs. IsFlagged xs i) plain h));
}
  where
    plain : flags ≡ replicate n false
    plain = is ∙ (ap (λ (xs : List Bool). take n xs ++ replicate (n - k) false) empty ∙ (ap (λ (xs : List Bool). xs ++ replicate (n - k) false) (take-nil n) ∙ ap (λ i. replicate i false) (omega arith)))

rests_push : (of : Text) (steps : List Step) (s : Step) (n : ℕ) → RestsOn of (steps ++ s ∷ []) n → RestsOn of steps n ⊎ (line_in of s ≡ Some n)
rests_push of steps s n (t, h, e) = elim (contains_parts t steps (s ∷ []) h) [
  | inl a ↦ inl (t, a, e)
  | inr a ↦ inr (subst (λ (x : Step). line_in of x ≡ Some n) (contains_one t s a) e)
]

-- one more step, whose line is flagged
pub flagged_more : (of : Text) (count : ℕ) (steps : List Step) (s : Step) (line : ℕ) (old new : List Bool) → line_in of s ≡ Some line → length new ≡ length old → ((k : ℕ) → IsFlagged old k → IsFlagged new k) → ((k : ℕ) → line ≡ suc k → k < length old → IsFlagged new k)
    → ((k : ℕ) → IsFlagged new k → IsFlagged old k ⊎ (line ≡ suc k)) → AreFlagged of count steps old → AreFlagged of count (steps ++ s ∷ []) new
flagged_more of count steps s line old new rests_here long kept set only are = record {
  long = long ∙ are.long;
  set = λ k below rests. elim (rests_push of steps s (suc k) rests) [
    | inl a ↦ kept k (are.set k below a)
    | inr e ↦ set k (one_line (sym rests_here ∙ e)) (let l : length old ≡ count = are.long in omega arith)
  ];
  only = λ k is. elim (only k is) [
    | inl a ↦ (let (t, h, e) = are.only k a in (t, contains_left t steps (s ∷ []) h, e))
    | inr e ↦ (s, contains_right s steps (s ∷ []) (contains_first s s [] refl), rests_here ∙ ap Some e)
  ];
}
  where
    one_line : {m n : ℕ} → Some m ≡ Some n → m ≡ n
    one_line e = cc

-- one more step, which rests on no line of the text
pub flagged_skip : (of : Text) (count : ℕ) (steps : List Step) (s : Step) (flags : List Bool) → line_in of s ≡ None → AreFlagged of count steps flags → AreFlagged of count (steps ++ s ∷ []) flags
flagged_skip of count steps s flags rests_here are = record {
  long = are.long;
  set = λ k below rests. elim (rests_push of steps s (suc k) rests) [
    | inl a ↦ are.set k below a
    | inr e ↦ (let both : None ≡ Some (suc k) = sym rests_here ∙ e in absurd cc)
  ];
  only = λ k is. (let (t, h, e) = are.only k is in (t, contains_left t steps (s ∷ []) h, e));
}

-- the lines whose flags are before one more flag
pub lines_more : (flags : List Bool) (i : ℕ) (numbers : List ℕ) → IsFlagged flags i → AreAll numbers (IsFlaggedLine flags i) → AreAll (numbers ++ (i + 1) ∷ []) (IsFlaggedLine flags (i + 1))
lines_more flags i numbers is all = all_new {C = IsFlagged flags i} all (lines_grow flags i) (λ n (k, e, below, f). omega arith) is
  where
    lines_grow : (flags : List Bool) (i : ℕ) → Grows (IsFlaggedLine flags i) (IsFlaggedLine flags (i + 1)) (i + 1) (IsFlagged flags i)
    lines_grow flags i = record {
      kept = λ n (k, e, below, f). (k, e, omega arith, f);
      cases = λ n (k, e, below, f). elim (cases_eq k i) [
        | inl same ↦ inr (omega arith, subst (IsFlagged flags) same f)
        | inr other ↦ inl (k, e, omega (arith, other), f)
      ];
      added = λ f. (i, omega arith, omega arith, f);
    }

pub lines_skip : (flags : List Bool) (i : ℕ) (numbers : List ℕ) → (IsFlagged flags i → ⊥) → AreAll numbers (IsFlaggedLine flags i) → AreAll numbers (IsFlaggedLine flags (i + 1))
lines_skip flags i numbers out all = all_alike numbers (λ n. (
  λ (k, e, below, f). (k, e, omega arith, f),
  λ (k, e, below, f). elim (cases_eq k i) [ inl same ↦ absurd (out (subst (IsFlagged flags) same f)) | inr other ↦ (k, e, omega (arith, other), f) ],
)) all
