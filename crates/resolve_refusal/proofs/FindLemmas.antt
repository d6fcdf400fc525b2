-- The lines of a place, and the first of them with a given content.
use Rattle.std.proofs.Common.{◌≡◌, ◌<◌, ◌≤◌, ◌+◌, ◌-◌, ℕ, Bool, true, false, Bor, zero, suc, List, [], ◌∷◌, take, length, get_or, Option, Some, sym, ◌∙◌, ap, subst, arith, inl, inr}
use Rattle.std.specs.Prelude.{Decides, Contains, slice_get}
use Rattle.std.specs.List.Sorted.{IsStrictlyIncreasing}
use Rattle.std.proofs.lemmas.List.Elements.{Contains-get_or}
use Rattle.std.proofs.lemmas.Bool.{cases_eq, cases_lt, false≢true}
use Rattle.resolvo_text.specs.declared.spec.Spec as code
use Rattle.resolvo_text.specs.View.{spec_of, specs_of}
use Rattle.resolvo_text.specs.Line.{Version, Spec, Line}
use Rattle.resolvo_catalogue_core.specs.Grammar.{line_at}
use Rattle.resolvo_catalogue_core.specs.Questions.{AreAll, IsRuleLine, is_rule}
use Rattle.resolvo_catalogue_core.specs.declared.rule.Rule.{Rule}
use Rattle.resolvo_terms.proofs.Places.{at_from_contains}
use Rattle.std.proofs.lemmas.Option.{slice_get_within, get_or_from_slice_get}
use Rattle.std.proofs.lemmas.List.{take_more, take_all}
use Rattle.resolvo_sat.proofs.Lists.{contains_one, contains_parts}
use Rattle.resolve_refusal.specs.declared.lines.PlaceLines.{PlaceLines}
use Rattle.resolve_refusal.specs.declared.lines.PlaceLines.TheVariants as of_place
use Rattle.resolve_refusal.specs.Lines.{count_of, number_at, AreLines, IsAt, IsLineAt, NeedsIn, NeedsAs, IsNeedLine}

-- ---- elements so far

-- a property of the places so far and of this one
pub below_more : (Q : ℕ → Type 0) (i : ℕ) → ((j : ℕ) → j < i → Q j) → Q i → (j : ℕ) → j < i + 1 → Q j
below_more Q i before here j below = elim (cases_lt j i) [
  | inl earlier ↦ before j earlier
  | inr later ↦ subst Q (let e : i ≡ j = omega (arith, below, later) in e) here
]

-- a property of the elements so far and of the next one
pub all_more : (Q : ℕ → Type 0) (xs : List ℕ) (i : ℕ) → i < length xs → ((m : ℕ) → Contains (take i xs) m → Q m) → Q (get_or xs i 0) → (m : ℕ) → Contains (take (i + 1) xs) m → Q m
all_more Q xs i lt before here m has = elim (contains_parts m (take i xs) (get_or xs i 0 ∷ []) (subst (λ (ys : List ℕ). Contains ys m) (take_more xs i 0 lt) has)) [
  | inl old ↦ before m old
  | inr new ↦ subst Q (sym (contains_one m (get_or xs i 0) new)) here
]

-- at the end it holds of all
pub all_taken : (Q : ℕ → Type 0) (xs : List ℕ) (i : ℕ) → length xs ≤ i → ((m : ℕ) → Contains (take i xs) m → Q m) → (m : ℕ) → Contains xs m → Q m
all_taken Q xs i end all m has = all m (subst (λ (ys : List ℕ). Contains ys m) (sym (take_all i xs end)) has)

-- SPECs at one place of lists that are the same
pub specs_at : (xs ys : List code.Spec) (i : ℕ) (x y : code.Spec) → slice_get xs i ≡ Some x → slice_get ys i ≡ Some y → specs_of xs ≡ specs_of ys → spec_of x ≡ spec_of y
specs_at [] ys i x y at there same = absurd cc
specs_at (a ∷ xs) [] i x y at there same = absurd cc
specs_at (a ∷ xs) (b ∷ ys) zero x y at there same = (let e : a ≡ x = cc in let f : b ≡ y = cc in let g : spec_of a ≡ spec_of b = cc in ap spec_of (sym e) ∙ g ∙ ap spec_of f)
specs_at (a ∷ xs) (b ∷ ys) (suc i) x y at there same = specs_at xs ys i x y at there cc

-- a list that rises at each place rises over any distance
rises : (xs : List ℕ) → IsStrictlyIncreasing xs → (i j : ℕ) → i < j → j < length xs → get_or xs i 0 < get_or xs j 0
rises xs up i zero before within = absurd (omega (arith, before))
rises xs up i (suc j) before within =
    let step : get_or xs j 0 < get_or xs (j + 1) 0 = up j (omega (arith, within)) in
    let last : get_or xs (j + 1) 0 ≡ get_or xs (suc j) 0 = ap (λ k. get_or xs k 0) (omega arith) in
    elim (cases_eq i j) [
      | inl same ↦ (let first : get_or xs i 0 ≡ get_or xs j 0 = ap (λ k. get_or xs k 0) same in omega (arith, first, step, last))
      | inr other ↦ (let more : get_or xs i 0 < get_or xs j 0 = rises xs up i j (omega (arith, before, other)) (omega (arith, within)) in omega (arith, more, step, last))
    ]

-- ---- the lines of a place

-- all up to a number
pub all_up_to : (last count : ℕ) → last ≡ count → AreLines (of_place.UpTo last) (λ n. (1 ≤ n) × (n ≤ count))
all_up_to last count is = record {
  rising = λ i j before below. omega (arith, before);
  only = λ i below. (omega arith, omega (arith, below, is));
  all = λ n (first, fits). (n - 1, omega (arith, first, fits, is), omega (arith, first));
}

-- these, which rise
pub all_these : (lines : Bor (List ℕ)) (P : ℕ → Type 0) → AreAll lines.now P → AreLines (of_place.These lines) P
all_these lines P all = record {
  rising = rises lines.now all.rising;
  only = λ i below. (all.all _).0 (Contains-get_or lines.now i 0 below);
  all = λ n holds. (let (i, at) = at_from_contains lines.now n ((all.all n).1 holds) in (i, slice_get_within lines.now i n at, get_or_from_slice_get lines.now i n 0 at));
}

module _ (lines : PlaceLines) (Among P : ℕ → Type 0) (are : AreLines lines Among) (i : ℕ) (before : (k : ℕ) → k < i → P (number_at lines k) → ⊥) where
  -- where none of the lines before it has the property, no smaller one does
  pub none_smaller : i < count_of lines → (m : ℕ) → m < number_at lines i → Among m → P m → ⊥
  none_smaller within m below here holds =
      let (k, there, is) = are.all m here in
      elim (cases_lt k i) [
        | inl earlier ↦ before k earlier (subst P (sym is) holds)
        | inr later ↦ elim (cases_eq i k) [
          | inl same ↦ (let at : number_at lines i ≡ m = ap (number_at lines) same ∙ is in omega (arith, below, at))
          | inr other ↦ (let up : number_at lines i < number_at lines k = are.rising i k (omega (arith, later, other)) there in omega (arith, below, up, is))
        ]
      ]

  -- at the end none has it
  pub none_at_all : count_of lines ≤ i → (m : ℕ) → Among m → P m → ⊥
  none_at_all end m here holds = (let (k, there, is) = are.all m here in before k (omega (arith, end, there)) (subst P (sym is) holds))

-- the first line that needs something in a case
pub need_here : (lines : PlaceLines) (Among : ℕ → Type 0) (text : List Line) (alternatives case : List Spec) → AreLines lines Among → (i : ℕ) → ((k : ℕ) → k < i → IsAt text (NeedsIn alternatives case) (number_at lines k) → ⊥) → i < count_of lines
    → (n k : ℕ) → n ≡ number_at lines i → IsAt text (NeedsAs alternatives case k) n → IsNeedLine Among text alternatives case (Some (record { line = n; case = k }))
need_here lines Among text alternatives case are i before within n k is needs = (
  subst Among (sym is) (are.only i within),
  needs,
  λ m below. none_smaller lines Among (IsAt text (NeedsIn alternatives case)) are i before within m (subst (λ (j : ℕ). m < j) is below),
)

-- ---- the rule of a line

-- line n of the text has this rule
abbrev pub IsLineRule : List Line → ℕ → Rule → Type 0
IsLineRule lines n r = (l : Line) × (versions : List Version) × (owner : Option Version) × (line_at lines n ≡ Some l) × IsRuleLine versions r owner l

-- what a test of the rule decides of the line
pub decides_at : (lines : List Line) (n : ℕ) (r : Rule) (line : Line) (b : Bool) → IsLineRule lines n r → ((versions : List Version) (owner : Option Version) (l : Line) → IsRuleLine versions r owner l → Decides b (l ≡ line)) → Decides b (IsLineAt lines line n)
decides_at lines n r line b (l, versions, owner, there, states) test =
    let decides = test versions owner l states in (
      λ e. there ∙ ap (λ (x : Line). Some x) (decides.0 e),
      λ at. decides.1 (let both : Some l ≡ Some line = sym there ∙ at in cc),
    )

-- a line without a rule is no such line
pub no_rule_at : (lines : List Line) (n : ℕ) (line : Line) → is_rule line ≡ true → ((l : Line) → line_at lines n ≡ Some l → is_rule l ≡ false) → Decides false (IsLineAt lines line n)
no_rule_at lines n line has none = (λ e. absurd (false≢true e), λ at. absurd (false≢true (sym (none line at) ∙ has)))
