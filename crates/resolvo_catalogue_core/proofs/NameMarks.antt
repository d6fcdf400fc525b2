-- Marks of packages by the numbers of their names: more names, one more mark.
use Rattle.std.proofs.Common.{◌≡◌, ◌∙◌, ◌<◌, ◌≤◌, inl, inr, ℕ, false, List, [], length, get_or, Option, Some, None, refl, sym, ap, subst, arith}
use Rattle.std.specs.Prelude.{slice_get, option_and_then, nat_eq}
use Rattle.std.specs.BTreeMap.{BTreeMap, get}
use Rattle.std.specs.Map.{update}
use Rattle.std.specs.Ordering.{nat_cmp}
use Rattle.std.specs.Str.{bytes_eq}
use Rattle.std.proofs.lemmas.Bool.{cases_Bool, cases_lt, false≢true}
use Rattle.std.proofs.lemmas.Bool.Decides.{Decides-eqb}
use Rattle.std.proofs.lemmas.Option.{same_Some, slice_get-get_or}
use Rattle.std.proofs.lemmas.Slice.Eq.{bytes_eq-Decides}
use Rattle.resolvo_terms.specs.Known.{place_of}
use Rattle.resolvo_terms.specs.Terms.{AreOnce, Extends}
use Rattle.resolvo_terms.proofs.TextPlaces.{place_is, has_place, is_place}
use Rattle.resolvo_catalogue_core.specs.Table.{mark_of, AreMarksOf}

abbrev mark_at : BTreeMap ℕ ℕ → Option ℕ → Option ℕ
mark_at marks o = option_and_then (λ n. get nat_cmp marks n) o

-- the mark of a name that has a number
pub marked_at : (names : List (List ℕ)) (marks : BTreeMap ℕ ℕ) (name : List ℕ) (n : ℕ) → AreOnce names → slice_get names n ≡ Some name → mark_of names marks name ≡ get nat_cmp marks n
marked_at names marks name n once named = ap (λ (o : Option ℕ). mark_at marks o) (is_place names name n once named)

-- ---- no marks

pub no_entry : (marks : BTreeMap ℕ ℕ) → marks.entries ≡ [] → (n : ℕ) → get nat_cmp marks n ≡ None
no_entry marks none n = rw none refl

pub no_mark : (names : List (List ℕ)) (marks : BTreeMap ℕ ℕ) (name : List ℕ) → ((n : ℕ) → get nat_cmp marks n ≡ None) → mark_of names marks name ≡ None
no_mark names marks name none = by (place_of names name)
  where
    by : (o : Option ℕ) → mark_at marks o ≡ None
    by None = refl
    by (Some n) = none n

pub no_marks : (names : List (List ℕ)) (marks : BTreeMap ℕ ℕ) → ((n : ℕ) → get nat_cmp marks n ≡ None) → AreMarksOf names marks
no_marks names marks none n line is = absurd (apart (sym (none n) ∙ is))
  where
    apart : ◌≡◌ {A = Option ℕ} None (Some line) → ⊥
    apart e = cc

-- ---- more names

pub marks_stay : (names more : List (List ℕ)) (marks : BTreeMap ℕ ℕ) → length names ≤ length more → AreMarksOf names marks → AreMarksOf more marks
marks_stay names more marks few of n line is = let within = of n line is in omega (arith, few, within)

-- more names change no mark
pub more_marks : (names more : List (List ℕ)) (marks : BTreeMap ℕ ℕ) (name : List ℕ) → Extends names more → AreOnce more → AreMarksOf names marks → mark_of more marks name ≡ mark_of names marks name
more_marks names more marks name extends once of = by (place_of names name) refl
  where
    nothing : (j : ℕ) → length names ≤ j → (o : Option ℕ) → get nat_cmp marks j ≡ o → get nat_cmp marks j ≡ None
    nothing j past None is = is
    nothing j past (Some line) is = let within = of j line is in absurd (omega (arith, past, within))

    -- a name that has a number only among the later ones
    later : place_of names name ≡ None → (o : Option ℕ) → place_of more name ≡ o → mark_at marks o ≡ None
    later none None is = refl
    later none (Some j) is = elim (cases_lt j (length names)) [
      | inl within ↦
          let was = slice_get-get_or names j [] within in
          let same : get_or names j [] ≡ name = same_Some (get_or names j []) name (sym (extends j (get_or names j []) was) ∙ place_is more name j is) in
          absurd (has_place names name j (was ∙ ap (λ (x : List ℕ). Some x) same) none)
      | inr past ↦ nothing j (omega (arith, past)) (get nat_cmp marks j) refl
    ]

    by : (o : Option ℕ) → place_of names name ≡ o → mark_at marks (place_of more name) ≡ mark_at marks (place_of names name)
    by None is = later is (place_of more name) refl ∙ sym (ap (λ (o : Option ℕ). mark_at marks o) is)
    by (Some i) is = ap (λ (o : Option ℕ). mark_at marks o) (is_place more name i once (extends i name (place_is names name i is)) ∙ sym is)

-- ---- one more mark

module _ (names : List (List ℕ)) (before after : BTreeMap ℕ ℕ) (n line : ℕ) (updated : (j : ℕ) → get nat_cmp after j ≡ update nat_eq (get nat_cmp before) n (Some line) j) where
  pub marks_more : AreMarksOf names before → n < length names → AreMarksOf names after
  marks_more of within j l is = elim (cases_Bool (nat_eq n j)) [
    | inl same ↦ subst (λ (k : ℕ). k < length names) ((Decides-eqb n j).0 same) within
    | inr apart ↦ of j l (sym (updated j ∙ rw apart refl) ∙ is)
  ]

  pub mark_updated : (name : List ℕ) → AreOnce names → slice_get names n ≡ Some name → (other : List ℕ) → mark_of names after other ≡ update bytes_eq (mark_of names before) name (Some line) other
  mark_updated name once named other = elim (cases_Bool (bytes_eq name other)) [
    | inl same ↦
        let is : name ≡ other = (bytes_eq-Decides name other).0 same in
        let here : slice_get names n ≡ Some other = named ∙ ap (λ (x : List ℕ). Some x) is in
        marked_at names after other n once here ∙ updated n ∙ rw (same, (Decides-eqb n n).1 refl) refl
    | inr apart ↦ by apart (place_of names other) refl ∙ rw apart refl
  ]
    where
      -- the mark of another name's number
      at : bytes_eq name other ≡ false → (i : ℕ) → slice_get names i ≡ Some other → get nat_cmp after i ≡ get nat_cmp before i
      at apart i there = elim (cases_Bool (nat_eq n i)) [
        | inl same ↦
            let is : n ≡ i = (Decides-eqb n i).0 same in
            let one : name ≡ other = same_Some name other (sym named ∙ ap (λ (k : ℕ). slice_get names k) is ∙ there) in
            absurd (false≢true (sym apart ∙ (bytes_eq-Decides name other).1 one))
        | inr differs ↦ updated i ∙ rw differs refl
      ]

      by : bytes_eq name other ≡ false → (o : Option ℕ) → place_of names other ≡ o → mark_at after (place_of names other) ≡ mark_at before (place_of names other)
      by apart None is = ap (λ (o : Option ℕ). mark_at after o) is ∙ sym (ap (λ (o : Option ℕ). mark_at before o) is)
      by apart (Some i) is = ap (λ (o : Option ℕ). mark_at after o) is ∙ at apart i (place_is names other i is) ∙ sym (ap (λ (o : Option ℕ). mark_at before o) is)
