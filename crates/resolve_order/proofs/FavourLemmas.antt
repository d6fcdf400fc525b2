-- The favoured version of each package, from the catalogue's `favour` lines.
use Rattle.std.proofs.Common.{◌≡◌, inl, inr, ℕ, ◌<◌, Bool, true, false, if◌then◌else◌, List, [], ◌∷◌, ◌++◌, length, map, take, get_or, Option, Some, None, refl, sym, ap, subst, ◌∙◌, arith, get_or-take, length-take}
use Rattle.std.specs.Prelude.{slice_get, Contains}
use Rattle.std.specs.Str.{bytes_eq}
use Rattle.std.proofs.lemmas.Bool.{false≢true, cases_lt}
use Rattle.std.proofs.lemmas.List.Elements.{Contains-push_cases}
use Rattle.std.proofs.lemmas.Option.{slice_get-get_or}
use Rattle.std.proofs.lemmas.Slice.Eq.{bytes_eq-Decides}
use Rattle.resolvo_text.specs.Line.{Version, Line, Favour}
use Rattle.resolvo_catalogue_core.specs.Grammar.{line_at, AreCatalogueLines}
use Rattle.resolvo_catalogue_core.specs.Listed.{listed}
use Rattle.resolvo_catalogue_core.specs.Questions.{AreAll, LineIs, IsFavour, FavoursAt}
use Rattle.resolvo_catalogue_core.specs.declared.rule.VersionNo.{VersionNo}
use Rattle.resolvo_catalogue_core.proofs.PlaceLemmas.{line_from_contains, contains_from_line}
use Rattle.resolve_order.specs.Kept.{IsFavouredOf}
use Rattle.resolve_order.proofs.Elements.{no_element, mapped_element}

-- of the first `favour` lines: the favoured version of the package is found, or none of them is for the package
abbrev pub IsFavouredSoFar : List Line → List (ℕ × VersionNo) → List ℕ → Option VersionNo → Type 0
IsFavouredSoFar catalogue seen name None = (f : ℕ × VersionNo) (v : Version) → Contains seen f → slice_get (listed catalogue) f.1.0 ≡ Some v → v.name ≡ name → ⊥
IsFavouredSoFar catalogue seen name (Some k) = (v : Version) × (slice_get (listed catalogue) k.0 ≡ Some v) × (v.name ≡ name) × Contains catalogue (Favour v)

pub no_favours : (catalogue : List Line) (name : List ℕ) → IsFavouredSoFar catalogue [] name None
no_favours catalogue name = λ f v c at is. no_element f c

-- one line more
pub favours_more : (catalogue : List Line) (seen : List (ℕ × VersionNo)) (f : ℕ × VersionNo) (v : Version) (name : List ℕ) (before after : Option VersionNo) → FavoursAt (listed catalogue) catalogue f → slice_get (listed catalogue) f.1.0 ≡ Some v
    → after ≡ (if bytes_eq v.name name then Some f.1 else before) → IsFavouredSoFar catalogue seen name before → IsFavouredSoFar catalogue (seen ++ f ∷ []) name after
favours_more catalogue seen f v name before after favours at is h = subst (IsFavouredSoFar catalogue (seen ++ f ∷ []) name) (sym is) (by_test (bytes_eq v.name name) refl)
  where
    same : favours.0 ≡ v
    same = (let a = favours.1 in cc)

    kept : (o : Option VersionNo) → bytes_eq v.name name ≡ false → IsFavouredSoFar catalogue seen name o → IsFavouredSoFar catalogue (seen ++ f ∷ []) name o
    kept None e h = λ g w c at_w is_w. elim (Contains-push_cases seen f g c) [
      | inl old ↦ h g w old at_w is_w
      | inr new ↦
          let it : v ≡ w = (let a = subst (λ (x : ℕ × VersionNo). slice_get (listed catalogue) x.1.0 ≡ Some w) (sym new) at_w in cc) in
          false≢true (sym e ∙ (bytes_eq-Decides v.name name).1 (ap (λ (x : Version). x.name) it ∙ is_w))
    ]
    kept (Some k) e h = h

    by_test : (b : Bool) → bytes_eq v.name name ≡ b → IsFavouredSoFar catalogue (seen ++ f ∷ []) name (if b then Some f.1 else before)
    by_test true e = (v, at, (bytes_eq-Decides v.name name).0 e, subst (λ (x : Version). Contains catalogue (Favour x)) same (contains_from_line catalogue f.0 (Favour favours.0) favours.2))
    by_test false e = kept before e h

-- ---- all lines

-- A package's versions are favoured once.
favoured_before : (catalogue : List Line) → AreCatalogueLines catalogue → (v w : Version) (i j : ℕ) → slice_get catalogue j ≡ Some (Favour w) → i < length catalogue → get_or catalogue i (Favour v) ≡ Favour v → i < j → j < length catalogue → v.name ≡ w.name → ⊥
favoured_before catalogue grammatical v w i j at_j lt_i at_i before lt_j name =
    (grammatical j (Favour w) at_j).1.place.1 v.number
    (subst (λ (x : List ℕ). Contains (take j catalogue) (Favour (record { name = x; number = v.number }))) name
    (i, simp length-take (omega arith), get_or-take j catalogue i (Favour v) before ∙ at_i))

one_favoured : (catalogue : List Line) → AreCatalogueLines catalogue → (v w : Version) → Contains catalogue (Favour v) → Contains catalogue (Favour w) → w.name ≡ v.name → w ≡ v
one_favoured catalogue grammatical v w cv cw name = elim (cases_lt cv.0 cw.0) [
  | inl before ↦ absurd (favoured_before catalogue grammatical v w cv.0 cw.0 (at cw) cv.1 cv.2 before cw.1 (sym name))
  | inr after ↦ elim (cases_lt cw.0 cv.0) [
    | inl before ↦ absurd (favoured_before catalogue grammatical w v cw.0 cv.0 (at cv) cw.1 cw.2 before cv.1 name)
    | inr same ↦
        let is : cv.0 ≡ cw.0 = omega (arith, after, same) in
        let one = at cv in
        let two = subst (λ (i : ℕ). slice_get catalogue i ≡ Some (Favour w)) (sym is) (at cw) in
        cc
  ]
]
  where
    at : {x : Line} (c : Contains catalogue x) → slice_get catalogue c.0 ≡ Some x
    at {x} c = slice_get-get_or catalogue c.0 x c.1 ∙ ap Some c.2

pub favours_all : (catalogue : List Line) (favours : List (ℕ × VersionNo)) (name : List ℕ) (o : Option VersionNo) → AreCatalogueLines catalogue → AreAll (map (λ f. f.0) favours) (λ n. LineIs catalogue n IsFavour)
    → ((i : ℕ) (f : ℕ × VersionNo) → slice_get favours i ≡ Some f → FavoursAt (listed catalogue) catalogue f) → IsFavouredSoFar catalogue favours name o → IsFavouredOf catalogue name o
favours_all catalogue favours name None grammatical lines versions h = λ v c is.
    let n = line_from_contains catalogue (Favour v) (λ owner line. line ≡ Favour v) c (λ owner. refl) in
    let at : line_at catalogue n.0 ≡ Some (Favour v) = n.1.1 ∙ ap Some n.1.2 in
    let f = mapped_element (λ f. f.0) favours n.0 ((lines.all n.0).1 (Favour v, at, tt)) in
    none_for v n.0 f.0 f.1 f.2 at is
  where
    none_for : (v : Version) (n : ℕ) (f : ℕ × VersionNo) → Contains favours f → f.0 ≡ n → line_at catalogue n ≡ Some (Favour v) → v.name ≡ name → ⊥
    none_for v n f c number at is =
        let w = versions c.0 f (slice_get-get_or favours c.0 f c.1 ∙ ap Some c.2) in
        let e : line_at catalogue n ≡ Some (Favour w.0) = subst (λ (i : ℕ). line_at catalogue i ≡ Some (Favour w.0)) number w.2 in
        let same : w.0 ≡ v = cc in
        h f w.0 c w.1 (ap (λ (x : Version). x.name) same ∙ is)
favours_all catalogue favours name (Some k) grammatical lines versions h = (h.0, h.1, h.2, h.3, λ w c is. one_favoured catalogue grammatical h.0 w h.3 c (is ∙ sym h.2))
