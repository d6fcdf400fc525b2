-- Elements of lists that are made of other lists, and of the lines of a version.
use Rattle.std.proofs.Common.{◌≡◌, inl, inr, ℕ, List, [], ◌∷◌, Option, Some, None, sym, ap, subst, ◌∙◌}
use Rattle.std.specs.Prelude.{Contains, slice_get, option_to_list}
use Rattle.std.specs.List.{flat_map}
use Rattle.std.proofs.lemmas.List.Concat.{flat_map-cons}
use Rattle.std.proofs.lemmas.List.Elements.{Contains-append_left, Contains-append_right, Contains-append_cases}
use Rattle.resolvo_text.specs.Line.{Version, Spec, Cond, Line, Skipped, Listed, Needs, Limits, Unknown, Lock, Favour, Exclude, Many, Wish}
use Rattle.resolvo_catalogue_core.specs.Grammar.{line_at, owner_of}
use Rattle.resolvo_catalogue_core.specs.Questions.{AreAll, IsVersionLine, BelongsTo}
use Rattle.resolvo_terms.proofs.Places.{at_from_contains, contains_from_at, no_element, first_element, later_element, element_cases, each_left, each_right}
use Rattle.resolvo_terms.specs.Terms.{AreEach}
use Rattle.resolvo_catalogue.specs.Dependencies.{need_in, limit_in, reason_in, lines_at}
use Rattle.resolvo_catalogue.proofs.MarkLemmas.{one_some}

-- ---- pieces

pub flat_from : {X A : Type 0} (f : X → List A) (xs : List X) (y : A) → Contains (flat_map f xs) y → (x : X) × Contains xs x × Contains (f x) y
flat_from f [] y h = absurd (no_element y h)
flat_from f (x ∷ xs) y h = elim (Contains-append_cases (f x) (flat_map f xs) y (rw (flat_map-cons f x xs) at h)) [
  | inl here ↦ (x, first_element x xs, here)
  | inr more ↦ let m = flat_from f xs y more in (m.0, later_element x xs m.0 m.1, m.2)
]

pub flat_to : {X A : Type 0} (f : X → List A) (xs : List X) (x : X) (y : A) → Contains xs x → Contains (f x) y → Contains (flat_map f xs) y
flat_to f [] x y c h = absurd (no_element x c)
flat_to f (z ∷ xs) x y c h = rw (flat_map-cons f z xs) (elim (element_cases z xs x c) [
  | inl same ↦ Contains-append_left (f z) (flat_map f xs) y (subst (λ w. Contains (f w) y) (sym same) h)
  | inr more ↦ Contains-append_right (f z) (flat_map f xs) y (flat_to f xs x y more h)
])

pub option_from : {X : Type 0} (o : Option X) (x : X) → Contains (option_to_list o) x → o ≡ Some x
option_from None x h = absurd (no_element x h)
option_from (Some y) x h = elim (element_cases y [] x h) [ inl same ↦ ap (λ (z : _). Some z) same | inr more ↦ absurd (no_element x more) ]

pub option_to : {X : Type 0} (o : Option X) (x : X) → o ≡ Some x → Contains (option_to_list o) x
option_to o x e = rw e (first_element x [])

pub each_from_left : {X Y : Type 0} (R : X → Y → Type 0) (xs : List X) (ys : List Y) → AreEach R xs ys → (x : X) → Contains xs x → (y : Y) × Contains ys y × R x y
each_from_left R xs ys h x c = let at = at_from_contains xs x c in let e = each_left R xs ys h at.0 x at.1 in (e.0, contains_from_at ys e.0 at.0 e.1, e.2)

pub each_from_right : {X Y : Type 0} (R : X → Y → Type 0) (xs : List X) (ys : List Y) → AreEach R xs ys → (y : Y) → Contains ys y → (x : X) × Contains xs x × R x y
each_from_right R xs ys h y c = let at = at_from_contains ys y c in let e = each_right R xs ys h at.0 y at.1 in (e.0, contains_from_at xs e.0 at.0 e.1, e.2)

-- ---- the need or limit of a line

pub need_from : (l : Line) (written : List Spec × Option Cond) → Contains (need_in l) written → l ≡ Needs written.0 written.1
need_from (Needs ss c) written h = elim (element_cases (ss, c) [] written h) [ inl same ↦ ap (λ (x : List Spec × Option Cond). Needs x.0 x.1) same | inr more ↦ absurd (no_element written more) ]
need_from Skipped written h = absurd (no_element written h)
need_from (Listed v) written h = absurd (no_element written h)
need_from (Limits s) written h = absurd (no_element written h)
need_from (Unknown r) written h = absurd (no_element written h)
need_from (Lock v) written h = absurd (no_element written h)
need_from (Favour v) written h = absurd (no_element written h)
need_from (Many name) written h = absurd (no_element written h)
need_from (Exclude v r) written h = absurd (no_element written h)
need_from (Wish v) written h = absurd (no_element written h)

pub limit_from : (l : Line) (s : Spec) → Contains (limit_in l) s → l ≡ Limits s
limit_from (Limits t) s h = elim (element_cases t [] s h) [ inl same ↦ ap (λ (x : Spec). Limits x) same | inr more ↦ absurd (no_element s more) ]
limit_from Skipped s h = absurd (no_element s h)
limit_from (Listed v) s h = absurd (no_element s h)
limit_from (Needs ss c) s h = absurd (no_element s h)
limit_from (Unknown r) s h = absurd (no_element s h)
limit_from (Lock v) s h = absurd (no_element s h)
limit_from (Favour v) s h = absurd (no_element s h)
limit_from (Many name) s h = absurd (no_element s h)
limit_from (Exclude v r) s h = absurd (no_element s h)
limit_from (Wish v) s h = absurd (no_element s h)

pub reason_from : (l : Line) (reason : List ℕ) → Contains (reason_in l) reason → l ≡ Unknown reason
reason_from (Unknown r) reason h = elim (element_cases r [] reason h) [ inl same ↦ ap (λ (x : List ℕ). Unknown x) same | inr more ↦ absurd (no_element reason more) ]
reason_from Skipped reason h = absurd (no_element reason h)
reason_from (Listed v) reason h = absurd (no_element reason h)
reason_from (Needs ss c) reason h = absurd (no_element reason h)
reason_from (Limits s) reason h = absurd (no_element reason h)
reason_from (Lock v) reason h = absurd (no_element reason h)
reason_from (Favour v) reason h = absurd (no_element reason h)
reason_from (Many name) reason h = absurd (no_element reason h)
reason_from (Exclude v r) reason h = absurd (no_element reason h)
reason_from (Wish v) reason h = absurd (no_element reason h)

-- ---- the lines of a version

module _ (versions : List Version) (lines : List Line) (k : ℕ) (v : Version) (at : slice_get versions k ≡ Some v) (numbers : List ℕ) (all : AreAll numbers (IsVersionLine versions lines k BelongsTo)) where
  pub from_lines : (l : Line) → Contains (lines_at lines numbers) l → (n : ℕ) × (line_at lines n ≡ Some l) × BelongsTo v (owner_of lines n) l
  from_lines l h =
      let f = flat_from (λ n. option_to_list (line_at lines n)) numbers l h in
      let there = option_from (line_at lines f.0) l f.2 in
      let line_is = (all.all f.0).0 f.1 in
      let same : line_is.2.0 ≡ l = one_some (sym line_is.2.1 ∙ there) in
      let is : line_is.0 ≡ v = one_some (sym line_is.1 ∙ at) in
      (f.0, there, subst (λ (w : Version). BelongsTo w (owner_of lines f.0) l) is (subst (λ (x : Line). BelongsTo line_is.0 (owner_of lines f.0) x) same line_is.2.2))

  pub to_lines : (n : ℕ) (l : Line) → line_at lines n ≡ Some l → BelongsTo v (owner_of lines n) l → Contains (lines_at lines numbers) l
  to_lines n l there belongs = flat_to (λ m. option_to_list (line_at lines m)) numbers n l ((all.all n).1 (v, at, (l, there, belongs))) (option_to (line_at lines n) l there)
