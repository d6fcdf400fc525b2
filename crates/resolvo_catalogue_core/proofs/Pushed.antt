-- One more element at the end of a list: look-ups, and which numbers have a property then.
use Rattle.std.proofs.Common.{◌≡◌, ◌⊎◌, inl, inr, ℕ, zero, suc, Bool, ◌+◌, ◌<◌, List, [], ◌∷◌, ◌++◌, length, take, get_or, if◌then◌else◌, Option, Some, None, refl, sym, ap, subst, ◌∙◌, add-one, arith}
use Rattle.std.specs.Prelude.{Contains, slice_get}
use Rattle.std.specs.List.Sorted.{IsStrictlyIncreasing}
use Rattle.std.proofs.Math.ListN.{get_or-append}
use Rattle.std.proofs.Math.Seq.{get_or-append_seam, take-append_seam}
use Rattle.std.proofs.lemmas.Bool.{cases_lt, cases_Bool, false≢true}
use Rattle.std.specs.Bool.{Decides}
use Rattle.std.specs.Map.{update}
use Rattle.std.proofs.lemmas.List.{length-append, take-append-le}
use Rattle.std.proofs.lemmas.List.Elements.{Contains-append_left, Contains-get_or, Contains-push, Contains-push_cases}
use Rattle.std.proofs.lemmas.Option.{slice_get_within}
use Rattle.resolvo_terms.proofs.Places.{get_new, get_kept, get_push}
use Rattle.resolvo_text.specs.Line.{Version, Line}
use Rattle.resolvo_catalogue_core.specs.Grammar.{line_at, owner_below}
use Rattle.resolvo_catalogue_core.specs.Questions.{IsOnly, AreAll, LineIs, IsVersionLine}

-- ---- lists

pub increasing_push : (xs : List ℕ) (m : ℕ) → IsStrictlyIncreasing xs → ((n : ℕ) → Contains xs n → n < m) → IsStrictlyIncreasing (xs ++ m ∷ [])
increasing_push xs m rising below = λ k h.
    elim (cases_lt (k + 1) (length xs)) [
      | inl within ↦ rw (get_or-append xs (m ∷ []) 0 k (omega arith), get_or-append xs (m ∷ []) 0 (k + 1) within) (rising k within)
      | inr past ↦
          let last : k + 1 ≡ length xs = omega (arith, h, length-append xs (m ∷ [])) in
          let within : k < length xs = omega (arith, last) in
          rw (get_or-append xs (m ∷ []) 0 k within, last, get_or-append_seam xs m [] 0) (below (get_or xs k 0) (Contains-get_or xs k 0 within))
    ]

-- ---- numbers with a property

-- The numbers with the property are those of before, and m if C holds.
pub record Grows (P Q : ℕ → Type 0) (m : ℕ) (C : Type 0) : Type 0 where
  pub kept : (n : ℕ) → P n → Q n
  pub cases : (n : ℕ) → Q n → P n ⊎ ((n ≡ m) × C)
  pub added : C → Q m

pub only_other : {P Q : ℕ → Type 0} {m : ℕ} {C : Type 0} {found : Option ℕ} → IsOnly found P → Grows P Q m C → (C → ⊥) → IsOnly found Q
only_other only grows not = λ n. (λ is. grows.kept n ((only n).0 is), λ q. elim (grows.cases n q) [ inl p ↦ (only n).1 p | inr h ↦ absurd (not h.1) ])

pub only_new : {P Q : ℕ → Type 0} {m : ℕ} {C : Type 0} → IsOnly None P → Grows P Q m C → C → IsOnly (Some m) Q
only_new {Q = Q} {m = m} only grows new = λ n. (λ is. let same : m ≡ n = cc in subst Q same (grows.added new), λ q. elim (grows.cases n q) [ inl p ↦ absurd (none_is_some n ((only n).1 p)) | inr h ↦ cc ])
  where
    none_is_some : (n : ℕ) → ◌≡◌ {A = Option ℕ} None (Some n) → ⊥
    none_is_some n e = cc

pub all_other : {P Q : ℕ → Type 0} {m : ℕ} {C : Type 0} {numbers : List ℕ} → AreAll numbers P → Grows P Q m C → (C → ⊥) → AreAll numbers Q
all_other all grows not = record {
  rising = all.rising;
  all = λ n. (λ has. grows.kept n ((all.all n).0 has), λ q. elim (grows.cases n q) [ inl p ↦ (all.all n).1 p | inr h ↦ absurd (not h.1) ]);
}

pub all_new : {P Q : ℕ → Type 0} {m : ℕ} {C : Type 0} {numbers : List ℕ} → AreAll numbers P → Grows P Q m C → ((n : ℕ) → P n → n < m) → C → AreAll (numbers ++ m ∷ []) Q
all_new {Q = Q} {m = m} {numbers = numbers} all grows below new = record {
  rising = increasing_push numbers m all.rising (λ n has. below n ((all.all n).0 has));
  all = λ n. (
    λ has. elim (Contains-push_cases numbers m n has) [ inl old ↦ grows.kept n ((all.all n).0 old) | inr same ↦ subst Q same (grows.added new) ],
    λ q. elim (grows.cases n q) [ inl p ↦ Contains-append_left numbers (m ∷ []) n ((all.all n).1 p) | inr h ↦ subst (λ (k : ℕ). Contains (numbers ++ m ∷ []) k) (sym h.0) (Contains-push numbers m) ],
  );
}

-- a map with a new number at one key, of which the new line speaks
pub keyed_new : {K : Type 0} (eq : K → K → Bool) (decides : (a b : K) → Decides (eq a b) (a ≡ b)) (f g : K → Option ℕ) (key : K) (m : ℕ) (P Q : K → ℕ → Type 0) (C : K → Type 0)
    → ((k : K) → g k ≡ update eq f key (Some m) k) → f key ≡ None → ((k : K) → IsOnly (f k) (P k)) → ((k : K) → Grows (P k) (Q k) m (C k)) → C key → ((k : K) → C k → key ≡ k)
    → (k : K) → IsOnly (g k) (Q k)
keyed_new eq decides f g key m P Q C updated was only grows new one = λ k.
    elim (cases_Bool (eq key k)) [
      | inl same_key ↦
          let same : key ≡ k = (decides key k).0 same_key in
          let none : f k ≡ None = ap f (sym same) ∙ was in
          let found : g k ≡ Some m = updated k ∙ rw same_key refl in
          subst (λ (o : Option ℕ). IsOnly o (Q k)) (sym found) (only_new (subst (λ (o : Option ℕ). IsOnly o (P k)) none (only k)) (grows k) (subst C same new))
      | inr apart ↦
          let found : g k ≡ f k = updated k ∙ rw apart refl in
          subst (λ (o : Option ℕ). IsOnly o (Q k)) (sym found) (only_other (only k) (grows k) (λ c. false≢true (sym apart ∙ (decides key k).1 (one k c))))
    ]

-- lists of numbers by keys, with the new line at one of them
pub keyed_more : {K : Type 0} (eq : K → K → Bool) (decides : (a b : K) → Decides (eq a b) (a ≡ b)) (f g : K → List ℕ) (key : K) (m : ℕ) (P Q : K → ℕ → Type 0) (C : K → Type 0)
    → ((k : K) → g k ≡ (if eq key k then f k ++ m ∷ [] else f k)) → ((k : K) → AreAll (f k) (P k)) → ((k : K) → Grows (P k) (Q k) m (C k)) → ((k : K) (n : ℕ) → P k n → n < m) → C key → ((k : K) → C k → key ≡ k)
    → (k : K) → AreAll (g k) (Q k)
keyed_more eq decides f g key m P Q C updated were grows below new one = λ k.
    elim (cases_Bool (eq key k)) [
      | inl same_key ↦
          let same : key ≡ k = (decides key k).0 same_key in
          let found : g k ≡ f k ++ m ∷ [] = updated k ∙ rw same_key refl in
          subst (λ (xs : List ℕ). AreAll xs (Q k)) (sym found) (all_new (were k) (grows k) (below k) (subst C same new))
      | inr apart ↦
          let found : g k ≡ f k = updated k ∙ rw apart refl in
          subst (λ (xs : List ℕ). AreAll xs (Q k)) (sym found) (all_other (were k) (grows k) (λ c. false≢true (sym apart ∙ (decides key k).1 (one k c))))
    ]

-- the place of an element
pub get_grows : {X : Type 0} (xs : List X) (x y : X) → Grows (λ n. slice_get xs n ≡ Some y) (λ n. slice_get (xs ++ x ∷ []) n ≡ Some y) (length xs) (x ≡ y)
get_grows xs x y = record {
  kept = λ n at. get_kept xs x y n at;
  cases = λ n at. get_push xs x y n at;
  added = λ same. get_new xs x ∙ ap (λ z. Some z) same;
}

-- ---- lines

-- a line is one of before, or the new one
line_push : (lines : List Line) (l : Line) (Q : Option Version → Line → Type 0) (n : ℕ) → LineIs (lines ++ l ∷ []) n Q → LineIs lines n Q ⊎ ((n ≡ length lines + 1) × Q (owner_below lines) l)
line_push lines l Q zero (x, at, q) = absurd cc
line_push lines l Q (suc n) (x, at, q) =
    elim (get_push lines l x n at) [
      | inl old ↦ inl (x, old, subst (λ (ls : List Line). Q (owner_below ls) x) (take-append-le n lines (l ∷ []) (omega (arith, slice_get_within lines n x old))) q)
      | inr new ↦ inr (omega (arith, new.0), subst (λ (y : Line). Q (owner_below lines) y) (sym new.1) (subst (λ (ls : List Line). Q (owner_below ls) x) (above new.0) q))
    ]
  where
    above : n ≡ length lines → take n (lines ++ l ∷ []) ≡ lines
    above e = rw e (take-append_seam lines (l ∷ []))

line_kept : (lines : List Line) (l : Line) (Q : Option Version → Line → Type 0) (n : ℕ) → LineIs lines n Q → LineIs (lines ++ l ∷ []) n Q
line_kept lines l Q zero (x, at, q) = absurd cc
line_kept lines l Q (suc n) (x, at, q) =
    (x, get_kept lines l x n at, subst (λ (ls : List Line). Q (owner_below ls) x) (sym (take-append-le n lines (l ∷ []) (omega (arith, slice_get_within lines n x at)))) q)

pub at_kept : (lines : List Line) (l : Line) (n : ℕ) (x : Line) → line_at lines n ≡ Some x → line_at (lines ++ l ∷ []) n ≡ Some x
at_kept lines l zero x at = absurd cc
at_kept lines l (suc n) x at = get_kept lines l x n at

pub line_within : (lines : List Line) (Q : Option Version → Line → Type 0) (n : ℕ) → LineIs lines n Q → n < length lines + 1
line_within lines Q zero (x, at, q) = absurd cc
line_within lines Q (suc n) (x, at, q) = omega (arith, slice_get_within lines n x at)

line_new : (lines : List Line) (l : Line) (Q : Option Version → Line → Type 0) → Q (owner_below lines) l → LineIs (lines ++ l ∷ []) (length lines + 1) Q
line_new lines l Q q = rw add-one (l, get_new lines l, subst (λ (ls : List Line). Q (owner_below ls) l) (sym (take-append_seam lines (l ∷ []))) q)

pub line_grows : (lines : List Line) (l : Line) (Q : Option Version → Line → Type 0) → Grows (λ n. LineIs lines n Q) (λ n. LineIs (lines ++ l ∷ []) n Q) (length lines + 1) (Q (owner_below lines) l)
line_grows lines l Q = record { kept = line_kept lines l Q; cases = line_push lines l Q; added = line_new lines l Q }

-- ---- lines of a version

pub version_line_grows : (versions : List Version) (lines : List Line) (l : Line) (k : ℕ) (Q : Version → Option Version → Line → Type 0)
    → Grows (IsVersionLine versions lines k Q) (IsVersionLine versions (lines ++ l ∷ []) k Q) (length lines + 1) ((v : Version) × (slice_get versions k ≡ Some v) × Q v (owner_below lines) l)
version_line_grows versions lines l k Q = record {
  kept = λ n h. (h.0, h.1, line_kept lines l (Q h.0) n h.2);
  cases = λ n h. elim (line_push lines l (Q h.0) n h.2) [ inl old ↦ inl (h.0, h.1, old) | inr new ↦ inr (new.0, (h.0, h.1, new.1)) ];
  added = λ h. (h.0, h.1, line_new lines l (Q h.0) h.2);
}

pub version_line_within : (versions : List Version) (lines : List Line) (k : ℕ) (Q : Version → Option Version → Line → Type 0) (n : ℕ) → IsVersionLine versions lines k Q n → n < length lines + 1
version_line_within versions lines k Q n h = line_within lines (Q h.0) n h.2

-- a newly listed version, of which there is no line
pub version_line_of_listed : (versions : List Version) (lines : List Line) (w : Version) (l : Line) (k : ℕ) (Q : Version → Option Version → Line → Type 0)
    → ((n : ℕ) → LineIs lines n (Q w) → ⊥) → ((v : Version) → Q v (owner_below lines) l → ⊥)
    → Grows (IsVersionLine versions lines k Q) (IsVersionLine (versions ++ w ∷ []) (lines ++ l ∷ []) k Q) 0 ⊥
version_line_of_listed versions lines w l k Q none not = record {
  kept = λ n h. (h.0, get_kept versions w h.0 k h.1, line_kept lines l (Q h.0) n h.2);
  cases = λ n h. elim (line_push lines l (Q h.0) n h.2) [
    | inl old ↦ elim (get_push versions w h.0 k h.1) [ inl had ↦ inl (h.0, had, old) | inr new ↦ absurd (none n (subst (λ (v : Version). LineIs lines n (Q v)) (sym new.1) old)) ]
    | inr new ↦ absurd (not h.0 new.1)
  ];
  added = λ h. absurd h;
}
