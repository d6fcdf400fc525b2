-- Whether a number of a map lies in a span, or outside it, by parts of the map.
use Rattle.std.proofs.Common.{◌≡◌, ◌==◌, ℕ, ◌<◌, ◌≤◌, Bool, true, false, not, ◌&&◌, ◌||◌, List, [], ◌∷◌, length, cond, Option, Some, None, is_some, refl, sym, ap, ◌∙◌, arith}
use Rattle.std.specs.Prelude.{nat_lt, nat_le}
use Rattle.std.specs.Borrow.{Bor}
use Rattle.std.specs.List.{list_any, filter}
use Rattle.std.specs.Map.{lookup}
use Rattle.std.specs.Map.Iter.{TakesFirst, deref_pair}
use Rattle.std.specs.Ordering.{nat_cmp}
use Rattle.std.specs.declared.ops.Bound.TheVariants.{Included, Excluded, Unbounded}
use Rattle.std.specs.BTreeMap.{is_at}
use Rattle.std.specs.BTreeMap.Range.{range_contains}
use Rattle.std.proofs.lemmas.Bool.Decides.{nat_tests}
use Rattle.resolvo_text.specs.declared.spec.Span.TheVariants.{Any, One, Range}
use Rattle.resolvo_text.specs.Matches.{is_in_span}
use Rattle.resolvo_judge.proofs.ChosenLemmas.{any_same}

-- ---- parts of a map

none_kept : (p : ℕ × ℕ → Bool) (xs : List (ℕ × ℕ)) → filter p xs ≡ [] → list_any p xs ≡ false
none_kept p [] e = refl
none_kept p (x ∷ xs) e = by_test (p x) refl e (none_kept p xs)
  where
    by_test : (b : Bool) → p x ≡ b → cond b (x ∷ filter p xs) (filter p xs) ≡ [] → (filter p xs ≡ [] → list_any p xs ≡ false) → p x || list_any p xs ≡ false
    by_test true t e rest = absurd cc
    by_test false t e rest = ap (λ (b : Bool). b || list_any p xs) t ∙ rest e

one_kept : (p : ℕ × ℕ → Bool) (xs : List (ℕ × ℕ)) (y : ℕ × ℕ) (ys : List (ℕ × ℕ)) → filter p xs ≡ y ∷ ys → list_any p xs ≡ true
one_kept p [] y ys e = absurd cc
one_kept p (x ∷ xs) y ys e = by_test (p x) refl e (one_kept p xs y ys)
  where
    by_test : (b : Bool) → p x ≡ b → cond b (x ∷ filter p xs) (filter p xs) ≡ y ∷ ys → (filter p xs ≡ y ∷ ys → list_any p xs ≡ true) → p x || list_any p xs ≡ true
    by_test true t e rest = ap (λ (b : Bool). b || list_any p xs) t
    by_test false t e rest = ap (λ (b : Bool). b || list_any p xs) t ∙ rest e

pub between_by : (p : ℕ × ℕ → Bool) (es part rest : List (ℕ × ℕ)) (r : Option (Bor ℕ × Bor ℕ)) → part ≡ filter p es → TakesFirst deref_pair part r rest → is_some r ≡ list_any p es
between_by p es part rest None is step = sym (none_kept p es (sym is ∙ step.0))
between_by p es part rest (Some x) is step = sym (one_kept p es (deref_pair x) rest (sym is ∙ step))

-- whether there is a number
pub any_number : (es : List (ℕ × ℕ)) (empty : Bool) → (empty ≡ true → length es ≡ 0) → (length es ≡ 0 → empty ≡ true) → not empty ≡ list_any (λ e. true) es
any_number [] empty of back = ap not (back refl)
any_number (e ∷ es) true of back = absurd (omega (arith, of refl))
any_number (e ∷ es) false of back = refl

none_of : (p : ℕ × ℕ → Bool) → ((e : ℕ × ℕ) → p e ≡ false) → (es : List (ℕ × ℕ)) → list_any p es ≡ false
none_of p fails [] = refl
none_of p fails (e ∷ es) = ap (λ (b : Bool). b || list_any p es) (fails e) ∙ none_of p fails es

or_any : (p q : ℕ × ℕ → Bool) (es : List (ℕ × ℕ)) → list_any p es || list_any q es ≡ list_any (λ e. p e || q e) es
or_any p q [] = refl
or_any p q (e ∷ es) = swap (p e) (q e) (list_any p es) (list_any q es) ∙ ap (λ (b : Bool). (p e || q e) || b) (or_any p q es)
  where
    swap : (a b c d : Bool) → (a || c) || (b || d) ≡ (a || b) || (c || d)
    swap true b c d = refl
    swap false true true d = refl
    swap false true false d = refl
    swap false false c d = refl

-- ---- in a span

one_in : (m n : ℕ) → is_at (nat_cmp m) n ≡ (n == m)
one_in m n = grind (arith, nat_tests)

pub found_one : (m : ℕ) (es : List (ℕ × ℕ)) → is_some (lookup (is_at (nat_cmp m)) es) ≡ list_any (λ e. is_in_span (One m) e.0) es
found_one m [] = refl
found_one m (e ∷ es) = by_test (is_at (nat_cmp m) e.0) refl (found_one m es)
  where
    by_test : (b : Bool) → is_at (nat_cmp m) e.0 ≡ b → is_some (lookup (is_at (nat_cmp m)) es) ≡ list_any (λ x. x.0 == m) es → is_some (cond b (Some e.1) (lookup (is_at (nat_cmp m)) es)) ≡ (e.0 == m) || list_any (λ x. x.0 == m) es
    by_test true t rest = sym (ap (λ (b : Bool). b || list_any (λ x. x.0 == m) es) (sym (one_in m e.0) ∙ t))
    by_test false t rest = rest ∙ sym (ap (λ (b : Bool). b || list_any (λ x. x.0 == m) es) (sym (one_in m e.0) ∙ t))

empty_range : (low high n : ℕ) → high ≤ low → nat_le low n && nat_lt n high ≡ false
empty_range low high n le = grind (arith, nat_tests)

no_less : (low high : ℕ) → high ≤ low → nat_lt low high ≡ false
no_less low high le = grind (arith, nat_tests)

pub found_none : (low high : ℕ) (es : List (ℕ × ℕ)) → high ≤ low → nat_lt low high ≡ list_any (λ e. is_in_span (Range low high) e.0) es
found_none low high es le = no_less low high le ∙ sym (none_of (λ e. is_in_span (Range low high) e.0) (λ e. empty_range low high e.0 le) es)

-- ---- outside a span

-- the first of two tests passes, or the second decides
pub or_first : (a b t : Bool) → a ≡ true → a || b ≡ t → a ≡ t
or_first true b t e h = h
or_first false b t e h = absurd cc

pub or_second : (a b t : Bool) → a ≡ false → a || b ≡ t → b ≡ t
or_second true b t e h = absurd cc
or_second false b t e h = h

pub outside_any : (es : List (ℕ × ℕ)) → false ≡ list_any (λ e. not (is_in_span Any e.0)) es
outside_any es = sym (none_of (λ e. not (is_in_span Any e.0)) (λ e. refl) es)

one_out : (m n : ℕ) → range_contains nat_cmp Unbounded (Excluded m) n || range_contains nat_cmp (Excluded m) Unbounded n ≡ not (n == m)
one_out m n = grind (arith, nat_tests)

pub outside_one : (m : ℕ) (es : List (ℕ × ℕ))
    → list_any (λ e. range_contains nat_cmp Unbounded (Excluded m) e.0) es || list_any (λ e. range_contains nat_cmp (Excluded m) Unbounded e.0) es ≡ list_any (λ e. not (is_in_span (One m) e.0)) es
outside_one m es =
    or_any (λ e. range_contains nat_cmp Unbounded (Excluded m) e.0) (λ e. range_contains nat_cmp (Excluded m) Unbounded e.0) es
    ∙ any_same (λ e. range_contains nat_cmp Unbounded (Excluded m) e.0 || range_contains nat_cmp (Excluded m) Unbounded e.0) (λ e. not (is_in_span (One m) e.0)) (λ e. one_out m e.0) es

range_out : (low high n : ℕ) → low < high → range_contains nat_cmp Unbounded (Excluded low) n || range_contains nat_cmp (Included high) Unbounded n ≡ not (nat_le low n && nat_lt n high)
range_out low high n lt = grind (arith, nat_tests)

pub outside_range : (low high : ℕ) (es : List (ℕ × ℕ)) → low < high
    → list_any (λ e. range_contains nat_cmp Unbounded (Excluded low) e.0) es || list_any (λ e. range_contains nat_cmp (Included high) Unbounded e.0) es ≡ list_any (λ e. not (is_in_span (Range low high) e.0)) es
outside_range low high es lt =
    or_any (λ e. range_contains nat_cmp Unbounded (Excluded low) e.0) (λ e. range_contains nat_cmp (Included high) Unbounded e.0) es
    ∙ any_same (λ e. range_contains nat_cmp Unbounded (Excluded low) e.0 || range_contains nat_cmp (Included high) Unbounded e.0) (λ e. not (is_in_span (Range low high) e.0)) (λ e. range_out low high e.0 lt) es

-- all numbers are outside an empty range
pub outside_empty : (low high : ℕ) (es : List (ℕ × ℕ)) → high ≤ low → list_any (λ e. true) es ≡ list_any (λ e. not (is_in_span (Range low high) e.0)) es
outside_empty low high es le = any_same (λ e. true) (λ e. not (is_in_span (Range low high) e.0)) (λ e. sym (ap not (empty_range low high e.0 le))) es
