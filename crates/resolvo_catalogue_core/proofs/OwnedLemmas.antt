-- Lists that are kept one after the other, with one more line in the last.
use Rattle.std.proofs.Common.{◌≡◌, inl, inr, ◌==◌, if◌then◌else◌, ℕ, zero, suc, ◌+◌, ◌-◌, ◌<◌, ◌≤◌, Bool, true, false, List, [], ◌∷◌, ◌++◌, length, take, drop, get_or, refl, sym, ap, subst, ◌∙◌, arith}
use Rattle.std.specs.List.{slice_range, slice_set}
use Rattle.std.proofs.lemmas.Bool.{cases_Bool}
use Rattle.std.proofs.lemmas.Bool.Decides.{Decides-eqb, nat_tests}
use Rattle.std.proofs.lemmas.List.{drop-append-le, take-append-le, length-append, length-drop, take_all, get_or_default}
use Rattle.resolvo_catalogue_core.specs.LinesByVersion.{kept_of, lists_from, begin_of, AreEnds}

-- a range within a list is the same after a push
within : (xs : List ℕ) (x b e : ℕ) → b ≤ e → e ≤ length xs → slice_range (xs ++ x ∷ []) b e ≡ slice_range xs b e
within xs x b e first last =
    ap (λ (ys : List ℕ). take (e - b) ys) (drop-append-le b xs (x ∷ []) (omega (arith, first, last)))
    ∙ take-append-le (e - b) (drop b xs) (x ∷ []) (omega (arith, first, last, length-drop b xs))

-- the range at the end has one more
at_end : (xs : List ℕ) (x b : ℕ) → b ≤ length xs → slice_range (xs ++ x ∷ []) b (length xs + 1) ≡ slice_range xs b (length xs) ++ x ∷ []
at_end xs x b first =
    let dropped : drop b (xs ++ x ∷ []) ≡ drop b xs ++ x ∷ [] = drop-append-le b xs (x ∷ []) first in
    let many : length (drop b xs ++ x ∷ []) ≡ (length xs + 1) - b = omega (arith, first, length-append (drop b xs) (x ∷ []), length-drop b xs) in
    ap (λ (ys : List ℕ). take ((length xs + 1) - b) ys) dropped
    ∙ take_all ((length xs + 1) - b) (drop b xs ++ x ∷ []) (omega (arith, many))
    ∙ ap (λ (ys : List ℕ). ys ++ x ∷ []) (sym (take_all (length xs - b) (drop b xs) (omega (arith, length-drop b xs))))

pub count_lists : (xs : List ℕ) (b : ℕ) (ends : List ℕ) → length (lists_from xs b ends) ≡ length ends
count_lists xs b [] = refl
count_lists xs b (e ∷ ends) = ap suc (count_lists xs e ends)

-- no list ends past the count
first_below : (b : ℕ) (ends : List ℕ) (count : ℕ) → AreEnds b ends count → b ≤ count
first_below b [] count are = omega (arith, are)
first_below b (e ∷ ends) count are = omega (arith, are.0, first_below e ends count are.1)

-- the list of each number lies within the list
pub placed : (b : ℕ) (ends : List ℕ) (count k d : ℕ) → AreEnds b ends count → k < length ends → (begin_of b ends k ≤ get_or ends k d) × (get_or ends k d ≤ count)
placed b [] count k d are h = absurd (omega arith)
placed b (e ∷ ends) count zero d are h = (are.0, first_below e ends count are.1)
placed b (e ∷ ends) count (suc zero) d are h = placed e ends count zero d are.1 (omega arith)
placed b (e ∷ []) count (suc (suc k)) d are h = absurd (omega arith)
placed b (e ∷ f ∷ ends) count (suc (suc k)) d are h = placed_next (placed e (f ∷ ends) count (suc k) d are.1 (omega arith))
  where
    placed_next : (begin_of e (f ∷ ends) (suc k) ≤ get_or (f ∷ ends) (suc k) d) × (get_or (f ∷ ends) (suc k) d ≤ count) → (begin_of b (e ∷ f ∷ ends) (suc (suc k)) ≤ get_or (e ∷ f ∷ ends) (suc (suc k)) d) × (get_or (e ∷ f ∷ ends) (suc (suc k)) d ≤ count)
    placed_next (low, high) = (subst (λ (n : ℕ). n ≤ get_or (f ∷ ends) (suc k) d) (get_or_default (f ∷ ends) k e b (omega arith)) low, high)

-- the list of each number
pub list_at : (xs : List ℕ) (b : ℕ) (ends : List ℕ) (k d : ℕ) → k < length ends → kept_of (lists_from xs b ends) k ≡ slice_range xs (begin_of b ends k) (get_or ends k d)
list_at xs b [] k d h = absurd (omega arith)
list_at xs b (e ∷ ends) zero d h = refl
list_at xs b (e ∷ ends) (suc zero) d h = list_at xs e ends zero d (omega arith)
list_at xs b (e ∷ []) (suc (suc k)) d h = absurd (omega arith)
list_at xs b (e ∷ f ∷ ends) (suc (suc k)) d h =
    list_at xs e (f ∷ ends) (suc k) d (omega arith)
    ∙ ap (λ (n : ℕ). slice_range xs n (get_or (f ∷ ends) (suc k) d)) (get_or_default (f ∷ ends) k e b (omega arith))

pub none_past : (xs : List ℕ) (b : ℕ) (ends : List ℕ) (k : ℕ) → length ends ≤ k → kept_of (lists_from xs b ends) k ≡ []
none_past xs b [] k h = refl
none_past xs b (e ∷ ends) zero h = absurd (omega arith)
none_past xs b (e ∷ ends) (suc k) h = none_past xs e ends k (omega arith)

-- one more list, which is empty
one_more : (b : ℕ) (ends : List ℕ) (count : ℕ) → AreEnds b ends count → AreEnds b (ends ++ count ∷ []) count
one_more b [] count are = (omega (arith, are), refl)
one_more b (e ∷ ends) count are = (are.0, one_more e ends count are.1)

-- the same, if the end was pushed
pub one_more_if : (pushed : Bool) (b : ℕ) (ends : List ℕ) (e count : ℕ) → e ≡ count → AreEnds b ends count → AreEnds b (if pushed then ends ++ e ∷ [] else ends) count
one_more_if true b ends e count is are = subst (λ (x : ℕ). AreEnds b (ends ++ x ∷ []) count) (sym is) (one_more b ends count are)
one_more_if false b ends e count is are = are

sub_same : (n : ℕ) → n - n ≡ 0
sub_same n = omega arith

nothing : (xs : List ℕ) (b : ℕ) → b ≡ length xs → slice_range xs b (length xs) ≡ []
nothing xs b is = rw is (ap (λ (n : ℕ). take n (drop (length xs) xs)) (sub_same (length xs)))

pub empty_list : (xs : List ℕ) (b : ℕ) (ends : List ℕ) → AreEnds b ends (length xs) → lists_from xs b (ends ++ length xs ∷ []) ≡ lists_from xs b ends ++ [] ∷ []
empty_list xs b [] are = ap (λ (ys : List ℕ). ys ∷ []) (nothing xs b are)
empty_list xs b (e ∷ ends) are = ap (λ (ls : List (List ℕ)). slice_range xs b e ∷ ls) (empty_list xs e ends are.1)

-- the last list ends later
pub later : (b : ℕ) (ends : List ℕ) (m count : ℕ) → AreEnds b ends count → m + 1 ≡ length ends → AreEnds b (slice_set ends m (count + 1)) (count + 1)
later b [] m count are last = absurd (omega (arith, last))
later b (e ∷ []) zero count are last = (omega (arith, are.0, are.1), refl)
later b (e ∷ []) (suc m) count are last = absurd (omega (arith, last))
later b (e ∷ f ∷ ends) zero count are last = absurd (omega (arith, last))
later b (e ∷ f ∷ ends) (suc m) count are last = (are.0, later e (f ∷ ends) m count are.1 (omega (arith, last)))

eq_suc : (m k : ℕ) → (suc m == suc k) ≡ (m == k)
eq_suc m k = elim (cases_Bool (m == k)) [
  | inl e ↦ (let same : m ≡ k = (Decides-eqb m k).0 e in rw e ((Decides-eqb (suc m) (suc k)).1 (ap suc same)))
  | inr e ↦ (let apart : (suc m == suc k) ≡ false = grind (arith, nat_tests) in rw e apart)
]

-- one more line at the last list
pub added : (xs : List ℕ) (x b : ℕ) (ends : List ℕ) (m : ℕ) → AreEnds b ends (length xs) → m + 1 ≡ length ends
    → (k : ℕ) → kept_of (lists_from (xs ++ x ∷ []) b (slice_set ends m (length xs + 1))) k ≡ (if m == k then kept_of (lists_from xs b ends) k ++ x ∷ [] else kept_of (lists_from xs b ends) k)
added xs x b [] m are last k = absurd (omega (arith, last))
added xs x b (e ∷ []) zero are last zero = at_end xs x b (omega (arith, are.0, are.1)) ∙ ap (λ (n : ℕ). slice_range xs b n ++ x ∷ []) (sym are.1)
added xs x b (e ∷ []) zero are last (suc k) = (let apart : (0 == suc k) ≡ false = grind (arith, nat_tests) in rw apart refl)
added xs x b (e ∷ []) (suc m) are last k = absurd (omega (arith, last))
added xs x b (e ∷ f ∷ ends) zero are last k = absurd (omega (arith, last))
added xs x b (e ∷ f ∷ ends) (suc m) are last zero = (let apart : (suc m == 0) ≡ false = grind (arith, nat_tests) in rw apart (within xs x b e are.0 (first_below e (f ∷ ends) (length xs) are.1)))
added xs x b (e ∷ f ∷ ends) (suc m) are last (suc k) = rw (eq_suc m k) (added xs x e (f ∷ ends) m are.1 (omega (arith, last)) k)
