-- A set of versions, asked by the numbers of the chosen versions of a package.
use Rattle.std.proofs.Common.{◌≡◌, inl, inr, ◌==◌, ℕ, zero, suc, ◌+◌, ◌<◌, ◌≤◌, Bool, true, false, not, ◌&&◌, ◌||◌, List, [], ◌∷◌, ◌++◌, length, take, map, get_or, Option, Some, None, is_some, refl, sym, ap, subst, ◌∙◌, if◌then◌else◌, arith}
use Rattle.std.specs.Prelude.{nat_lt}
use Rattle.std.specs.List.{list_any, list_all}
use Rattle.std.specs.Map.{lookup}
use Rattle.std.specs.Option.{option_map_or}
use Rattle.std.specs.Ordering.{nat_cmp}
use Rattle.std.specs.Str.{bytes_eq}
use Rattle.std.specs.BTreeMap.{BTreeMap, get_by_text, is_at}
use Rattle.std.proofs.lemmas.Bool.{and_parts, and_from, or_cases, or_left, or_right, lt-ltb, ltb-true}
use Rattle.std.proofs.lemmas.Bool.Decides.{nat_tests}
use Rattle.std.proofs.lemmas.List.{length-append}
use Rattle.std.proofs.lemmas.Slice.Eq.{bytes_eq-Decides}
use Rattle.resolvo_text.specs.Line.{Version, Spec}
use Rattle.resolvo_text.specs.Matches.{Set, same_package, same_version, is_member, is_met, is_in_span, matches}
use Rattle.resolvo_catalogue_core.proofs.TableSteps.{same_version_is}
use Rattle.resolvo_judge.specs.Chosen.{index_from, index_in, AreOnce, Holds}
use Rattle.resolvo_judge.specs.declared.chosen.Chosen.{Chosen}

first_of : (a b : Bool) → a || b ≡ false → a ≡ false
first_of false b e = refl
first_of true b e = absurd cc

rest_of : (a b : Bool) → a || b ≡ false → b ≡ false
rest_of false b e = e
rest_of true b e = absurd cc

true_is_false : true ≡ false → ⊥
true_is_false e = cc

-- two tests that pass alike
both_pass : (a b : Bool) → (a ≡ true → b ≡ true) → (b ≡ true → a ≡ true) → a ≡ b
both_pass true b forth back = sym (forth refl)
both_pass false true forth back = back refl
both_pass false false forth back = refl

ltb-yes : (a b : ℕ) → a < b → nat_lt a b ≡ true
ltb-yes a b lt = lt-ltb a b lt

ltb-no : (a b : ℕ) → b ≤ a → nat_lt a b ≡ false
ltb-no a b le = by_test (nat_lt a b) refl
  where
    by_test : (t : Bool) → nat_lt a b ≡ t → t ≡ false
    by_test true e = absurd (omega (arith, le, ltb-true a b e))
    by_test false e = refl

pub bytes_eq_sym : (xs ys : List ℕ) → bytes_eq xs ys ≡ bytes_eq ys xs
bytes_eq_sym xs ys = both_pass (bytes_eq xs ys) (bytes_eq ys xs) (λ e. (bytes_eq-Decides ys xs).1 (sym ((bytes_eq-Decides xs ys).0 e))) (λ e. (bytes_eq-Decides xs ys).1 (sym ((bytes_eq-Decides ys xs).0 e)))

same_version_sym : (v w : Version) → same_version v w ≡ same_version w v
same_version_sym v w = both_pass (same_version v w) (same_version w v) (λ e. (same_version_is w v).1 (sym ((same_version_is v w).0 e))) (λ e. (same_version_is v w).1 (sym ((same_version_is w v).0 e)))

pub any_same : {A : Type 0} (p q : A → Bool) → ((x : A) → p x ≡ q x) → (xs : List A) → list_any p xs ≡ list_any q xs
any_same p q same [] = refl
any_same p q same (x ∷ xs) = ap (λ (b : Bool). b || list_any p xs) (same x) ∙ ap (λ (b : Bool). q x || b) (any_same p q same xs)

-- no element passes: each fails
not_any : {A : Type 0} (p q : A → Bool) → ((x : A) → not (p x) ≡ q x) → (xs : List A) → not (list_any p xs) ≡ list_all q xs
not_any p q same [] = refl
not_any p q same (x ∷ xs) = of (p x) (list_any p xs) ∙ ap (λ (b : Bool). b && not (list_any p xs)) (same x) ∙ ap (λ (b : Bool). q x && b) (not_any p q same xs)
  where
    of : (a b : Bool) → not (a || b) ≡ not a && not b
    of true b = refl
    of false b = refl

-- an element that passes
pub any_at : {X Y : Type 0} (f : X → Y) (p : Y → Bool) (xs : List X) (i : ℕ) (x : X) → i < length xs → x ≡ get_or xs i x → p (f x) ≡ true → list_any p (map f xs) ≡ true
any_at f p [] i x lt is e = absurd (omega (arith, lt))
any_at f p (y ∷ xs) zero x lt is e = ap (λ z. p (f z) || list_any p (map f xs)) (sym is) ∙ ap (λ (b : Bool). b || list_any p (map f xs)) e
any_at f p (y ∷ xs) (suc i) x lt is e = or_right (p (f y)) (list_any p (map f xs)) (any_at f p xs i x (omega (arith, lt)) is e)

-- ---- the number of versions before one

pub index_some : (i : ℕ) (set : Set) (v : Version) → is_some (index_from i set v) ≡ is_member v set
index_some i [] v = refl
index_some i (w ∷ set) v = by_test (same_version w v) refl (index_some (i + 1) set v)
  where
    by_test : (b : Bool) → same_version w v ≡ b → is_some (index_from (i + 1) set v) ≡ is_member v set → is_some (if b then Some i else index_from (i + 1) set v) ≡ (same_version v w || is_member v set)
    by_test true e rest = sym (ap (λ (b : Bool). b || is_member v set) (same_version_sym v w ∙ e))
    by_test false e rest = rest ∙ sym (ap (λ (b : Bool). b || is_member v set) (same_version_sym v w ∙ e))

index_after : (i : ℕ) (set : Set) (v : Version) (j : ℕ) → index_from i set v ≡ Some j → i ≤ j
index_after i [] v j e = absurd cc
index_after i (w ∷ set) v j e = by_test (same_version w v) (λ f. index_after (i + 1) set v j f) e
  where
    by_test : (b : Bool) → (index_from (i + 1) set v ≡ Some j → i + 1 ≤ j) → (if b then Some i else index_from (i + 1) set v) ≡ Some j → i ≤ j
    by_test true rest e = let same : i ≡ j = cc in omega (arith, same)
    by_test false rest e = let more = rest e in omega (arith, more)

-- a member of the first k
member_among : (v : Version) (i k : ℕ) (set : Set) → is_member v (take k set) ≡ option_map_or (λ j. nat_lt j (i + k)) (index_from i set v) false
member_among v i zero [] = refl
member_among v i (suc k) [] = refl
member_among v i zero (w ∷ set) = sym (none (index_from i (w ∷ set) v) refl)
  where
    none : (o : Option ℕ) → index_from i (w ∷ set) v ≡ o → option_map_or (λ j. nat_lt j (i + 0)) o false ≡ false
    none None e = refl
    none (Some j) e = ltb-no j (i + 0) (let after = index_after i (w ∷ set) v j e in omega (arith, after))
member_among v i (suc k) (w ∷ set) = by_test (same_version w v) refl (member_among v (i + 1) k set)
  where
    by_test : (b : Bool) → same_version w v ≡ b → is_member v (take k set) ≡ option_map_or (λ j. nat_lt j (i + 1 + k)) (index_from (i + 1) set v) false
        → (same_version v w || is_member v (take k set)) ≡ option_map_or (λ j. nat_lt j (i + suc k)) (if b then Some i else index_from (i + 1) set v) false
    by_test true e rest = ap (λ (b : Bool). b || is_member v (take k set)) (same_version_sym v w ∙ e) ∙ sym (ltb-yes i (i + suc k) (omega arith))
    by_test false e rest =
        ap (λ (b : Bool). b || is_member v (take k set)) (same_version_sym v w ∙ e) ∙ rest
        ∙ ap (λ (m : ℕ). option_map_or (λ j. nat_lt j m) (index_from (i + 1) set v) false) (omega arith)

-- ---- one more

index_more : (i : ℕ) (set : Set) (v u : Version) → is_member v set ≡ false → index_from i (set ++ v ∷ []) u ≡ (if same_version v u then Some (i + length set) else index_from i set u)
index_more i [] v u none = ap (λ (k : ℕ). if same_version v u then Some k else None) (let same : i ≡ i + 0 = omega arith in same)
index_more i (w ∷ set) v u none = by_test (same_version w u) refl (index_more (i + 1) set v u (rest_of _ _ none))
  where
    apart : same_version w u ≡ true → same_version v u ≡ false
    apart e = ap (same_version v) (sym ((same_version_is w u).0 e)) ∙ first_of _ _ none

    by_test : (b : Bool) → same_version w u ≡ b → index_from (i + 1) (set ++ v ∷ []) u ≡ (if same_version v u then Some (i + 1 + length set) else index_from (i + 1) set u)
        → (if b then Some i else index_from (i + 1) (set ++ v ∷ []) u) ≡ (if same_version v u then Some (i + suc (length set)) else (if b then Some i else index_from (i + 1) set u))
    by_test true e more = sym (ap (λ (t : Bool). if t then Some (i + suc (length set)) else Some i) (apart e))
    by_test false e more = more ∙ ap (λ (k : ℕ). if same_version v u then Some k else index_from (i + 1) set u) (let same : i + 1 + length set ≡ i + suc (length set) = omega arith in same)

once_more : (set : Set) (v : Version) → AreOnce set → is_member v set ≡ false → AreOnce (set ++ v ∷ [])
once_more [] v once none = (refl, tt)
once_more (w ∷ set) v once none = (none_more set once.0, once_more set v once.1 (rest_of _ _ none))
  where
    none_more : (xs : Set) → is_member w xs ≡ false → is_member w (xs ++ v ∷ []) ≡ false
    none_more [] e = ap (λ (b : Bool). b || false) (same_version_sym w v ∙ first_of _ _ none)
    none_more (x ∷ xs) e = ap (λ (b : Bool). b || is_member w (xs ++ v ∷ [])) (first_of _ _ e) ∙ none_more xs (rest_of _ _ e)

pub adds : (old new : Chosen) (set : Set) (v : Version) → Holds old set → is_member v set ≡ false
    → ((u : Version) → index_in (get_by_text new.packages u.name) u.number ≡ (if same_version v u then Some old.count else index_in (get_by_text old.packages u.name) u.number)) → new.count ≡ old.count + 1 → Holds new (set ++ v ∷ [])
adds old new set v h none puts count = record {
  indexes = λ u.
      puts u
      ∙ ap (λ (k : ℕ). if same_version v u then Some k else index_in (get_by_text old.packages u.name) u.number) counted
      ∙ ap (λ (o : Option ℕ). if same_version v u then Some (0 + length set) else o) (h.indexes u)
      ∙ sym (index_more 0 set v u none);
  count = omega (arith, count, h.count, length-append set (v ∷ []));
  once = once_more set v h.once none;
}
  where
    counted : old.count ≡ 0 + length set
    counted = omega (arith, h.count)

-- ---- answers by an index

pub among_by : (chosen : Chosen) (set : Set) (v : Version) (k : ℕ) (o : Option ℕ) → Holds chosen set → o ≡ index_in (get_by_text chosen.packages v.name) v.number → option_map_or (λ j. nat_lt j k) o false ≡ is_member v (take k set)
among_by chosen set v k o h is =
    ap (λ (x : Option ℕ). option_map_or (λ j. nat_lt j k) x false) (is ∙ h.indexes v)
    ∙ ap (λ (m : ℕ). option_map_or (λ j. nat_lt j m) (index_from 0 set v) false) (let same : k ≡ 0 + k = omega arith in same)
    ∙ sym (member_among v 0 k set)

pub has_by : (chosen : Chosen) (set : Set) (v : Version) (o : Option ℕ) → Holds chosen set → o ≡ index_in (get_by_text chosen.packages v.name) v.number → is_some o ≡ is_member v set
has_by chosen set v o h is = ap is_some (is ∙ h.indexes v) ∙ index_some 0 set v

-- ---- answers by the numbers of a package

number_is : (a b : ℕ) → is_at (nat_cmp a) b ≡ true → a ≡ b
number_is a b e = grind (arith, nat_tests)

number_own : (a : ℕ) → is_at (nat_cmp a) a ≡ true
number_own a = grind (arith, nat_tests)

-- the number of an entry that passes
number_found : (f : ℕ → Bool) (es : List (ℕ × ℕ)) → list_any (λ e. f e.0) es ≡ true → (n : ℕ) × (i : ℕ) × (lookup (is_at (nat_cmp n)) es ≡ Some i) × (f n ≡ true)
number_found f [] h = absurd cc
number_found f (e ∷ es) h = elim (or_cases (f e.0) (list_any (λ x. f x.0) es) h) [
  | inl passes ↦ (e.0, e.1, ap (λ (b : Bool). if b then Some e.1 else lookup (is_at (nat_cmp e.0)) es) (number_own e.0), passes)
  | inr rest ↦ let r = number_found f es rest in further r.0 r.1 r.2 r.3 (is_at (nat_cmp r.0) e.0) refl
]
  where
    further : (n i : ℕ) → lookup (is_at (nat_cmp n)) es ≡ Some i → f n ≡ true → (b : Bool) → is_at (nat_cmp n) e.0 ≡ b → (n : ℕ) × (i : ℕ) × (lookup (is_at (nat_cmp n)) (e ∷ es) ≡ Some i) × (f n ≡ true)
    further n i at passes true t = (n, e.1, ap (λ (b : Bool). if b then Some e.1 else lookup (is_at (nat_cmp n)) es) t, passes)
    further n i at passes false t = (n, i, ap (λ (b : Bool). if b then Some e.1 else lookup (is_at (nat_cmp n)) es) t ∙ at, passes)

any_number : (f : ℕ → Bool) (es : List (ℕ × ℕ)) (n i : ℕ) → lookup (is_at (nat_cmp n)) es ≡ Some i → f n ≡ true → list_any (λ e. f e.0) es ≡ true
any_number f [] n i at passes = absurd cc
any_number f (e ∷ es) n i at passes = by_test (is_at (nat_cmp n) e.0) refl at (λ there. any_number f es n i there passes)
  where
    by_test : (b : Bool) → is_at (nat_cmp n) e.0 ≡ b → (if b then Some e.1 else lookup (is_at (nat_cmp n)) es) ≡ Some i → (lookup (is_at (nat_cmp n)) es ≡ Some i → list_any (λ x. f x.0) es ≡ true) → f e.0 || list_any (λ x. f x.0) es ≡ true
    by_test true t here rest = or_left (f e.0) (list_any (λ x. f x.0) es) (subst (λ (m : ℕ). f m ≡ true) (number_is n e.0 t) passes)
    by_test false t there rest = or_right (f e.0) (list_any (λ x. f x.0) es) (rest there)

any_member : (f : Version → Bool) (v : Version) (set : Set) → is_member v set ≡ true → f v ≡ true → list_any f set ≡ true
any_member f v [] h passes = absurd (true_is_false (sym h))
any_member f v (w ∷ set) h passes = elim (or_cases (same_version v w) (is_member v set) h) [
  | inl here ↦ or_left (f w) (list_any f set) (subst (λ (x : Version). f x ≡ true) ((same_version_is v w).0 here) passes)
  | inr there ↦ or_right (f w) (list_any f set) (any_member f v set there passes)
]

member_found : (f : Version → Bool) (set : Set) → list_any f set ≡ true → (v : Version) × (is_member v set ≡ true) × (f v ≡ true)
member_found f [] h = absurd (true_is_false (sym h))
member_found f (w ∷ set) h = elim (or_cases (f w) (list_any f set) h) [
  | inl here ↦ (w, or_left (same_version w w) (is_member w set) ((same_version_is w w).1 refl), here)
  | inr there ↦ let r = member_found f set there in (r.0, or_right (same_version r.0 w) (is_member r.0 set) r.1, r.2)
]

some_gives : (o : Option ℕ) → is_some o ≡ true → (i : ℕ) × (o ≡ Some i)
some_gives None h = absurd (true_is_false (sym h))
some_gives (Some i) h = (i, refl)

-- a version of the package whose number passes
abbrev passes_of : (ℕ → Bool) → List ℕ → Version → Bool
passes_of f name w = bytes_eq w.name name && f w.number

pub package_any : (chosen : Chosen) (set : Set) (name : List ℕ) (f : ℕ → Bool) (numbers : BTreeMap ℕ ℕ) → Holds chosen set → get_by_text chosen.packages name ≡ Some numbers → list_any (λ e. f e.0) numbers.entries ≡ list_any (passes_of f name) set
package_any chosen set name f numbers h is = both_pass _ _ forth back
  where
    forth : list_any (λ e. f e.0) numbers.entries ≡ true → list_any (passes_of f name) set ≡ true
    forth e =
        let n = number_found f numbers.entries e in
        let v : Version = record { name = name; number = n.0 } in
        let at : index_from 0 set v ≡ Some n.1 = sym (h.indexes v) ∙ ap (λ (o : Option (BTreeMap ℕ ℕ)). index_in o n.0) is ∙ n.2 in
        any_member (passes_of f name) v set (sym (index_some 0 set v) ∙ ap is_some at) (and_from (bytes_eq name name) (f n.0) ((bytes_eq-Decides name name).1 refl) n.3)

    back : list_any (passes_of f name) set ≡ true → list_any (λ e. f e.0) numbers.entries ≡ true
    back e =
        let w = member_found (passes_of f name) set e in
        let parts = and_parts (bytes_eq w.0.name name) (f w.0.number) w.2 in
        let i = some_gives (index_from 0 set w.0) (index_some 0 set w.0 ∙ w.1) in
        let here : get_by_text chosen.packages w.0.name ≡ Some numbers = ap (λ (n : List ℕ). get_by_text chosen.packages n) ((bytes_eq-Decides w.0.name name).0 parts.0) ∙ is in
        any_number f numbers.entries w.0.number i.0 (sym (ap (λ (o : Option (BTreeMap ℕ ℕ)). index_in o w.0.number) here) ∙ h.indexes w.0 ∙ i.1) parts.1

pub package_none : (chosen : Chosen) (set : Set) (name : List ℕ) (f : ℕ → Bool) → Holds chosen set → get_by_text chosen.packages name ≡ None → list_any (passes_of f name) set ≡ false
package_none chosen set name f h is = by_test (list_any (passes_of f name) set) refl
  where
    by_test : (b : Bool) → list_any (passes_of f name) set ≡ b → b ≡ false
    by_test false e = refl
    by_test true e =
        let w = member_found (passes_of f name) set e in
        let parts = and_parts (bytes_eq w.0.name name) (f w.0.number) w.2 in
        let here : get_by_text chosen.packages w.0.name ≡ None = ap (λ (n : List ℕ). get_by_text chosen.packages n) ((bytes_eq-Decides w.0.name name).0 parts.0) ∙ is in
        let none : index_from 0 set w.0 ≡ None = sym (h.indexes w.0) ∙ ap (λ (o : Option (BTreeMap ℕ ℕ)). index_in o w.0.number) here in
        absurd (true_is_false (sym (sym (ap is_some none) ∙ index_some 0 set w.0 ∙ w.1)))

pub met_by : (chosen : Chosen) (set : Set) (s : Spec) (numbers : BTreeMap ℕ ℕ) → Holds chosen set → get_by_text chosen.packages s.name ≡ Some numbers → list_any (λ e. is_in_span s.span e.0) numbers.entries ≡ is_met s set
met_by chosen set s numbers h is = package_any chosen set s.name (is_in_span s.span) numbers h is

pub met_none : (chosen : Chosen) (set : Set) (s : Spec) → Holds chosen set → get_by_text chosen.packages s.name ≡ None → false ≡ is_met s set
met_none chosen set s h is = sym (package_none chosen set s.name (is_in_span s.span) h is)

any_of_package : (v : Version) (set : Set) → list_any (same_package v) set ≡ list_any (passes_of (λ n. true) v.name) set
any_of_package v set = any_same (same_package v) (passes_of (λ n. true) v.name) (λ w. bytes_eq_sym v.name w.name ∙ sym (and_true (bytes_eq w.name v.name))) set
  where
    and_true : (b : Bool) → b && true ≡ b
    and_true true = refl
    and_true false = refl

pub package_by : (chosen : Chosen) (set : Set) (v : Version) (numbers : BTreeMap ℕ ℕ) (b : Bool) → Holds chosen set → get_by_text chosen.packages v.name ≡ Some numbers → b ≡ list_any (λ e. true) numbers.entries → b ≡ list_any (same_package v) set
package_by chosen set v numbers b h is any = any ∙ package_any chosen set v.name (λ n. true) numbers h is ∙ sym (any_of_package v set)

pub package_missing : (chosen : Chosen) (set : Set) (v : Version) → Holds chosen set → get_by_text chosen.packages v.name ≡ None → false ≡ list_any (same_package v) set
package_missing chosen set v h is = sym (any_of_package v set ∙ package_none chosen set v.name (λ n. true) h is)

not_both : (a b : Bool) → not (a && not b) ≡ not a || b
not_both true true = refl
not_both true false = refl
not_both false b = refl

not_within : (s : Spec) (w : Version) → not (passes_of (λ n. not (is_in_span s.span n)) s.name w) ≡ not (bytes_eq w.name s.name) || matches s w
not_within s w = not_both (bytes_eq w.name s.name) (is_in_span s.span w.number) ∙ once (bytes_eq w.name s.name) (is_in_span s.span w.number)
  where
    once : (a b : Bool) → not a || b ≡ not a || (a && b)
    once true b = refl
    once false b = refl

pub within_by : (chosen : Chosen) (set : Set) (s : Spec) (numbers : BTreeMap ℕ ℕ) → Holds chosen set → get_by_text chosen.packages s.name ≡ Some numbers
    → not (list_any (λ e. not (is_in_span s.span e.0)) numbers.entries) ≡ list_all (λ v. not (bytes_eq v.name s.name) || matches s v) set
within_by chosen set s numbers h is =
    ap not (package_any chosen set s.name (λ n. not (is_in_span s.span n)) numbers h is)
    ∙ not_any (passes_of (λ n. not (is_in_span s.span n)) s.name) (λ v. not (bytes_eq v.name s.name) || matches s v) (not_within s) set

pub within_none : (chosen : Chosen) (set : Set) (s : Spec) → Holds chosen set → get_by_text chosen.packages s.name ≡ None → true ≡ list_all (λ v. not (bytes_eq v.name s.name) || matches s v) set
within_none chosen set s h is =
    sym (ap not (package_none chosen set s.name (λ n. not (is_in_span s.span n)) h is))
    ∙ not_any (passes_of (λ n. not (is_in_span s.span n)) s.name) (λ v. not (bytes_eq v.name s.name) || matches s v) (not_within s) set

pub lock_by : (chosen : Chosen) (set : Set) (v : Version) (numbers : BTreeMap ℕ ℕ) → Holds chosen set → get_by_text chosen.packages v.name ≡ Some numbers
    → not (list_any (λ e. not (e.0 == v.number)) numbers.entries) ≡ list_all (λ w. not (same_package w v) || w.number == v.number) set
lock_by chosen set v numbers h is =
    ap not (package_any chosen set v.name (λ n. not (n == v.number)) numbers h is)
    ∙ not_any (passes_of (λ n. not (n == v.number)) v.name) (λ w. not (same_package w v) || w.number == v.number) (λ w. not_both (bytes_eq w.name v.name) (w.number == v.number)) set

pub lock_none : (chosen : Chosen) (set : Set) (v : Version) → Holds chosen set → get_by_text chosen.packages v.name ≡ None → true ≡ list_all (λ w. not (same_package w v) || w.number == v.number) set
lock_none chosen set v h is =
    sym (ap not (package_none chosen set v.name (λ n. not (n == v.number)) h is))
    ∙ not_any (passes_of (λ n. not (n == v.number)) v.name) (λ w. not (same_package w v) || w.number == v.number) (λ w. not_both (bytes_eq w.name v.name) (w.number == v.number)) set
