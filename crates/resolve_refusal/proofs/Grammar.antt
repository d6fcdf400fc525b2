-- A refused report of named lines that rise, and of steps that have texts, is one of the grammar.
use Rattle.std.proofs.Common.{Ordering, Less, Equal, Greater, inl, inr, ◌≡◌, ◌+◌, ◌<◌, ◌≤◌, ℕ, suc, Bool, true, false, List, [], ◌∷◌, ◌++◌, map, length, get_or, Option, Some, None, refl, sym, ap, subst, ◌∙◌, arith}
use Rattle.std.specs.Prelude.{⊤, not, if◌then◌else◌, Contains, slice_get}
use Rattle.std.specs.List.{AllZip, AllByRecursion, list_any}
use Rattle.std.specs.List.Sorted.{IsStrictlyIncreasing, IsStrictlySortedBy}
use Rattle.std.specs.Option.{option_and_then}
use Rattle.std.specs.Ordering.{nat_cmp, is_lt, ordering_reverse}
use Rattle.std.specs.Str.{bytes_eq}
use Rattle.std.specs.Cmp.Lexicographic.{slice_cmp, bytes_decides, nat_list_cmp_total}
use Rattle.std.proofs.lemmas.Bool.{and_from, and_parts, eq-eqb, lt-ltb}
use Rattle.resolvo_terms.proofs.Places.{contains_from_at}
use Rattle.resolvo_catalogue.proofs.MarkLemmas.{one_some}
use Rattle.resolvo_sat.proofs.Lists.{contains_none, contains_cases, contains_first, contains_later, contains_map, map_contains, any_contained}
use Rattle.resolvo_report.specs.Value.{Literal, Step, ReportLine, CatalogueLine, RequestLine, Numbered, Refused}
use Rattle.resolvo_report.specs.Value as in_report
use Rattle.resolvo_report.specs.Text.{atom_text, literal_text, numbered, are_rising, are_once, is_before, IsLineNumber, IsAtom, IsStep, HasText}
use Rattle.resolvo_report.specs.Grammar.{next_part, part_after, AreLines, IsReport}
use Rattle.resolvo_report.specs.declared.grammar.Part.{Part}
use Rattle.resolvo_report.specs.declared.grammar.Part.TheVariants as part
use Rattle.resolve_refusal.proofs.SortLemmas.{one_literal}
use Rattle.resolve_refusal.proofs.AcceptLemmas.{lines_are}

-- ---- each atom once

less_is : (o : Ordering) → is_lt o ≡ true → o ≡ Less
less_is Less e = refl
less_is Equal e = absurd cc
less_is Greater e = absurd cc

each_as : {X : Type 0} (P Q : X → Type 0) → ((x : X) → P x → Q x) → (xs : List X) → AllByRecursion P xs → AllByRecursion Q xs
each_as P Q f [] h = tt
each_as P Q f (x ∷ xs) h = (f x h.0, each_as P Q f xs h.1)

-- where each text is before the next one, each is before all that follow
pub rising_sorted : (ts : List (List ℕ)) → are_rising ts ≡ true → IsStrictlySortedBy (slice_cmp nat_cmp) ts
unfolding IsStrictlySortedBy
rising_sorted [] e = tt
rising_sorted (x ∷ []) e = (tt, tt)
rising_sorted (x ∷ y ∷ ts) e =
    let (first, rest) = and_parts (is_before x y) (are_rising (y ∷ ts)) e in
    let less : slice_cmp nat_cmp x y ≡ Less = less_is (slice_cmp nat_cmp x y) first in
    let s = rising_sorted (y ∷ ts) rest in
    ((less, each_as (λ z. slice_cmp nat_cmp y z ≡ Less) (λ z. slice_cmp nat_cmp x z ≡ Less) (λ z. nat_list_cmp_total.trans x y z less) ts s.0), s)

every : {X : Type 0} (P : X → Type 0) (xs : List X) (x : X) → AllByRecursion P xs → Contains xs x → P x
every P [] x h c = absurd (contains_none x c)
every P (y ∷ ys) x h c = elim (contains_cases x y ys c) [ inl is ↦ subst P (sym is) h.0 | inr m ↦ every P ys x h.1 m ]

-- a property of each element
pub of_every : {X : Type 0} (P : X → Type 0) (xs : List X) → ((x : X) → Contains xs x → P x) → AllByRecursion P xs
of_every P [] h = tt
of_every P (y ∷ ys) h = (h y (contains_first y y ys refl), of_every P ys (λ x c. h x (contains_later x y ys c)))

any_fails : {X : Type 0} (f : X → Bool) (xs : List X) → ((x : X) → Contains xs x → f x ≡ true → ⊥) → list_any f xs ≡ false
any_fails f xs h = go (list_any f xs) refl
  where
    go : (b : Bool) → list_any f xs ≡ b → b ≡ false
    go false e = refl
    go true e = (let (x, c, t) = any_contained f xs e in absurd (h x c t))

-- no text is before itself
never_before : (t : List ℕ) → slice_cmp nat_cmp t t ≡ Less → ⊥
never_before t e = (let twice : Less ≡ Greater = sym e ∙ (nat_list_cmp_total.antisymm t t ∙ ap ordering_reverse e) in absurd cc)

-- an atom is known by its text
one_atom : (a b : in_report.Atom) → IsAtom a → IsAtom b → atom_text a ≡ atom_text b → a ≡ b
one_atom a b fits suits is = ap (λ (l : Literal). l.atom) (one_literal (record { atom = a; positive = true }) (record { atom = b; positive = true }) fits suits is)

-- literals in order of their texts, no atom with both signs: each atom is there once
pub atoms_once : (ls : List Literal) → ((l : Literal) → Contains ls l → IsAtom l.atom) → ((l m : Literal) → Contains ls l → Contains ls m → l.atom ≡ m.atom → l.positive ≡ m.positive)
    → IsStrictlySortedBy (slice_cmp nat_cmp) (map literal_text ls) → are_once (map (λ l. atom_text l.atom) ls) ≡ true
unfolding IsStrictlySortedBy
atoms_once [] fits signs sorted = refl
atoms_once (l ∷ ls) fits signs sorted = and_from _ _ (ap not (any_fails (λ y. bytes_eq y (atom_text l.atom)) (map (λ m. atom_text m.atom) ls) twice)) (atoms_once ls (λ m h. fits m (contains_later m l ls h)) (λ m n h k. signs m n (contains_later m l ls h) (contains_later n l ls k)) sorted.1)
  where
    twice : (y : List ℕ) → Contains (map (λ (m : Literal). atom_text m.atom) ls) y → bytes_eq y (atom_text l.atom) ≡ true → ⊥
    twice y h e =
        let (m, has, is) = map_contains (λ (m : Literal). atom_text m.atom) y ls h in
        let here = contains_first l l ls refl in
        let there = contains_later m l ls has in
        let atoms : m.atom ≡ l.atom = one_atom m.atom l.atom (fits m there) (fits l here) (sym is ∙ (bytes_decides y (atom_text l.atom)).0 e) in
        let signed : m.positive ≡ l.positive = signs m l there here atoms in
        let texts : literal_text m ≡ literal_text l = λ i. literal_text (record { atom = atoms i; positive = signed i }) in
        let before : slice_cmp nat_cmp (literal_text l) (literal_text m) ≡ Less = every (λ t. slice_cmp nat_cmp (literal_text l) t ≡ Less) (map literal_text ls) (literal_text m) sorted.0 (contains_map literal_text m ls has) in
        never_before (literal_text l) (ap (slice_cmp nat_cmp (literal_text l)) (sym texts) ∙ before)

-- ---- the order of the lines

-- the numbers rise, the first one is greater than this one
abbrev IsRisingFrom : ℕ → List ℕ → Type 0
IsRisingFrom last [] = ⊤
IsRisingFrom last (n ∷ ns) = (last < n) × IsRisingFrom n ns

rising_tail : (n : ℕ) (ns : List ℕ) → IsStrictlyIncreasing (n ∷ ns) → IsStrictlyIncreasing ns
rising_tail n ns rising j lt = subst (λ (i : ℕ). get_or ns j 0 < get_or (n ∷ ns) i 0) (let e : suc j + 1 ≡ suc (j + 1) = omega arith in e) (rising (suc j) (omega (arith, lt)))

rising_from : (ns : List ℕ) (last : ℕ) → IsStrictlyIncreasing ns → ((n : ℕ) → slice_get ns 0 ≡ Some n → last < n) → IsRisingFrom last ns
rising_from [] last rising first = tt
rising_from (n ∷ []) last rising first = (first n refl, tt)
rising_from (n ∷ m ∷ ns) last rising first = (
  first n refl,
  rising_from (m ∷ ns) n (rising_tail n (m ∷ ns) rising) (λ k e. (let same : m ≡ k = one_some e in subst (λ (x : ℕ). n < x) same (rising 0 (omega arith)))),
)

placed_steps : (count : ℕ) (steps : List Step) → part_after (part.RefusedSteps count) (numbered (count + 1) steps) ≡ Some (part.RefusedSteps (count + length steps))
placed_steps count [] = ap (λ (n : ℕ). Some (part.RefusedSteps n)) (omega arith)
placed_steps count (s ∷ steps) =
    ap (λ (b : Bool). option_and_then (λ q. part_after q (numbered (count + 1 + 1) steps)) (if b then Some (part.RefusedSteps (count + 1)) else None)) (eq-eqb (count + 1) (count + 1) refl)
    ∙ (placed_steps (count + 1) steps ∙ ap (λ (n : ℕ). Some (part.RefusedSteps n)) (omega arith))

-- the steps begin after named lines
begun : (p : Part) (first : Step) (rest : List Step) → next_part p (Numbered 1 first) ≡ Some (part.RefusedSteps 1) → part_after p (numbered 1 (first ∷ rest)) ≡ Some (part.RefusedSteps (1 + length rest))
begun p first rest next = ap (λ (o : Option Part). option_and_then (λ q. part_after q (numbered (1 + 1) rest)) o) next ∙ placed_steps 1 rest

placed_request : (last : ℕ) (ns : List ℕ) (first : Step) (rest : List Step) → IsRisingFrom last ns → part_after (part.Request last) (map (λ n. RequestLine n) ns ++ numbered 1 (first ∷ rest)) ≡ Some (part.RefusedSteps (1 + length rest))
placed_request last [] first rest up = begun (part.Request last) first rest refl
placed_request last (n ∷ ns) first rest (below, up) =
    ap (λ (b : Bool). option_and_then (λ q. part_after q (map (λ m. RequestLine m) ns ++ numbered 1 (first ∷ rest))) (if b then Some (part.Request n) else None)) (lt-ltb last n below) ∙ placed_request n ns first rest up

placed_catalogue : (last : ℕ) (cs ns : List ℕ) (first : Step) (rest : List Step) → IsRisingFrom last cs → IsRisingFrom 0 ns
    → part_after (part.Catalogue last) (map (λ n. CatalogueLine n) cs ++ (map (λ n. RequestLine n) ns ++ numbered 1 (first ∷ rest))) ≡ Some (part.RefusedSteps (1 + length rest))
placed_catalogue last [] [] first rest up over = begun (part.Catalogue last) first rest refl
placed_catalogue last [] (n ∷ ns) first rest up (below, over) =
    ap (λ (b : Bool). option_and_then (λ q. part_after q (map (λ m. RequestLine m) ns ++ numbered 1 (first ∷ rest))) (if b then Some (part.Request n) else None)) (lt-ltb 0 n below) ∙ placed_request n ns first rest over
placed_catalogue last (c ∷ cs) ns first rest (below, up) over =
    ap (λ (b : Bool). option_and_then (λ q. part_after q (map (λ m. CatalogueLine m) cs ++ (map (λ m. RequestLine m) ns ++ numbered 1 (first ∷ rest)))) (if b then Some (part.Catalogue c) else None)) (lt-ltb last c below)
    ∙ placed_catalogue c cs ns first rest up over

-- ---- each line has a text

all_append : {X : Type 0} (P : X → Type 0) (xs ys : List X) → AllByRecursion P xs → AllByRecursion P ys → AllByRecursion P (xs ++ ys)
all_append P [] ys a b = b
all_append P (x ∷ xs) ys a b = (a.0, all_append P xs ys a.1 b)

named_texts : (f : ℕ → ReportLine) → ((n : ℕ) → IsLineNumber n → HasText (f n)) → (ns : List ℕ) → ((n : ℕ) → Contains ns n → IsLineNumber n) → AllByRecursion HasText (map f ns)
named_texts f has [] fits = tt
named_texts f has (n ∷ ns) fits = (has n (fits n (contains_first n n ns refl)), named_texts f has ns (λ m h. fits m (contains_later m n ns h)))

step_texts : {X : Type 0} (first : ℕ) (xs : List X) (ss : List Step) → AllZip (λ x s. IsStep s) xs ss → first + length xs ≤ 4294967296 → AllByRecursion HasText (numbered first ss)
step_texts first [] [] z most = tt
step_texts first [] (s ∷ ss) z most = absurd z
step_texts first (x ∷ xs) [] z most = absurd z
step_texts first (x ∷ xs) (s ∷ ss) z most = ((omega (arith, most), z.0), step_texts (first + 1) xs ss z.1 (omega (arith, most)))

-- Named lines that rise, and steps that have texts, at least one: the report is one of the grammar.
pub in_grammar : {X : Type 0} (in_catalogue in_request : List ℕ) (xs : List X) (written : List Step) → IsStrictlyIncreasing in_catalogue → IsStrictlyIncreasing in_request → ((n : ℕ) → Contains in_catalogue n → IsLineNumber n) → ((n : ℕ) → Contains in_request n → IsLineNumber n)
    → AllZip (λ x s. IsStep s) xs written → 0 < length xs → length xs < 4294967296 → IsReport (Refused in_catalogue in_request written [])
in_grammar cs ns [] written up over fits suits each some most = absurd (omega (arith, some))
in_grammar cs ns (x ∷ xs) [] up over fits suits each some most = absurd each
in_grammar cs ns (x ∷ xs) (first ∷ rest) up over fits suits each some most = record {
  part = part.RefusedSteps (1 + length rest);
  lines = subst (λ (ls : List ReportLine). AreLines ls (part.RefusedSteps (1 + length rest))) (sym (lines_are cs ns (first ∷ rest))) (record {
    each = (tt, all_append HasText (map (λ n. CatalogueLine n) cs) _ (named_texts (λ n. CatalogueLine n) (λ n h. h) cs fits) (all_append HasText (map (λ n. RequestLine n) ns) _ (named_texts (λ n. RequestLine n) (λ n h. h) ns suits) (step_texts 1 (x ∷ xs) (first ∷ rest) each (omega (arith, most)))));
    placed = placed_catalogue 0 cs ns first rest (rising_from cs 0 up (λ n e. begins cs n e fits)) (rising_from ns 0 over (λ n e. begins ns n e suits));
  });
  whole = refl;
}
  where
    begins : (numbers : List ℕ) (n : ℕ) → slice_get numbers 0 ≡ Some n → ((m : ℕ) → Contains numbers m → IsLineNumber m) → 0 < n
    begins numbers n e all = (let (least, most) = all n (contains_from_at numbers n 0 e) in omega (arith, least))
