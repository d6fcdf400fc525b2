-- Loop invariants: texts that rise, and texts without repetition.
use Rattle.std.proofs.Common.{◌≡◌, ℕ, zero, suc, Bool, true, false, not, cond, ◌&&◌, ◌||◌, drop, Bor, List, [], ◌∷◌, ◌+◌, ◌<◌, ◌≤◌, length, map, get_or, subst, arith, refl, sym, ap, ◌∙◌}
use Rattle.resolvo_literal_order.specs.Order.{texts_of, is_before, are_rising, are_once, atom_part}
use Rattle.std.specs.Str.{bytes_eq}
use Rattle.std.specs.List.{list_any}
use Rattle.std.specs.declared.cmp.Ordering.{Ordering}
use Rattle.std.specs.Ordering.{is_eq, nat_cmp}
use Rattle.std.specs.Cmp.Lexicographic.{slice_cmp}
use Rattle.std.proofs.lemmas.Map.Text.{is_eq-slice_cmp}
use Rattle.std.proofs.lemmas.List.{drop_more}
use Rattle.std.proofs.lemmas.Bool.{and_parts}

pub rising_on : (before t : List ℕ) (ts : List (List ℕ)) (all : Bool) → are_rising (before ∷ t ∷ ts) ≡ all → is_before before t ≡ true → are_rising (t ∷ ts) ≡ all
rising_on before t ts all e h = ap (λ (b : Bool). b && are_rising (t ∷ ts)) (sym h) ∙ e

pub rising_stops : (before t : List ℕ) (ts : List (List ℕ)) (all : Bool) → are_rising (before ∷ t ∷ ts) ≡ all → is_before before t ≡ false → false ≡ all
rising_stops before t ts all e h = ap (λ (b : Bool). b && are_rising (t ∷ ts)) (sym h) ∙ e

-- a part of the texts of which one is there twice
pub once_part : (x : List ℕ) (xs : List (List ℕ)) → are_once (x ∷ xs) ≡ true → are_once xs ≡ true
once_part x xs e = (and_parts (not (list_any (λ y. bytes_eq y x) xs)) (are_once xs) e).1

pub once_below : (n : ℕ) (xs : List (List ℕ)) → are_once xs ≡ true → are_once (drop n xs) ≡ true
once_below zero xs e = e
once_below (suc n) [] e = refl
once_below (suc n) (x ∷ xs) e = once_below n xs (once_part x xs e)

-- references in the order of the bytes behind them
abbrev pub by_bytes : Bor (List ℕ) → Bor (List ℕ) → Ordering
by_bytes x y = slice_cmp nat_cmp x.now y.now

-- a sorted set finds an added text by its bytes
pub updates_by_bytes : (has has_now : Bor (List ℕ) → Bool) (x : Bor (List ℕ)) → ((q : Bor (List ℕ)) → has_now q ≡ cond (is_eq (by_bytes x q)) true (has q)) → (q : Bor (List ℕ)) → has_now q ≡ cond (bytes_eq x.now q.now) true (has q)
updates_by_bytes has has_now x updated = λ q. updated q ∙ ap (λ (b : Bool). cond b true (has q)) (is_eq-slice_cmp x.now q.now)

-- the texts that a set of references has
abbrev pub HasSeen : (Bor (List ℕ) → Bool) → List (List ℕ) → Type 0
HasSeen has texts = (q : Bor (List ℕ)) → has q ≡ list_any (λ t. bytes_eq t q.now) texts

pub seen_more : (has has_now : Bor (List ℕ) → Bool) (x : Bor (List ℕ)) (texts : List (List ℕ)) → HasSeen has texts → ((q : Bor (List ℕ)) → has_now q ≡ cond (bytes_eq x.now q.now) true (has q)) → HasSeen has_now (x.now ∷ texts)
seen_more has has_now x texts seen updated = λ q. updated q ∙ either (bytes_eq x.now q.now) (has q) ∙ ap (λ (b : Bool). bytes_eq x.now q.now || b) (seen q)
  where
    either : (b c : Bool) → cond b true c ≡ b || c
    either true c = refl
    either false c = refl

pub once_more : (has : Bor (List ℕ) → Bool) (x : Bor (List ℕ)) (texts : List (List ℕ)) (added : Bool) → HasSeen has texts → added ≡ not (has x) → are_once texts ≡ true → are_once (x.now ∷ texts) ≡ added
once_more has x texts added seen is once = ap (λ (b : Bool). not (list_any (λ y. bytes_eq y x.now) texts) && b) once ∙ and_true (not (list_any (λ y. bytes_eq y x.now) texts)) ∙ ap (λ (b : Bool). not b) (sym (seen x)) ∙ sym is
  where
    and_true : (b : Bool) → b && true ≡ b
    and_true true = refl
    and_true false = refl

abbrev pub parts_of : List (Bor (List ℕ)) → List (List ℕ)
parts_of ts = map atom_part (texts_of ts)

parts_below : (n : ℕ) (ts : List (Bor (List ℕ))) → drop n (parts_of ts) ≡ parts_of (drop n ts)
parts_below zero ts = refl
parts_below (suc n) [] = refl
parts_below (suc n) (t ∷ ts) = parts_below n ts

parts_at : (ts : List (Bor (List ℕ))) (n at : ℕ) (d x : Bor (List ℕ)) → at ≡ n + 1 → n < length ts → x.now ≡ atom_part (get_or ts n d).now → parts_of (drop n ts) ≡ x.now ∷ parts_of (drop at ts)
parts_at ts n at d x is lt part = ap parts_of (drop_more ts n d lt) ∙ ap (λ (t : List ℕ). t ∷ parts_of (drop (n + 1) ts)) (sym part) ∙ ap (λ (k : ℕ). x.now ∷ parts_of (drop k ts)) (sym is)

pub once_stops : (has : Bor (List ℕ) → Bool) (ts : List (Bor (List ℕ))) (n at : ℕ) (d x : Bor (List ℕ)) (added : Bool) → at ≡ n + 1 → n < length ts → x.now ≡ atom_part (get_or ts n d).now
    → HasSeen has (parts_of (drop at ts)) → added ≡ not (has x) → added ≡ false → are_once (parts_of (drop at ts)) ≡ true → false ≡ are_once (parts_of ts)
once_stops has ts n at d x added is lt part seen test twice once = by_test (are_once (parts_of ts)) refl
  where
    by_test : (b : Bool) → are_once (parts_of ts) ≡ b → false ≡ b
    by_test false e = refl
    by_test true e =
        let below : are_once (parts_of (drop n ts)) ≡ true = ap are_once (sym (parts_below n ts)) ∙ once_below n (parts_of ts) e in
        sym twice ∙ sym (once_more has x (parts_of (drop at ts)) added seen test once) ∙ ap are_once (sym (parts_at ts n at d x is lt part)) ∙ below

pub once_goes_on : (has has_now : Bor (List ℕ) → Bool) (ts : List (Bor (List ℕ))) (n at : ℕ) (d x : Bor (List ℕ)) (added : Bool) → at ≡ n + 1 → n < length ts → x.now ≡ atom_part (get_or ts n d).now
    → HasSeen has (parts_of (drop at ts)) → added ≡ not (has x) → added ≡ true → are_once (parts_of (drop at ts)) ≡ true → ((q : Bor (List ℕ)) → has_now q ≡ cond (bytes_eq x.now q.now) true (has q))
    → (n ≤ length ts) × (are_once (parts_of (drop n ts)) ≡ true) × HasSeen has_now (parts_of (drop n ts))
once_goes_on has has_now ts n at d x added is lt part seen test new once updated =
    let parts = parts_at ts n at d x is lt part in (
      omega (arith, lt),
      ap are_once parts ∙ once_more has x (parts_of (drop at ts)) added seen test once ∙ new,
      subst (λ (texts : List (List ℕ)). HasSeen has_now texts) (sym parts) (seen_more has has_now x (parts_of (drop at ts)) seen updated),
    )

-- ---- a few texts, pair by pair

any_part : (atom : List ℕ) (ts : List (Bor (List ℕ))) → list_any (λ t. bytes_eq (atom_part t.now) atom) ts ≡ list_any (λ y. bytes_eq y atom) (parts_of ts)
any_part atom [] = refl
any_part atom (t ∷ ts) = ap (λ (b : Bool). bytes_eq (atom_part t.now) atom || b) (any_part atom ts)

first_part : (first : Bor (List ℕ)) (others : List (Bor (List ℕ))) (atom : List ℕ) (found : Bool) → atom ≡ atom_part first.now → found ≡ list_any (λ t. bytes_eq (atom_part t.now) atom) others
    → are_once (parts_of (first ∷ others)) ≡ not found && are_once (parts_of others)
first_part first others atom found part is = ap (λ (x : List ℕ). not (list_any (λ y. bytes_eq y x) (parts_of others)) && are_once (parts_of others)) (sym part) ∙ ap (λ (b : Bool). not b && are_once (parts_of others)) (sym (any_part atom others) ∙ sym is)

few_at : (ts : List (Bor (List ℕ))) (n at : ℕ) (d : Bor (List ℕ)) (atom : List ℕ) (found : Bool) → at ≡ n + 1 → n < length ts → atom ≡ atom_part (get_or ts n d).now → found ≡ list_any (λ t. bytes_eq (atom_part t.now) atom) (drop at ts)
    → are_once (parts_of (drop n ts)) ≡ not found && are_once (parts_of (drop at ts))
few_at ts n at d atom found is lt part has =
    ap (λ xs. are_once (parts_of xs)) (drop_more ts n d lt)
    ∙ ap (λ (k : ℕ). are_once (parts_of (get_or ts n d ∷ drop k ts))) (sym is)
    ∙ first_part (get_or ts n d) (drop at ts) atom found part has

pub few_stop : (ts : List (Bor (List ℕ))) (n at : ℕ) (d : Bor (List ℕ)) (atom : List ℕ) (found : Bool) → at ≡ n + 1 → n < length ts → atom ≡ atom_part (get_or ts n d).now → found ≡ list_any (λ t. bytes_eq (atom_part t.now) atom) (drop at ts)
    → found ≡ true → false ≡ are_once (parts_of ts)
few_stop ts n at d atom found is lt part has there = by_test (are_once (parts_of ts)) refl
  where
    by_test : (b : Bool) → are_once (parts_of ts) ≡ b → false ≡ b
    by_test false e = refl
    by_test true e =
        let below : are_once (parts_of (drop n ts)) ≡ true = ap are_once (sym (parts_below n ts)) ∙ once_below n (parts_of ts) e in
        ap (λ (b : Bool). not b && are_once (parts_of (drop at ts))) (sym there) ∙ sym (few_at ts n at d atom found is lt part has) ∙ below

pub few_go_on : (ts : List (Bor (List ℕ))) (n at : ℕ) (d : Bor (List ℕ)) (atom : List ℕ) (found : Bool) → at ≡ n + 1 → n < length ts → atom ≡ atom_part (get_or ts n d).now → found ≡ list_any (λ t. bytes_eq (atom_part t.now) atom) (drop at ts)
    → found ≡ false → are_once (parts_of (drop at ts)) ≡ true → (n ≤ length ts) × (are_once (parts_of (drop n ts)) ≡ true)
few_go_on ts n at d atom found is lt part has absent once = (
  omega (arith, lt),
  few_at ts n at d atom found is lt part has ∙ ap (λ (b : Bool). not b && are_once (parts_of (drop at ts))) absent ∙ once,
)
