-- The highest number of a map or a table in a span.
use Rattle.std.proofs.Common.{◌≡◌, inl, inr, ℕ, ◌<◌, ◌≤◌, Bool, true, false, if◌then◌else◌, List, [], ◌∷◌, ◌++◌, Option, Some, None, refl, sym, ap, subst, ◌∙◌, arith}
use Rattle.std.specs.Prelude.{nat_le, nat_lt, IfSome, IsSome, ◌==◌}
use Rattle.std.specs.declared.ops.Bound.TheVariants.{Included, Excluded}
use Rattle.std.specs.declared.cmp.Ordering.TheVariants.{Less, Equal}
use Rattle.std.specs.Borrow.{Bor}
use Rattle.std.specs.Ordering.{nat_cmp, is_lt, is_gt}
use Rattle.std.specs.Option.{option_map, is_some}
use Rattle.std.specs.Map.Iter.{TakesLast, deref_pair}
use Rattle.std.specs.BTreeMap.{BTreeMap, get, IsUpperBound}
use Rattle.std.specs.BTreeMap.Range.{IsRangeOf}
use Rattle.std.proofs.lemmas.Bool.{false≢true, cases_Bool, eqb-true, and_parts, and_from}
use Rattle.std.proofs.lemmas.Bool.Decides.{nat_tests, Decides-eqb}
use Rattle.resolvo_text.specs.Matches.{is_in_span}
use Rattle.resolvo_text.specs.declared.spec.Span.{Span}
use Rattle.resolvo_text.specs.declared.spec.Span.TheVariants.{Any, One, Range}
use Rattle.resolvo_catalogue_core.specs.declared.rule.VersionNo.{VersionNo}
use Rattle.resolve_order.specs.Numbers.{single_or, single_within, newer, IsNewest, IsNewestIn}
use Rattle.resolve_order.specs.declared.version_table.Numbered.{Numbered}

-- ---- orders as tests

not_below : (a b : ℕ) → is_lt (nat_cmp a b) ≡ false → b ≤ a
not_below a b h = grind (arith, nat_tests)

up_to : (a b : ℕ) → is_gt (nat_cmp a b) ≡ false → nat_le a b ≡ true
up_to a b h = grind (arith, nat_tests)

up_to_back : (a b : ℕ) → nat_le a b ≡ true → is_gt (nat_cmp a b) ≡ false
up_to_back a b h = grind (arith, nat_tests)

less_is : (a b : ℕ) → nat_lt a b ≡ true → a < b
less_is a b h = grind (arith, nat_tests)

not_less : (a b : ℕ) → nat_lt a b ≡ false → b ≤ a
not_less a b h = grind (arith, nat_tests)

below : (a b : ℕ) → nat_cmp a b ≡ Less → nat_lt a b ≡ true
below a b h = grind (arith, nat_tests)

below_back : (a b : ℕ) → nat_lt a b ≡ true → nat_cmp a b ≡ Less
below_back a b h = grind (arith, nat_tests)

same : (a b : ℕ) → nat_cmp a b ≡ Equal → a ≡ b
same a b h = grind (arith, nat_tests)

has_some : (m : BTreeMap ℕ VersionNo) (n : ℕ) (k : VersionNo) → get nat_cmp m n ≡ Some k → IsSome (get nat_cmp m n)
has_some m n k e = ap is_some e

-- ---- the three spans

pub newest_of_all : (m : BTreeMap ℕ VersionNo) (r : Option (Bor ℕ × Bor VersionNo)) (n : Bor ℕ) (k : Bor VersionNo) → r ≡ Some (n, k) → IfSome r (λ p. get nat_cmp m p.0.now ≡ Some p.1.now) → IfSome r (λ p. IsUpperBound nat_cmp m p.0.now) → IsNewest (get nat_cmp m) Any (Some (record { number = n.now; version = k.now }))
newest_of_all m r n k is value greatest =
    let at = subst (λ (o : Option (Bor ℕ × Bor VersionNo)). IfSome o (λ p. get nat_cmp m p.0.now ≡ Some p.1.now)) is value in
    let most = subst (λ (o : Option (Bor ℕ × Bor VersionNo)). IfSome o (λ p. IsUpperBound nat_cmp m p.0.now)) is greatest in
    (at, refl, λ i j at_i _. not_below n.now i (most i (has_some m i j at_i)))

pub newest_of_one : (m : BTreeMap ℕ VersionNo) (number : ℕ) (r : Option (Bor ℕ × Bor VersionNo)) (n : Bor ℕ) (k : Bor VersionNo) → r ≡ Some (n, k) → option_map (λ p. p.1.now) r ≡ get nat_cmp m number → IfSome r (λ p. nat_cmp number p.0.now ≡ Equal) → IsNewest (get nat_cmp m) (One number) (Some (record { number = n.now; version = k.now }))
newest_of_one m number r n k is value key =
    let alike = subst (λ (o : Option (Bor ℕ × Bor VersionNo)). IfSome o (λ p. nat_cmp number p.0.now ≡ Equal)) is key in
    subst (λ (i : ℕ). IsNewest (get nat_cmp m) (One number) (Some (record { number = i; version = k.now }))) (same number n.now alike)
    (sym value ∙ ap (option_map (λ p. p.1.now)) is, (Decides-eqb number number).1 refl, λ i j _ here. (let e = (Decides-eqb i number).0 here in omega (arith, e)))

pub newest_between : (m : BTreeMap ℕ VersionNo) (low high : ℕ) (part rest : List (ℕ × VersionNo)) (r : Option (Bor ℕ × Bor VersionNo)) (n : Bor ℕ) (k : Bor VersionNo) → r ≡ Some (n, k) → IsRangeOf nat_cmp (Included low) (Excluded high) m part → TakesLast deref_pair part r rest → IsNewest (get nat_cmp m) (Range low high) (Some (record { number = n.now; version = k.now }))
newest_between m low high part rest r n k is range step =
    let last : part ≡ rest ++ (n.now, k.now) ∷ [] = subst (λ (o : Option (Bor ℕ × Bor VersionNo)). TakesLast deref_pair part o rest) is step in
    let entry = range.3 (n.now, k.now) rest last in (
      entry.1,
      and_from (nat_le low n.now) (nat_lt n.now high) (up_to low n.now entry.0.0) (below n.now high entry.0.1),
      λ i j at_i here.
          let parts = and_parts (nat_le low i) (nat_lt i high) here in
          not_below n.now i (range.4 (n.now, k.now) rest last i (up_to_back low i parts.0, below_back i high parts.1) (has_some m i j at_i)),
    )

-- ---- the version in a package's place, and those beside it

without_number : (numbers : ℕ → Option VersionNo) (span : Span) (o : Option Numbered) → IsNewest numbers span o → IsNewestIn numbers span (option_map (λ (x : Numbered). x.version) o)
without_number numbers span None h = h
without_number numbers span (Some x) h = (x.number, h.0, h.1, h.2)

-- what lies in the place is outside the span
beside_outside : (x : Numbered) (numbers : ℕ → Option VersionNo) (span : Span) (o : Option Numbered) → is_in_span span x.number ≡ false → IsNewest numbers span o → IsNewest (λ n. single_or (Some x) (numbers n) n) span o
beside_outside x numbers span o outside h = of o h
  where
    other : (n : ℕ) → is_in_span span n ≡ true → (x.number == n) ≡ false
    other n here = elim (cases_Bool (x.number == n)) [
      | inl t ↦ absurd (false≢true (sym outside ∙ ap (is_in_span span) (eqb-true x.number n t) ∙ here))
      | inr f ↦ f
    ]

    is : (n : ℕ) → is_in_span span n ≡ true → single_or (Some x) (numbers n) n ≡ numbers n
    is n here = ap (λ (b : Bool). if b then Some x.version else numbers n) (other n here)

    of : (o : Option Numbered) → IsNewest numbers span o → IsNewest (λ n. single_or (Some x) (numbers n) n) span o
    of None h = λ n k at here. h n k (sym (is n here) ∙ at) here
    of (Some y) h = (is y.number h.1 ∙ h.0, h.1, λ m j at here. h.2 m j (sym (is m here) ∙ at) here)

-- it is in the span
beside_inside : (x : Numbered) (numbers : ℕ → Option VersionNo) (span : Span) (o : Option Numbered) → is_in_span span x.number ≡ true → IsNewest numbers span o → IsNewest (λ n. single_or (Some x) (numbers n) n) span (newer (Some x) o)
beside_inside x numbers span o inside h = of o h
  where
    here : single_or (Some x) (numbers x.number) x.number ≡ Some x.version
    here = ap (λ (b : Bool). if b then Some x.version else numbers x.number) ((Decides-eqb x.number x.number).1 refl)

    -- each number in the span is up to this one
    most : (top : ℕ) → x.number ≤ top → ((m : ℕ) (j : VersionNo) → numbers m ≡ Some j → is_in_span span m ≡ true → m ≤ top) → (m : ℕ) (j : VersionNo) → single_or (Some x) (numbers m) m ≡ Some j → is_in_span span m ≡ true → m ≤ top
    most top le up m j at in_m = elim (cases_Bool (x.number == m)) [
      | inl t ↦ subst (λ (i : ℕ). i ≤ top) (eqb-true x.number m t) le
      | inr f ↦ up m j (sym (ap (λ (b : Bool). if b then Some x.version else numbers m) f) ∙ at) in_m
    ]

    of : (o : Option Numbered) → IsNewest numbers span o → IsNewest (λ n. single_or (Some x) (numbers n) n) span (newer (Some x) o)
    of None h = (here, inside, most x.number (omega arith) (λ m j at in_m. absurd (h m j at in_m)))
    of (Some y) h = elim (cases_Bool (nat_lt x.number y.number)) [
      | inl t ↦
          let less : x.number < y.number = less_is x.number y.number t in
          let apart : (x.number == y.number) ≡ false = elim (cases_Bool (x.number == y.number)) [ inl e ↦ (let same = eqb-true x.number y.number e in absurd (omega (arith, less, same))) | inr f ↦ f ] in
          subst (λ (b : Bool). IsNewest (λ n. single_or (Some x) (numbers n) n) span (if b then Some y else Some x)) (sym t)
          (ap (λ (b : Bool). if b then Some x.version else numbers y.number) apart ∙ h.0, h.1, most y.number (omega (arith, less)) h.2)
      | inr f ↦
          let le : y.number ≤ x.number = not_less x.number y.number f in
          subst (λ (b : Bool). IsNewest (λ n. single_or (Some x) (numbers n) n) span (if b then Some y else Some x)) (sym f)
          (here, inside, most x.number (omega arith) (λ m j at in_m. let up = h.2 m j at in_m in omega (arith, le, up)))
    ]

newest_both : (single : Option Numbered) (numbers : ℕ → Option VersionNo) (span : Span) (o : Option Numbered) → IsNewest numbers span o → IsNewest (λ n. single_or single (numbers n) n) span (newer (single_within single span) o)
newest_both None numbers span o h = h
newest_both (Some x) numbers span o h = elim (cases_Bool (is_in_span span x.number)) [
  | inl t ↦
      subst (λ (b : Bool). IsNewest (λ n. single_or (Some x) (numbers n) n) span (newer (if b then Some x else None) o)) (sym t) (beside_inside x numbers span o t h)
  | inr f ↦
      subst (λ (b : Bool). IsNewest (λ n. single_or (Some x) (numbers n) n) span (newer (if b then Some x else None) o)) (sym f) (beside_outside x numbers span o f h)
]

pub newest_in_both : (single : Option Numbered) (numbers : ℕ → Option VersionNo) (span : Span) (o r : Option Numbered) → IsNewest numbers span o → r ≡ newer (single_within single span) o → IsNewestIn (λ n. single_or single (numbers n) n) span (option_map (λ (x : Numbered). x.version) r)
newest_in_both single numbers span o r h is =
    without_number (λ n. single_or single (numbers n) n) span r (subst (IsNewest (λ n. single_or single (numbers n) n) span) (sym is) (newest_both single numbers span o h))
