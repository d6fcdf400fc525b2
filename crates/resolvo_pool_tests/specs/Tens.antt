-- The answers of the tests' provider in memory.
use Rattle.std.specs.Prelude.{◌≡◌, ◌==◌, ℕ, ◌+◌, ◌*◌, ◌/◌, ◌%◌, Bool, true, false, [], ◌∷◌, Option, None, Some, cond, nat_lt, All}
use Rattle.std.proofs.Common.{ap, arith}
use Rattle.std.proofs.lemmas.List.Elements.{All-nil, All-cons}
use Rattle.resolvo_pool_core.specs.declared.id.DenseId.{DenseId}
use Rattle.resolvo_pool_core.specs.declared.id.NameTag.{NameTag}
use Rattle.resolvo_pool_core.specs.declared.id.SolvableTag.{SolvableTag}
use Rattle.resolvo_pool_core.specs.Provider.{Listing, Needs, known, unknown, all, AreOf}

abbrev pub Place : Type 0
Place = DenseId SolvableTag ℕ

abbrev pub tens_place : ℕ → ℕ → Place
tens_place n v = record { raw = n * 10 + v; tag = record {} }

-- the versions 0 to 2 of the packages 0 to 2
abbrev pub tens_listing : Option Place → DenseId NameTag ℕ → Option (Listing Place)
tens_listing favored n = cond (nat_lt 2 n.raw) None (Some (record { candidates = tens_place n.raw 0 ∷ tens_place n.raw 1 ∷ tens_place n.raw 2 ∷ []; favored = favored; locked = None; hint = all; excluded = []; many = false }))

-- version 2 has unknown dependencies, the others need nothing
abbrev pub tens_needs : Place → Needs
tens_needs s = cond (s.raw % 10 == 2) (unknown (record { 0 = 0 })) (known [] [])

abbrev pub tens_name : Place → DenseId NameTag ℕ
tens_name s = record { raw = s.raw / 10; tag = record {} }

named : (n : DenseId NameTag ℕ) (v : ℕ) → (n.raw * 10 + v) / 10 ≡ n.raw → tens_name (tens_place n.raw v) ≡ n
named n v e = ap (λ r. record { raw = r; tag = n.tag }) e

all_named : (n : DenseId NameTag ℕ) → All (λ s. tens_name s ≡ n) (tens_place n.raw 0 ∷ tens_place n.raw 1 ∷ tens_place n.raw 2 ∷ [])
all_named n =
    All-cons (λ s. tens_name s ≡ n) (tens_place n.raw 0) (tens_place n.raw 1 ∷ tens_place n.raw 2 ∷ []) (named n 0 (omega arith))
    (All-cons (λ s. tens_name s ≡ n) (tens_place n.raw 1) (tens_place n.raw 2 ∷ []) (named n 1 (omega arith))
    (All-cons (λ s. tens_name s ≡ n) (tens_place n.raw 2) [] (named n 2 (omega arith)) (All-nil (λ s. tens_name s ≡ n))))

pub tens_named : (favored : Option Place) (n : DenseId NameTag ℕ) → AreOf tens_name n (tens_listing favored n)
tens_named favored n = go (nat_lt 2 n.raw)
  where
    go : (b : Bool) → AreOf tens_name n (cond b None (Some (record { candidates = tens_place n.raw 0 ∷ tens_place n.raw 1 ∷ tens_place n.raw 2 ∷ []; favored = favored; locked = None; hint = all; excluded = []; many = false })))
    go true = tt
    go false = record { candidates = all_named n; locked = tt; excluded = All-nil (λ e. tens_name e.0 ≡ n) }
