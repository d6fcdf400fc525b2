-- Lemmas on the rules that clauses encode.
use Rattle.std.proofs.Common.{◌≡◌, ℕ, zero, suc, Bool, List, [], ◌∷◌, Some, refl, sym, ◌∙◌, ap}
use Rattle.resolvo_store_core.specs.AtMostOne.{IsPrefixOf, digit}
use Rattle.resolvo_sat.specs.RuleClauses.{Rule}
use Rattle.resolvo_state.specs.Kinds.{Kind}
use Rattle.resolvo_state.specs.Kinds.{Root, Needs, Gated, Shared, Limits, LimitsOutside, IsOut, Locked, Excluded, Digit, IsThere, Matches, Learnt}
use Rattle.resolvo_state.specs.ClauseKinds.{rule_of, kind_at, rule_at, rules_in}
use Rattle.resolvo_state.proofs.Positions.{prefix_get}

-- the rule of a clause is that of its kind
pub rule_at_kind : {N S : Type 0} (kinds : List (Kind N S)) (n : ℕ) (x : Kind N S) → kind_at kinds n ≡ Some x → rule_at kinds n ≡ rule_of x
rule_at_kind [] n x h = absurd cc
rule_at_kind (y ∷ kinds) zero x h = let e : y ≡ x = cc in ap rule_of e
rule_at_kind (y ∷ kinds) (suc n) x h = rule_at_kind kinds n x h

pub kind_of_rule : {N S : Type 0} (kinds : List (Kind N S)) (n : ℕ) (r : Rule N S) → rule_at kinds n ≡ Some r → (x : Kind N S) × (kind_at kinds n ≡ Some x) × (rule_of x ≡ Some r)
kind_of_rule [] n r h = absurd cc
kind_of_rule (y ∷ kinds) zero r h = (y, refl, h)
kind_of_rule (y ∷ kinds) (suc n) r h = kind_of_rule kinds n r h

-- appended kinds change no rule
pub rule_prefix : {N S : Type 0} (kinds more : List (Kind N S)) (n : ℕ) (r : Rule N S) → IsPrefixOf kinds more → rule_at kinds n ≡ Some r → rule_at more n ≡ Some r
rule_prefix kinds more n r f h = let (x, at, is) = kind_of_rule kinds n r h in rule_at_kind more n x (prefix_get kinds more n x f at) ∙ is

pub rules_prefix : {N S : Type 0} (kinds more : List (Kind N S)) (r : Rule N S) → IsPrefixOf kinds more → rules_in kinds r → rules_in more r
rules_prefix kinds more r f (n, h) = (n, rule_prefix kinds more n r f h)

-- a clause that encodes a digit encodes that of a place
pub digit_kind : {N S : Type 0} (kinds : List (Kind N S)) (n : ℕ) (s : S) (bit : ℕ) (b : Bool) → rule_at kinds n ≡ Some (Rule.has_digit s bit b) → (name : N) × (place : ℕ) × (kind_at kinds n ≡ Some (Digit name s place bit)) × (b ≡ digit place bit)
digit_kind {N} {S} kinds n s bit b h = let (x, at, is) = kind_of_rule kinds n (Rule.has_digit s bit b) h in go x at is
  where
    go : (x : Kind N S) → kind_at kinds n ≡ Some x → rule_of x ≡ Some (Rule.has_digit s bit b) → (name : N) × (place : ℕ) × (kind_at kinds n ≡ Some (Digit name s place bit)) × (b ≡ digit place bit)
    go Root at is = absurd cc
    go (Needs parent need case) at is = absurd cc
    go (Gated t r) at is = absurd cc
    go (Shared r) at is = absurd cc
    go (Limits parent v t) at is = absurd cc
    go (LimitsOutside parent v) at is = absurd cc
    go (IsOut v t) at is = absurd cc
    go (Locked locked t) at is = absurd cc
    go (Excluded t reason) at is = absurd cc
    go (Digit name t place k) at is =
        let one : t ≡ s = cc in
        let same : k ≡ bit = cc in
        let by_digits : digit place k ≡ b = cc in
        (name, place, at ∙ (λ i. Some (Digit name (one i) place (same i))), sym by_digits ∙ ap (digit place) same)
    go (IsThere name t) at is = absurd cc
    go (Matches v t) at is = absurd cc
    go Learnt at is = absurd cc
