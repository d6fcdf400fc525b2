-- The digits in clauses are those of one place for each solvable.
use Rattle.std.proofs.Common.{◌≡◌, ℕ, zero, suc, ◌==◌, ◌&&◌, inl, inr, Bool, false, cond, List, [], ◌∷◌, Option, Some, None, unwrap_or, refl, sym, ◌∙◌, ap, subst, eqb-true, eq-eqb}
use Rattle.std.proofs.lemmas.Bool.{cases_Bool, and_from, and_parts}
use Rattle.resolvo_pool_core.specs.RuleKeeping.{Packages, Rules}
use Rattle.resolvo_store_core.specs.AtMostOne.{digit}
use Rattle.resolvo_sat.specs.RuleClauses.{IsExact, Rule, AgreeWith}
use Rattle.resolvo_state.specs.Kinds.{Kind}
use Rattle.resolvo_state.specs.ClauseKinds.{rule_of, rule_at, rules_in}
use Rattle.resolvo_state.specs.Registered.{IsPlaced}
use Rattle.resolvo_state.proofs.Rules.{digit_kind}
use Rattle.resolvo_state.proofs.RegisterLemmas.{placed_registered, one_place}
use Rattle.resolvo_encoder.specs.Encoded.{IsEncoding, rules_of}
use Rattle.resolvo_encoder.specs.declared.encoder.Encoder.{Encoder}

-- the digit of the solvable's place in the rule, if it has one
abbrev pub digit_in : {N S : Type 0} → (S → S → Bool) → Option (Rule N S) → S → ℕ → Option Bool
digit_in same None s bit = None
digit_in same (Some (Rule.needs parent need case)) s bit = None
digit_in same (Some (Rule.gated t r)) s bit = None
digit_in same (Some (Rule.shared r)) s bit = None
digit_in same (Some (Rule.limits parent v t)) s bit = None
digit_in same (Some (Rule.limits_outside parent v)) s bit = None
digit_in same (Some (Rule.is_out v t)) s bit = None
digit_in same (Some (Rule.forbids w t)) s bit = None
digit_in same (Some (Rule.has_digit t k b)) s bit = cond (same t s && (k == bit)) (Some b) None
digit_in same (Some (Rule.is_there n t)) s bit = None
digit_in same (Some (Rule.matches w t)) s bit = None

-- the digit of the solvable's place by the first clause that encodes it; false where none does
abbrev pub digit_found : {N S : Type 0} → (S → S → Bool) → List (Kind N S) → S → ℕ → Bool
digit_found same [] s bit = false
digit_found same (x ∷ kinds) s bit = unwrap_or (digit_in same (rule_of x) s bit) (digit_found same kinds s bit)

-- no two clauses encode different digits of one place
abbrev pub HaveOneDigit : {N S : Type 0} → Encoder N S → Type 0
HaveOneDigit {N} {S} e = (s : S) (bit : ℕ) (b c : Bool) → rules_of e (Rule.has_digit s bit b) → rules_of e (Rule.has_digit s bit c) → b ≡ c

-- A solvable is registered under its own package alone, has one variable, and has one place.
pub has_one_digit : {N S : Type 0} (same : S → S → Bool) (p : Packages N S) (root : Rules) (e : Encoder N S) → IsEncoding same p root e → HaveOneDigit e
has_one_digit {N} {S} same p root e holds s bit b c (n, h) (k, j) =
    let (name, place, at, is) = digit_kind e.coding.kinds.items n s bit b h in
    let (other, away, there, is_digit) = digit_kind e.coding.kinds.items k s bit c j in
    let first = holds.tied.placed n name s place bit at in
    let second = holds.tied.placed k other s away bit there in
    let one : other ≡ name = holds.named other s (placed_registered e.registry e.coding other away s holds.tied second) ∙ sym (holds.named name s (placed_registered e.registry e.coding name place s holds.tied first)) in
    let both : place ≡ away = one_place e.registry e.coding name place away s holds.coding holds.tied first (subst (λ (m : N). IsPlaced e.registry e.coding m away s) one second) in
    is ∙ ap (λ q. digit q bit) both ∙ sym is_digit

module _ {N S : Type 0} (same : S → S → Bool) (exact : IsExact same) where
  -- where clauses encode a digit, some clause encodes the one that is found
  found_encoded : (kinds : List (Kind N S)) (n : ℕ) (s : S) (bit : ℕ) (b : Bool) → rule_at kinds n ≡ Some (Rule.has_digit s bit b) → rules_in kinds (Rule.has_digit s bit (digit_found same kinds s bit))
  found_encoded [] n s bit b h = absurd cc
  found_encoded (x ∷ kinds) zero s bit b h =
      let is_digit : digit_found same (x ∷ kinds) s bit ≡ b = ap (λ (o : Option (Rule N S)). unwrap_or (digit_in same o s bit) (digit_found same kinds s bit)) h
      ∙ ap (λ (z : Bool). unwrap_or (cond z (Some b) None) (digit_found same kinds s bit)) (and_from _ _ (exact.own s) (eq-eqb bit bit refl)) in
      (zero, h ∙ ap (λ (v : Bool). Some (Rule.has_digit s bit v)) (sym is_digit))
  found_encoded (x ∷ kinds) (suc n) s bit b h = go (rule_of x) refl (found_encoded kinds n s bit b h)
    where
      go : (o : Option (Rule N S)) → rule_of x ≡ o → rules_in kinds (Rule.has_digit s bit (digit_found same kinds s bit)) → rules_in (x ∷ kinds) (Rule.has_digit s bit (unwrap_or (digit_in same o s bit) (digit_found same kinds s bit)))
      go None e (m, i) = (suc m, i)
      go (Some (Rule.needs parent need case)) e (m, i) = (suc m, i)
      go (Some (Rule.gated t r)) e (m, i) = (suc m, i)
      go (Some (Rule.shared r)) e (m, i) = (suc m, i)
      go (Some (Rule.limits parent v t)) e (m, i) = (suc m, i)
      go (Some (Rule.limits_outside parent v)) e (m, i) = (suc m, i)
      go (Some (Rule.is_out v t)) e (m, i) = (suc m, i)
      go (Some (Rule.forbids w t)) e (m, i) = (suc m, i)
      go (Some (Rule.is_there name t)) e (m, i) = (suc m, i)
      go (Some (Rule.matches w t)) e (m, i) = (suc m, i)
      go (Some (Rule.has_digit t k v)) e (m, i) = elim (cases_Bool (same t s && (k == bit))) [
        | inl y ↦
            let (one, bits) = and_parts (same t s) (k == bit) y in
            let is : t ≡ s = exact.one t s one in
            let place : k ≡ bit = eqb-true k bit bits in
            let is_digit : v ≡ unwrap_or (cond (same t s && (k == bit)) (Some v) None) (digit_found same kinds s bit) = sym (ap (λ (z : Bool). unwrap_or (cond z (Some v) None) (digit_found same kinds s bit)) y) in
            (zero, e ∙ (λ i. Some (Rule.has_digit (is i) (place i) (is_digit i))))
        | inr n ↦
            let is_digit : digit_found same kinds s bit ≡ unwrap_or (cond (same t s && (k == bit)) (Some v) None) (digit_found same kinds s bit) = sym (ap (λ (z : Bool). unwrap_or (cond z (Some v) None) (digit_found same kinds s bit)) n) in
            (suc m, i ∙ ap (λ (z : Bool). Some (Rule.has_digit s bit z)) is_digit)
      ]

  -- the found digits agree with those of each clause
  pub digits_agree : (p : Packages N S) (root : Rules) (e : Encoder N S) → IsEncoding same p root e → AgreeWith (rules_of e) (digit_found same e.coding.kinds.items)
  digits_agree p root e holds s bit b (n, h) = has_one_digit same p root e holds s bit (digit_found same e.coding.kinds.items s bit) b (found_encoded e.coding.kinds.items n s bit b h) (n, h)
