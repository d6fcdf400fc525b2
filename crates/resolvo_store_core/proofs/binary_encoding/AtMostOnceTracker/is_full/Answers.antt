use Rattle.std.proofs.Common.{◌≡◌, ℕ, ◌/◌, ◌^◌, ◌<◌, ◌≤◌, ◌==◌, length, inl, inr, arith, ap, ◌∙◌}
use Rattle.std.proofs.lemmas.Bool.{cases_lt}
use Rattle.std.proofs.lemmas.Bool.Decides.{nat_tests}
use Rattle.std.proofs.lemmas.Nat.{div_below, le-div, pow_pos}
use Rattle.resolvo_store_core.specs.AtMostOne.{Tracking}
use Rattle.resolvo_store_core.proofs.binary_encoding.AtMostOnceTracker.is_full.Goals as goal

-- so many places are used, of p
full : (n p : ℕ) → 0 < p → n ≤ p → (n / p == 1) ≡ (n == p)
full n p some low = elim (cases_lt n p) [
  | inl less ↦ (
      let none : n / p < 1 = div_below n p 1 some (omega arith) in
      grind (arith, nat_tests)
      )
  | inr more ↦ (
      let few : n / p < 2 = div_below n p 2 some (omega arith) in
      let one : 1 ≤ n / p = le-div 1 n p some (omega arith) in
      grind (arith, nat_tests)
      )
]

pub overflow_shr-result : goal.overflow_shr-result
overflow_shr-result g c =
    let few : length c.self.inside.variables ≤ 2 ^ 64 = omega arith in
    let least : length c.self.inside.helpers.items ≤ 64 = c.self.invariant.1 64 few in
    omega arith

pub returns : goal.returns
returns g c =
    let n = length c.self.inside.variables in
    let p = 2 ^ length c.self.inside.helpers.items in
    let digits : c.len.result ≡ length c.self.inside.helpers.items = omega arith in
    let same : (n / p == 1) ≡ (n == p) = full n p (pow_pos (length c.self.inside.helpers.items)) c.self.invariant.0 in
    ap (λ k. k / 2 ^ c.len.result == 1) c.len-count.ensures ∙ ap (λ h. n / 2 ^ h == 1) digits ∙ same ∙ ap (λ (t : Tracking g.row.V.Denot). length t.variables == 2 ^ length t.helpers) c.self.view_is
