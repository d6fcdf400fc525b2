-- A kind and an owner in one number.
use Rattle.std.proofs.Common.{◌≡◌, ℕ, ◌+◌, ◌*◌, ◌/◌, ◌%◌, ◌<◌, ap, ◌∙◌, arith}
use Rattle.resolvo_catalogue_core.specs.declared.rule.VersionNo.{VersionNo}
use Rattle.resolvo_catalogue_core.specs.Packed.{line_by, unpacked}

kind_below : (n k : ℕ) → k < 8 → (n * 8 + k) % 8 ≡ k
kind_below n k small = omega (arith, small)

owner_above : (n k : ℕ) → k < 8 → (n * 8 + k) / 8 ≡ n
owner_above n k small = omega (arith, small)

-- a line of an owner
pub owned_line : (owner : VersionNo) (kind number : ℕ) → kind < 8 → unpacked (record { word = owner.0 * 8 + kind; number = number }) ≡ line_by kind owner number
owned_line owner kind number small =
    ap (λ (k : ℕ). line_by k (record { 0 = (owner.0 * 8 + kind) / 8 }) number) (kind_below owner.0 kind small)
    ∙ ap (λ (n : ℕ). line_by kind (record { 0 = n }) number) (owner_above owner.0 kind small)
