-- The weight of a trail grows with each step of the search, and it is bounded.
use Rattle.std.proofs.Common.{◌≡◌, ℕ, suc, ◌+◌, ◌-◌, ◌*◌, ◌^◌, ◌<◌, ◌≤◌, inl, inr, List, [], ◌∷◌, length, ap, arith}
use Rattle.std.proofs.Math.Nat.{one-le-pow, pow-le-pow_right, pow-suc}
use Rattle.resolvo_store_core.specs.Signed.{Signed}
use Rattle.resolvo_store_core.specs.declared.decision.Entry.{Entry}
use Rattle.resolvo_sat.specs.Entries.{top_level, IsTrail, IsTrueAt, IsUndone, weight}
use Rattle.resolvo_sat.proofs.Trails.{length_le, level_le_length, level_le_last}

-- each entry weighs at most the largest power
pub weight_le : (count : ℕ) (h : List Entry) → weight count h ≤ length h * (count + 1) ^ (count + 1)
weight_le count [] = omega arith
weight_le count (d ∷ older) =
    let one : (count + 1) ^ (count + 1 - d.level) ≤ (count + 1) ^ (count + 1) = pow-le-pow_right (omega arith) (omega arith) in
    let rest : weight count older ≤ length older * (count + 1) ^ (count + 1) = weight_le count older in
    omega arith

mul_le : (a b x : ℕ) → a ≤ b → a * x ≤ b * x
mul_le a b x h = grind arith

-- the largest weight
pub weight_bounded : (count : ℕ) (cs : List (List Signed)) (h : List Entry) → IsTrail count cs h → weight count h ≤ count * (count + 1) ^ (count + 1)
weight_bounded count cs h t =
    let a : weight count h ≤ length h * (count + 1) ^ (count + 1) = weight_le count h in
    let b : length h * (count + 1) ^ (count + 1) ≤ count * (count + 1) ^ (count + 1) = mul_le (length h) count ((count + 1) ^ (count + 1)) (length_le count cs h t) in
    omega arith

-- one entry more, in plain numbers
taken_more : (n w v p x : ℕ) → v ≤ w + n * x → p ≤ x → p + v ≤ w + suc n * x
taken_more n w v p x h le = omega arith

power_falls : (count j k : ℕ) → j < k → (count + 1) ^ (count + 1 - k) ≤ (count + 1) ^ (count + 1 - suc j)
power_falls count j k h = pow-le-pow_right (omega arith) (omega arith)

-- the undone entries above the level weigh little
pub weight_undone : (count j : ℕ) (old new : List Entry) → IsUndone j old new → (n : ℕ) × (length old ≡ n + length new) × (weight count old ≤ weight count new + n * (count + 1) ^ (count + 1 - suc j))
weight_undone count j [] new u =
    let e : length new ≡ length {A = Entry} [] = ap length u in
    (0, omega arith, omega arith)
weight_undone count j (d ∷ older) new (inl u) =
    let e : length new ≡ length (d ∷ older) = ap length u in
    let w : weight count new ≡ weight count (d ∷ older) = ap (weight count) u in
    (0, omega arith, omega arith)
weight_undone count j (d ∷ older) new (inr u) =
    let (n, same, less) = weight_undone count j older new u.1 in
    (suc n, omega arith, taken_more n (weight count new) (weight count older) ((count + 1) ^ (count + 1 - d.level)) ((count + 1) ^ (count + 1 - suc j)) less (power_falls count j d.level u.0))

-- n entries of the weight x weigh less than one of the weight of a level below
outweighs : (count n x : ℕ) → n ≤ count → 1 ≤ x → n * x < x * (count + 1)
outweighs count n x h one = let a : n * x ≤ count * x = mul_le n count x h in omega arith

power_rises : (count j low : ℕ) → suc j ≤ count + 1 → low ≤ j → (count + 1) ^ suc (count + 1 - suc j) ≤ (count + 1) ^ (count + 1 - low)
power_rises count j low h le = pow-le-pow_right (omega arith) (omega arith)

-- A backjump: the entries above the level are undone, and one is added at the remaining level.
pub weight_jump :
    (count j : ℕ) (cs : List (List Signed)) (old new : List Entry) (l : Signed) (k : ℕ)
    → IsTrail count cs old → IsUndone j old new → top_level new ≤ j → IsTrueAt old l k → j < k
    → weight count old < (count + 1) ^ (count + 1 - top_level new) + weight count new
weight_jump count j cs old new l k t u low s above =
    let (n, same, less) = weight_undone count j old new u in
    let few : length old ≤ count = length_le count cs old t in
    let top : top_level old ≤ length old = level_le_length count cs old t in
    let high : k ≤ top_level old = level_le_last count cs old l k t s in
    let small : n * (count + 1) ^ (count + 1 - suc j) < (count + 1) ^ (count + 1 - suc j) * (count + 1) = outweighs count n ((count + 1) ^ (count + 1 - suc j)) (omega arith) (one-le-pow (count + 1 - suc j) (count + 1) (omega arith)) in
    let same_power : (count + 1) ^ suc (count + 1 - suc j) ≡ (count + 1) ^ (count + 1 - suc j) * (count + 1) = pow-suc (count + 1) (count + 1 - suc j) in
    let large : (count + 1) ^ suc (count + 1 - suc j) ≤ (count + 1) ^ (count + 1 - top_level new) = power_rises count j (top_level new) (omega arith) low in
    omega arith
