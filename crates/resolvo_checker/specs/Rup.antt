-- One literal more in a pass, and the steps that a pass may read.
use Rattle.std.specs.Prelude.{ℕ, Bool, ◌&&◌, nat_lt, nat_le, if◌then◌else◌}
use Rattle.resolvo_pool_core.specs.OnePass.Rest.{broken, last, more}
use Rattle.resolvo_pool_core.specs.OnePass.{Literal, Rest, same_literal}

-- one more literal that isn't false
abbrev pub with_literal : {A : Type 0} → (A → A → Bool) → Rest A → Literal A → Rest A
with_literal same broken l = last l
with_literal same (last m) l = if same_literal same m l then last m else more
with_literal same more l = more

-- it is the number of one of so many steps, from 1
abbrev pub is_earlier : ℕ → ℕ → Bool
is_earlier count n = nat_lt 0 n && nat_le n count
