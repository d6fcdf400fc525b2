-- The values of the variables, as a map keeps them.
use Rattle.std.specs.Prelude.{ℕ, Bool, List, Option}
use Rattle.std.specs.Option.{option_map}
use Rattle.resolvo_pool_core.specs.Slots.{at}
use Rattle.resolvo_store_core.specs.declared.decision_map.Assignment.{Assignment}

-- the value of the variable of this index, if it has one
abbrev pub value_at : List (Option Assignment) → ℕ → Option Bool
value_at m v = option_map (λ a. a.value) (at m v)
