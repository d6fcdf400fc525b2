-- A provider's candidates under other ids.
use Rattle.std.specs.Prelude.{map}
use Rattle.std.specs.Option.{option_map}
use Rattle.resolvo_pool_core.specs.Provider.{Hint, Listing, none, all, some}

-- a hint under other ids
abbrev pub renamed_hint : {S T : Type 0} → (S → T) → Hint S → Hint T
renamed_hint id none = none
renamed_hint id all = all
renamed_hint id (some xs) = some (map id xs)

-- a package's candidates under other ids
abbrev pub renamed : {S T : Type 0} → (S → T) → Listing S → Listing T
renamed id l = record { candidates = map id l.candidates; favored = option_map id l.favored; locked = option_map id l.locked; hint = renamed_hint id l.hint; excluded = map (λ e. (id e.0, e.1)) l.excluded; many = l.many }
