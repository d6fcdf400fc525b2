-- Tests that find the values of a list.
use Rattle.std.specs.Prelude.{◌≡◌, ◌≤◌, Bool, List, Option, None, Some, length}
use Rattle.std.specs.Global.{Box}
use Rattle.std.specs.HashSet.{HashSet, contains}
use Rattle.std.specs.List.{list_any}
use Rattle.resolvo_store_core.specs.declared.small_set.TheConstants.{FEW}

module _ {V : Type 0} (eq : V → V → Bool) where
  -- the test finds the values of the list
  abbrev pub Finds : (V → Bool) → List V → Type 0
  Finds found xs = (x : V) → found x ≡ list_any (eq x) xs

  -- the table of the list's values; none, if they are a few
  abbrev pub IsTable : {S : Type 0} → Option (Box (HashSet V S)) → List V → Type 0
  IsTable None xs = length xs ≤ FEW
  IsTable (Some t) xs = Finds (contains eq t.value) xs
