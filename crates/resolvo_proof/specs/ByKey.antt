-- Lists by key.
use Rattle.std.specs.Prelude.{Bool, List}
use Rattle.std.specs.HashMap.{get}
use Rattle.resolvo_proof.specs.Offered.{items_or_none}
use Rattle.resolvo_proof.specs.declared.lists_by_key.ListsByKey.{ListsByKey}

-- the entries of a key, in the order in which they were added
abbrev pub listed : {K X : Type 0} → (K → K → Bool) → ListsByKey K X → K → List X
listed same l k = items_or_none (get same l.lists k)
