-- The remaining literals of a walk over a clause.
use Rattle.std.specs.Prelude.{◌≡◌, List, [], ◌∷◌, ◌++◌, map, Option, Some, None}
use Rattle.std.specs.Option.{option_to_list}
use Rattle.std.specs.Borrow.{Bor}
use Rattle.resolvo_store_core.specs.Signed.{Signed}
use Rattle.resolvo_store_core.specs.declared.lists.Candidate.{Candidate}
use Rattle.resolvo_store_core.specs.declared.literals.Literals.{Literals}

-- the literals of a list, if there is one
abbrev pub listed : Option (Bor (List Signed)) → List Signed
listed None = []
listed (Some b) = b.now

-- the literals of the candidates, if there are any
abbrev pub named : {N : Type 0} → Option (Bor (List (Candidate N))) → List Signed
named None = []
named (Some b) = map (λ c. c.literal) b.now

-- the literals that are left
abbrev pub rest_of : {N : Type 0} → Literals N → List Signed
rest_of s = option_to_list s.first ++ (option_to_list s.second ++ (listed s.listed ++ named s.candidates))

-- the first of the list was taken, if there is one
abbrev pub TakesFirst : List Signed → List Signed → Option Signed → Type 0
TakesFirst old new None = (old ≡ []) × (new ≡ [])
TakesFirst old new (Some l) = old ≡ l ∷ new
