use Rattle.std.proofs.Common.{◌≡◌, take}
use Rattle.resolvo_store.specs.Changes.{candidates_from}
use Rattle.resolvo_store.proofs.clause_store.candidates_of.Given as goal

-- the versions of the packages so far are the candidates
abbrev pub invariant-loop-name : goal.invariant-loop-name
invariant-loop-name g l = l.candidates.items ≡ candidates_from (take l.name-index l.groups)
