use Rattle.std.proofs.Common.{◌≡◌, ◌++◌, take}
use Rattle.resolvo_store.specs.Changes.{versions_of}
use Rattle.resolvo_store.proofs.clause_store.push_versions.Given as goal

-- the versions so far follow the old candidates
abbrev pub invariant-loop-version : goal.invariant-loop-version
invariant-loop-version g l = l.candidates.items ≡ l.initial.candidates.items ++ versions_of l.name (take l.version-index l.versions)
