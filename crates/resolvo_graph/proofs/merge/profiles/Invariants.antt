use Rattle.std.proofs.Common.{take}
use Rattle.std.specs.List.{AllZip}
use Rattle.resolvo_graph.specs.Merge.{IsProfile, versions_from}
use Rattle.resolvo_graph.proofs.merge.profiles.Given as goal

-- the versions so far have their profiles
abbrev pub invariant-loop-index : goal.invariant-loop-index
invariant-loop-index g l = AllZip (IsProfile l.graph (g.I.Interner.name_of_solvable l.interner)) (versions_from 0 (take l.index l.node-items)) l.found.items
