use Rattle.std.proofs.Common.{take}
use Rattle.resolvo_pool.specs.Hinted.{among_own, Grows, HasEach}
use Rattle.resolvo_pool.proofs.hinted.put_own.Given as goal

-- the added solvables are those of the package, among the ones so far
abbrev pub invariant-loop-solvable : goal.invariant-loop-solvable
invariant-loop-solvable g l =
    Grows (among_own g.D.NameId.PartialEq.eq g.D.SolvableId.PartialEq.eq (g.D.Interner.name_of_solvable l.provider) l.name l.solvables) (g.D.SolvableId.Set.IdSet.has l.initial.set) (g.D.SolvableId.Set.IdSet.has l.set)
    × HasEach (among_own g.D.NameId.PartialEq.eq g.D.SolvableId.PartialEq.eq (g.D.Interner.name_of_solvable l.provider) l.name (take l.solvable-index l.solvables)) (g.D.SolvableId.Set.IdSet.has l.set)
