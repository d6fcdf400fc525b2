use Rattle.std.proofs.Common.{take}
use Rattle.resolvo_catalogue.specs.Known.{solvable_at}
use Rattle.resolvo_catalogue.proofs.RiseLemmas.{RisesTo}
use Rattle.resolvo_catalogue.proofs.provider.CatalogueProvider.rise.Given as goal

-- the numbers so far rise
abbrev pub invariant-loop-solvable : goal.invariant-loop-solvable
invariant-loop-solvable l = RisesTo 4294967295 (λ s. (solvable_at l.self.ids s).version) (take l.solvable-index l.solvables) l.least
