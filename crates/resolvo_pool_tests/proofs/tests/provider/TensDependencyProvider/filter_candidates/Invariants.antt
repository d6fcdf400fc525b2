use Rattle.std.proofs.Common.{◌≡◌, ◌++◌, drop}
use Rattle.std.specs.Prelude.{nat_le}
use Rattle.resolvo_pool_core.specs.Provider.{kept}
use Rattle.resolvo_pool_tests.specs.Tens.{Place}
use Rattle.resolvo_pool_tests.proofs.tests.provider.TensDependencyProvider.filter_candidates.Given as goal

-- the found candidates, with those kept of the rest, are those kept of all
abbrev pub invariant-loop-candidate : goal.invariant-loop-candidate
invariant-loop-candidate l =
    let holds = λ (s : Place). nat_le l.version_set.0 s.raw in
    l.found.items ++ kept holds l.inverse (drop l.candidate-index l.candidates) ≡ kept holds l.inverse l.candidates
