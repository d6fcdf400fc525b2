use Rattle.std.proofs.Common.{subst, ℕ, Result, Some, None}
use Rattle.std.specs.Prelude.{MatchResult}
use Rattle.resolvo_sat.specs.Clauses.{IsPlaceOf}
use Rattle.resolvo_sat.proofs.ArenaLemmas.{sought}
use Rattle.resolvo_sat.proofs.clause_arena.place_of.Goals as goal

pub returns-in-Ok : goal.returns-in-Ok
returns-in-Ok c =
    let found = sought c.requires.0 c.args.caused.now c.args.clause c.binary_search.result c.requires.1 c.binary_search.ensures.position in
    subst (λ (r : Result ℕ ℕ). MatchResult r (λ i. IsPlaceOf c.args.caused.now c.args.clause (Some i)) (λ i. IsPlaceOf c.args.caused.now c.args.clause None)) c.in-Ok.is found

pub returns-in-Err : goal.returns-in-Err
returns-in-Err c =
    let found = sought c.requires.0 c.args.caused.now c.args.clause c.binary_search.result c.requires.1 c.binary_search.ensures.position in
    subst (λ (r : Result ℕ ℕ). MatchResult r (λ i. IsPlaceOf c.args.caused.now c.args.clause (Some i)) (λ i. IsPlaceOf c.args.caused.now c.args.clause None)) c.in-Err.is found
