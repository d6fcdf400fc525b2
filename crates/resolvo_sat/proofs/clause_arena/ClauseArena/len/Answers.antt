use Rattle.std.proofs.Common.{◌≡◌, ℕ, List, length, ap, arith}
use Rattle.resolvo_pool_core.specs.declared.id.ClauseId.{ClauseId}
use Rattle.resolvo_sat.specs.Clauses.{causes_of, clauses_in}
use Rattle.resolvo_sat.proofs.ArenaLemmas.{clauses_count}
use Rattle.resolvo_sat.proofs.clause_arena.ClauseArena.len.Goals as goal

pub returns-clause-count : goal.returns-clause-count
returns-clause-count c =
    let inside = c.self.inside in
    let f : ℕ → List ClauseId = causes_of inside.causes.items 0 inside.caused.items inside.cause_ends.items in
    let view : clauses_in inside.literals.items inside.ends.items inside.causes.items inside.caused.items inside.cause_ends.items ≡ c.args.self.now = c.self.view_is in
    omega (arith, c.len.ensures, inside.ends.ok.0, clauses_count f inside.literals.items 0 0 inside.ends.items, ap length view)
