use Rattle.std.proofs.Common.{◌≡◌, length, ap, arith}
use Rattle.resolvo_sat.specs.Shared.{shared_of, clauses_with}
use Rattle.resolvo_sat.proofs.SharedLemmas.{shared_count}
use Rattle.resolvo_sat.proofs.clause_database.ClauseDatabase.len.Goals as goal

pub returns : goal.returns
returns c =
    let inside = c.self.inside in
    let view : clauses_with inside.own inside.sharing.items inside.sources.items ≡ c.args.self.now = c.self.view_is in
    omega (arith, c.len.ensures.count, shared_count (shared_of inside.own inside.sharing.items inside.sources.items) 0 inside.own, ap length view)
