use Rattle.std.proofs.Common.{◌≡◌, ◌∙◌, List, length, sym, ap, arith}
use Rattle.resolvo_sat.specs.Clauses.{SatClause, causes_at}
use Rattle.resolvo_sat.specs.Shared.{shared_of, clauses_with}
use Rattle.resolvo_sat.proofs.SharedLemmas.{shared_count, causes_shared}
use Rattle.resolvo_sat.proofs.clause_database.ClauseDatabase.causes.Goals as goal

pub causes-requires : goal.causes-requires
causes-requires c =
    let inside = c.self.inside in
    let view : clauses_with inside.own inside.sharing.items inside.sources.items ≡ c.args.self.now = c.self.view_is in
    omega (arith, c.requires, shared_count (shared_of inside.own inside.sharing.items inside.sources.items) 0 inside.own, ap length view)

pub returns : goal.returns
returns c =
    let inside = c.self.inside in
    let view : clauses_with inside.own inside.sharing.items inside.sources.items ≡ c.args.self.now = c.self.view_is in
    c.causes.ensures ∙ (sym (causes_shared (shared_of inside.own inside.sharing.items inside.sources.items) 0 inside.own c.args.number) ∙ ap (λ (cs : List SatClause). causes_at cs c.args.number) view)
