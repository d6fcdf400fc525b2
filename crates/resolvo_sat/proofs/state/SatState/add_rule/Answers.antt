use Rattle.std.proofs.Common.{sym, subst, List, IfOk, []}
use Rattle.resolvo_pool_core.specs.declared.id.ClauseId.{ClauseId}
use Rattle.resolvo_store_core.specs.Signed.{Signed}
use Rattle.resolvo_sat.specs.Clauses.{sat_clause}
use Rattle.resolvo_sat.specs.State.{count_of}
use Rattle.resolvo_sat.specs.Steps.{AreInRange}
use Rattle.resolvo_sat.specs.AddClause.{AddsClause}
use Rattle.resolvo_sat.proofs.state.SatState.add_rule.Goals as goal

pub add_pair-requires : goal.add_pair-requires
add_pair-requires c = record {
  ready = c.requires.ready;
  covered = c.requires.covered;
  differ = c.in-Some.ensures.differ;
  in_range = subst (λ (ls : List Signed). AreInRange (count_of c.args.self.now) ls) c.in-Some.ensures.is c.requires.in_range;
}

pub returns-in-Some-clause-added : goal.returns-in-Some-clause-added
returns-in-Some-clause-added c =
    subst (λ (ls : List Signed). IfOk c.add_pair.result (λ (id : ClauseId). AddsClause (sat_clause ls []) id c.args.self.now c.args.watching.now c.add_pair.new.self c.add_pair.new.watching)) (sym c.in-Some.ensures.is)
    c.add_pair.ensures.added
