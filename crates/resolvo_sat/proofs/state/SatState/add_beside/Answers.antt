use Rattle.resolvo_sat.proofs.PairLemmas.{pair_added, free_after}
use Rattle.resolvo_sat.proofs.state.SatState.add_beside.Goals as goal

pub begin_pair-requires : goal.begin_pair-requires
begin_pair-requires c = record {
  state = c.in_ok-clause.ensures.added.state;
  differ = c.requires.differ;
  free = free_after c.args.is_free c.args.pair.first c.args.self.now c.push_pair.new.self c.in_ok-clause.ensures.added.tracker c.requires.free;
}

pub returns-clause-added : goal.returns-clause-added
returns-clause-added c =
    pair_added c.in_ok-clause.clause c.args.pair c.args.self.now c.push_pair.new.self c.args.watching.now c.begin_pair.new.watching c.requires.ready c.requires.covered c.requires.differ c.in_ok-clause.ensures.added
    c.in_ok-begin_pair.ensures.begun
