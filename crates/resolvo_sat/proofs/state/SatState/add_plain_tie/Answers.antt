use Rattle.resolvo_sat.proofs.TieLemmas.{tie_ready, tie_added}
use Rattle.resolvo_sat.proofs.state.SatState.add_plain_tie.Goals as goal

pub begin_ready-requires : goal.begin_ready-requires
begin_ready-requires c = record {
  differ = c.requires.differ;
  ready = tie_ready c.args.self.now c.push_pair.new.self c.args.watching.now c.in_ok-clause.clause c.args.pair c.requires.ready c.requires.in_range c.requires.room c.in_ok-clause.ensures.added;
}

pub returns-clause-added : goal.returns-clause-added
returns-clause-added c =
    tie_added c.in_ok-clause.clause c.args.pair c.args.self.now c.push_pair.new.self c.args.watching.now c.begin_ready.new.self c.requires.ready c.requires.covered c.requires.differ c.requires.both c.in_ok-clause.ensures.added
    c.in_ok-begin_ready.ensures.begun
