use Rattle.resolvo_sat.proofs.SetLemmas.{covered_proceeds, within_proceeds, done_proceeds, run_proceeds}
use Rattle.resolvo_sat.proofs.state.SatState.set_and_propagate.Goals as goal

pub propagate_from-requires : goal.propagate_from-requires
propagate_from-requires c = record {
  ready = c.in_ok-set_at_once.ensures.proceeds.ready;
  covered = covered_proceeds c.args.self.now c.set_at_once.new.self c.args.watching.now c.set_at_once.new.watching c.requires.covered c.in_ok-set_at_once.ensures.proceeds;
  within = within_proceeds c.args.self.now c.set_at_once.new.self c.args.watching.now c.set_at_once.new.watching c.requires.within c.in_ok-set_at_once.ensures.proceeds;
  done = done_proceeds c.args.self.now c.set_at_once.new.self c.args.watching.now c.set_at_once.new.watching c.args.done c.requires.done c.in_ok-set_at_once.ensures.proceeds;
}

pub returns-clause-run : goal.returns-clause-run
returns-clause-run c =
    run_proceeds c.args.self.now c.set_at_once.new.self c.propagate_from.new.self c.args.watching.now c.set_at_once.new.watching c.propagate_from.new.watching c.in_ok-falsified.falsified c.in_ok-set_at_once.ensures.proceeds
    c.in_ok-falsified.ensures.run
