use Rattle.std.proofs.Common.{sym}
use Rattle.resolvo_state.proofs.Origins.{represents_solvable}
use Rattle.resolvo_state.proofs.registry.tie_one.Goals as goal

pub add_digits-requires : goal.add_digits-requires
add_digits-requires g c = record {
  coding = c.requires.coding;
  solvable = represents_solvable c.args.coding.now.atoms.keys c.args.variable c.in-Some.solvable (sym c.in-Some.ensures);
  digits = c.requires.digits;
  few = c.requires.few;
}
