use Rattle.std.proofs.Common.{◌<◌, ◌∙◌, sym, arith, length}
use Rattle.resolvo_state.specs.declared.atom.ProofAtom.TheVariants.{Solvable}
use Rattle.resolvo_state.proofs.Growth.{represents_grow, digits_grow}
use Rattle.resolvo_state.proofs.TrackLemmas.{few_tracked, new_are_ties, tracks_same, track_is}
use Rattle.resolvo_state.proofs.registry.track.Goals as goal

pub returns-then-contains-clause-tracked : goal.returns-then-contains-clause-tracked
returns-then-contains-clause-tracked g c = tracks_same c.args.name c.args.variable c.args.tracker.now c.args.coding.now c.requires.coding c.requires.tied (sym c.contains.ensures ∙ c.if-contains.true)

pub add_ties-requires : goal.add_ties-requires
add_ties-requires g c = record {
  coding = c.in_ok-digit.ensures.digit.coding;
  few = (let few : length c.args.tracker.now.variables < 2147483648 = few_tracked c.args.name c.args.tracker.now c.args.coding.now c.requires.coding c.requires.tied in omega arith);
  solvable = (c.requires.solvable.0, represents_grow c.args.coding.now c.next_digit.new.coding c.args.variable (Solvable c.requires.solvable.0) c.in_ok-digit.ensures.digit.grows c.requires.solvable.1);
  digits = digits_grow c.args.name c.args.coding.now c.next_digit.new.coding c.args.tracker.now.helpers c.in_ok-digit.ensures.digit.grows c.requires.tied.digits;
  few_digits = (let few : length c.args.tracker.now.helpers < 32 = c.requires.tied.few in omega arith);
  ties =
      new_are_ties c.args.name c.args.variable c.requires.solvable.0 c.args.tracker.now c.in_ok-digit.digit c.args.coding.now c.next_digit.new.coding c.requires.tied c.requires.solvable.1 c.in_ok-digit.ensures.digit c.requires.coding
      c.in_ok-digit.ensures.needed (sym c.contains.ensures ∙ c.if-contains.false);
}

pub returns-clause-tracked : goal.returns-clause-tracked
returns-clause-tracked g c =
    track_is c.args.name c.args.variable c.requires.solvable.0 c.args.tracker.now c.in_ok-digit.digit c.args.coding.now c.next_digit.new.coding c.requires.tied c.requires.solvable.1 c.in_ok-digit.ensures.digit c.track.new.self c.add_ties.new.coding c.requires.coding
    c.in_ok-digit.ensures.needed (sym c.contains.ensures ∙ c.if-contains.false) c.in_ok-track.ensures.tracker c.in_ok-add_ties.ensures.encoded
