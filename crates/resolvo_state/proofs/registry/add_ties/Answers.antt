use Rattle.std.proofs.Common.{◌≡◌, ◌<◌, ◌≤◌, length, ap, arith}
use Rattle.resolvo_state.specs.declared.atom.ProofAtom.TheVariants.{Solvable}
use Rattle.resolvo_state.proofs.Growth.{grows_then, represents_grow, digits_grow}
use Rattle.resolvo_state.proofs.NewTies.{earlier_are, last_is, each_added}
use Rattle.resolvo_state.proofs.registry.add_ties.Goals as goal

pub overflow_cast-place : goal.overflow_cast-place
overflow_cast-place g c =
    let same : length c.variables-variables.result.now ≡ length c.args.tracker.now.variables = ap length c.variables-variables.ensures in
    let few : length c.args.tracker.now.variables < 4294967296 = c.requires.few in
    omega arith

pub tie_one-requires : goal.tie_one-requires
tie_one-requires g c = record {
  coding = c.requires.coding;
  solvable = c.requires.solvable;
  digits = rw (c.helpers-helpers.ensures.helpers) c.requires.digits;
  few = (let same : length c.helpers-helpers.result.now ≡ length c.args.tracker.now.helpers = ap length c.helpers-helpers.ensures.helpers in let few : length c.args.tracker.now.helpers ≤ 32 = c.requires.few_digits in omega arith);
}

pub tie_earlier-requires : goal.tie_earlier-requires
tie_earlier-requires g c = record {
  coding = c.requires.coding;
  few = (let same : length c.variables-variables.result.now ≡ length c.args.tracker.now.variables = ap length c.variables-variables.ensures in let few : length c.args.tracker.now.variables < 4294967296 = c.requires.few in omega arith);
  ties = rw (c.variables-variables.ensures) (earlier_are c.args.name c.args.tracker.now.variables c.args.tracker.now.helpers c.args.variable c.args.digit c.in-Some.digit c.in-Some.is c.args.coding.now c.requires.ties);
}

pub tie_one-requires-in-Some : goal.tie_one-requires-in-Some
tie_one-requires-in-Some g c =
    let grows = c.in_ok-tie_earlier-in-Some.ensures.encoded.grows in
    record {
      coding = c.in_ok-tie_earlier-in-Some.ensures.encoded.coding;
      solvable = (c.requires.solvable.0, represents_grow c.args.coding.now c.tie_earlier.new.coding c.args.variable (Solvable c.requires.solvable.0) grows c.requires.solvable.1);
      digits = rw (c.helpers-helpers.ensures.helpers) (digits_grow c.args.name c.args.coding.now c.tie_earlier.new.coding c.args.tracker.now.helpers grows c.requires.digits);
      few = (let same : length c.helpers-helpers.result.now ≡ length c.args.tracker.now.helpers = ap length c.helpers-helpers.ensures.helpers in let few : length c.args.tracker.now.helpers ≤ 32 = c.requires.few_digits in omega arith);
    }

pub add_tie-requires : goal.add_tie-requires
add_tie-requires g c =
    let first = c.in_ok-tie_earlier-in-Some.ensures.encoded.grows in
    let next = c.in_ok-tie_one-in-Some.ensures.encoded.grows in
    record {
      coding = c.in_ok-tie_one-in-Some.ensures.encoded.coding;
      tie = rw (c.variables-variables.ensures) (last_is c.args.name c.args.tracker.now.variables c.args.tracker.now.helpers c.args.variable c.args.digit c.in-Some.digit c.in-Some.is c.args.coding.now c.tie_one-in-Some.new.coding
          (grows_then c.args.coding.now c.tie_earlier.new.coding c.tie_one-in-Some.new.coding first next) c.requires.ties);
    }

pub returns-in_ok-add_tie-in-Some-clause-encoded : goal.returns-in_ok-add_tie-in-Some-clause-encoded
returns-in_ok-add_tie-in-Some-clause-encoded g c =
    each_added c.args.name c.args.tracker.now.variables c.args.tracker.now.helpers c.args.variable c.args.digit c.in-Some.digit c.in-Some.is c.args.coding.now c.tie_earlier.new.coding c.tie_one-in-Some.new.coding c.add_tie.new.coding
    (rw (← c.variables-variables.ensures) c.in_ok-tie_earlier-in-Some.ensures.encoded)
    (rw (← c.variables-variables.ensures, ← c.helpers-helpers.ensures.helpers) c.in_ok-tie_one-in-Some.ensures.encoded)
    (rw (← c.variables-variables.ensures) c.in_ok-add_tie-in-Some.ensures.encoded)
