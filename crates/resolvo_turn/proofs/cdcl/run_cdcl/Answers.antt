use Rattle.resolvo_encoder.proofs.Bases.{first_same, first_then}
use Rattle.resolvo_encoder.proofs.StayLemmas.{goes_none, goes_then}
use Rattle.resolvo_turn.proofs.AddLemmas.{goes_in_order}
use Rattle.std.proofs.Common.{rules}
use Rattle.resolvo_turn.specs.LacksIds.{LacksIds}
use Rattle.resolvo_turn.proofs.cdcl.run_cdcl.Goals as goal

pub loop-encoding-init : goal.loop-encoding-init
loop-encoding-init g c = record { stays = λ root e. e; goes_on = goes_none c.args.encoding.now c.requires.built.coding; first = first_same c.args.encoding.now; built = c.requires.built }

pub step-requires : goal.step-requires
step-requires g c = c.loop-encoding.invariant.built

pub returns-in-Done-clause-stays : goal.returns-in-Done-clause-stays
returns-in-Done-clause-stays g c = λ root e. goes_in_order g.A.SolvableId.PartialEq.eq (g.A.PackageSource.packages c.args.answers.now) (g.A.PackageSource.orders c.args.answers.now) root c.loop-encoding.encoding c.step.new.self c.in_ok-step.ensures.goes_on (c.in_ok-step.ensures.stays (g.A.PackageSource.packages c.args.answers.now) root (g.met.A.PackageSource.lawful c.args.answers.now)) (c.loop-encoding.invariant.stays root e)

pub returns-in-Done-clause-goes_on : goal.returns-in-Done-clause-goes_on
returns-in-Done-clause-goes_on g c = goes_then c.args.encoding.now c.loop-encoding.encoding c.step.new.self c.loop-encoding.invariant.goes_on c.in_ok-step.ensures.goes_on

pub returns-in-Refused-clause-stays : goal.returns-in-Refused-clause-stays
returns-in-Refused-clause-stays g c = λ root e. goes_in_order g.A.SolvableId.PartialEq.eq (g.A.PackageSource.packages c.args.answers.now) (g.A.PackageSource.orders c.args.answers.now) root c.loop-encoding.encoding c.step.new.self c.in_ok-step.ensures.goes_on (c.in_ok-step.ensures.stays (g.A.PackageSource.packages c.args.answers.now) root (g.met.A.PackageSource.lawful c.args.answers.now)) (c.loop-encoding.invariant.stays root e)

pub returns-in-Refused-clause-goes_on : goal.returns-in-Refused-clause-goes_on
returns-in-Refused-clause-goes_on g c = goes_then c.args.encoding.now c.loop-encoding.encoding c.step.new.self c.loop-encoding.invariant.goes_on c.in_ok-step.ensures.goes_on

pub loop-encoding-preserved-in-Chosen : goal.loop-encoding-preserved-in-Chosen
loop-encoding-preserved-in-Chosen g c = record {
  stays = λ root e. goes_in_order g.A.SolvableId.PartialEq.eq (g.A.PackageSource.packages c.args.answers.now) (g.A.PackageSource.orders c.args.answers.now) root c.loop-encoding.encoding c.step.new.self c.in_ok-step.ensures.goes_on (c.in_ok-step.ensures.stays (g.A.PackageSource.packages c.args.answers.now) root (g.met.A.PackageSource.lawful c.args.answers.now)) (c.loop-encoding.invariant.stays root e);
  goes_on = goes_then c.args.encoding.now c.loop-encoding.encoding c.step.new.self c.loop-encoding.invariant.goes_on c.in_ok-step.ensures.goes_on;
  first = first_then c.args.encoding.now c.loop-encoding.encoding c.step.new.self c.loop-encoding.invariant.goes_on.grows.base_level c.loop-encoding.invariant.first c.in_ok-step.ensures.first;
  built = c.in_ok-step.ensures.built;
}

pub loop-encoding-preserved : goal.loop-encoding-preserved
loop-encoding-preserved g c = record {
  stays = λ root e. goes_in_order g.A.SolvableId.PartialEq.eq (g.A.PackageSource.packages c.args.answers.now) (g.A.PackageSource.orders c.args.answers.now) root c.loop-encoding.encoding c.step.new.self c.in_ok-step.ensures.goes_on (c.in_ok-step.ensures.stays (g.A.PackageSource.packages c.args.answers.now) root (g.met.A.PackageSource.lawful c.args.answers.now)) (c.loop-encoding.invariant.stays root e);
  goes_on = goes_then c.args.encoding.now c.loop-encoding.encoding c.step.new.self c.loop-encoding.invariant.goes_on c.in_ok-step.ensures.goes_on;
  first = first_then c.args.encoding.now c.loop-encoding.encoding c.step.new.self c.loop-encoding.invariant.goes_on.grows.base_level c.loop-encoding.invariant.first c.in_ok-step.ensures.first;
  built = c.in_ok-step.ensures.built;
}

pub returns-in-Done-clause-first : goal.returns-in-Done-clause-first
returns-in-Done-clause-first g c = first_then c.args.encoding.now c.loop-encoding.encoding c.step.new.self c.loop-encoding.invariant.goes_on.grows.base_level c.loop-encoding.invariant.first c.in_ok-step.ensures.first

pub returns-in-Refused-clause-first : goal.returns-in-Refused-clause-first
returns-in-Refused-clause-first g c = first_then c.args.encoding.now c.loop-encoding.encoding c.step.new.self c.loop-encoding.invariant.goes_on.grows.base_level c.loop-encoding.invariant.first c.in_ok-step.ensures.first

pub returns-in_err-check-clause-ids : goal.returns-in_err-check-clause-ids
returns-in_err-check-clause-ids g c = search (rules, LacksIds.packages)

pub returns-in_err-step-clause-ids : goal.returns-in_err-step-clause-ids
returns-in_err-step-clause-ids g c = search (rules, LacksIds.coding)
