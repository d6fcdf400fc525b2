use Rattle.std.proofs.Common.{◌∙◌}
use Rattle.resolvo_encoder.specs.SoftRequirement.{turn_of}
use Rattle.resolvo_encoder.proofs.BuildLemmas.{built_parents}
use Rattle.resolvo_turn.proofs.AddLemmas.{all_then, goes_parents, needs_parents, parents_needs}
use Rattle.resolvo_turn.proofs.EndLemmas.{still_rooted}
use Rattle.resolvo.proofs.Soft.{opened_turn, opened_adds, opened_in_turn, opened_taken}
use Rattle.resolvo.proofs.soft_requirements.run_open.Goals as goal

pub run_turn-requires-clause-built : goal.run_turn-requires-clause-built
run_turn-requires-clause-built g c = built_parents c.open_turn.new.encoding c.add_parent.new.self c.in_ok-open_turn.ensures.built c.in_ok-add_parent.ensures.added

pub run_turn-requires-clause-rooted : goal.run_turn-requires-clause-rooted
run_turn-requires-clause-rooted g c =
    still_rooted (turn_of c.args.encoding.now) c.add_parent.new.self c.requires.rooted
    (all_then (turn_of c.args.encoding.now) c.open_turn.new.encoding c.add_parent.new.self (goes_parents (turn_of c.args.encoding.now) c.open_turn.new.encoding c.in_ok-open_turn.ensures.goes_on)
    (needs_parents c.open_turn.new.encoding c.add_parent.new.self (parents_needs c.open_turn.new.encoding c.add_parent.new.self c.in_ok-add_parent.ensures.added)))

pub run_turn-requires-clause-turn : goal.run_turn-requires-clause-turn
run_turn-requires-clause-turn g c = (opened_turn c.args.encoding.now c.open_turn.new.encoding c.add_parent.new.self c.in_ok-open_turn.ensures.goes_on c.in_ok-add_parent.ensures.added c.args.variable c.in_ok-open_turn.ensures.turn.0 c.in_ok-open_turn.ensures.turn.1).0

pub run_turn-requires-clause-taken : goal.run_turn-requires-clause-taken
run_turn-requires-clause-taken g c =
    let (o, base) = opened_turn c.args.encoding.now c.open_turn.new.encoding c.add_parent.new.self c.in_ok-open_turn.ensures.goes_on c.in_ok-add_parent.ensures.added c.args.variable c.in_ok-open_turn.ensures.turn.0 c.in_ok-open_turn.ensures.turn.1 in
    opened_taken c.args.encoding.now c.open_turn.new.encoding c.add_parent.new.self c.in_ok-open_turn.ensures.goes_on c.in_ok-add_parent.ensures.added c.requires.taken base

pub returns-clause-stays : goal.returns-clause-stays
returns-clause-stays g c = λ root is e.
    let p = g.A.PackageSource.packages c.args.answers.now in
    c.in_ok-refusal.ensures.stays root is
    (opened_in_turn c.args.encoding.now c.open_turn.new.encoding c.add_parent.new.self c.in_ok-open_turn.ensures.goes_on c.in_ok-add_parent.ensures.added g.A.SolvableId.PartialEq.eq p (g.A.PackageSource.orders c.args.answers.now) root
    (c.in_ok-open_turn.ensures.stays p root (g.met.A.PackageSource.lawful c.args.answers.now) e.encoding) e)

pub returns-clause-adds : goal.returns-clause-adds
returns-clause-adds g c = opened_adds c.args.encoding.now c.open_turn.new.encoding c.add_parent.new.self c.in_ok-open_turn.ensures.goes_on c.in_ok-add_parent.ensures.added c.run_turn.new.encoding c.in_ok-refusal.ensures.adds

pub returns-clause-turn : goal.returns-clause-turn
returns-clause-turn g c =
    let (o, base) = opened_turn c.args.encoding.now c.open_turn.new.encoding c.add_parent.new.self c.in_ok-open_turn.ensures.goes_on c.in_ok-add_parent.ensures.added c.args.variable c.in_ok-open_turn.ensures.turn.0 c.in_ok-open_turn.ensures.turn.1 in
    let (o', base') = c.in_ok-refusal.ensures.turn o in
    (o', base' ∙ base)
