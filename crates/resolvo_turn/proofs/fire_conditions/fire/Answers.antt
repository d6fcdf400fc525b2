use Rattle.std.proofs.Common.{◌<◌, ◌≤◌, length, arith}
use Rattle.resolvo_state.proofs.Positions.{prefix_long}
use Rattle.resolvo_turn.proofs.AddLemmas.{needs_then, fires_needs, fired_more}
use Rattle.resolvo_turn.proofs.CaseEncoded.{encoded_in_order}
use Rattle.resolvo_turn.proofs.fire_conditions.fire.Goals as goal

pub end_case-requires : goal.end_case-requires
end_case-requires g c =
    let long : length c.args.encoding.now.deferred.items ≤ length c.encode_deferred.new.encoding.deferred.items = prefix_long c.args.encoding.now.deferred.items c.encode_deferred.new.encoding.deferred.items c.in_ok-encode_deferred.ensures.kept.deferred in
    let within : c.args.index < length c.args.encoding.now.deferred.items = c.requires.within in
    omega arith

pub returns-clause-stays : goal.returns-clause-stays
returns-clause-stays g c = λ root e.
    let p = g.A.PackageSource.packages c.args.answers.now in
    encoded_in_order g.A.SolvableId.PartialEq.eq p (g.A.PackageSource.orders c.args.answers.now) root c.args.index c.args.encoding.now c.encode_deferred.new.encoding c.end_case.new.self c.requires.met c.in_ok-encode_deferred.ensures.kept.deferred
    (c.in_ok-encode_deferred.ensures.encoded root e c.requires.met) c.in_ok-end_case.ensures.fired (c.in_ok-end_case.ensures.encoding p root)

pub returns-clause-kept : goal.returns-clause-kept
returns-clause-kept g c = needs_then c.args.encoding.now c.encode_deferred.new.encoding c.end_case.new.self c.in_ok-encode_deferred.ensures.kept (fires_needs c.args.index c.encode_deferred.new.encoding c.end_case.new.self c.in_ok-end_case.ensures.fired)

pub returns-clause-fires : goal.returns-clause-fires
returns-clause-fires g c = fired_more c.args.index c.args.encoding.now c.encode_deferred.new.encoding c.end_case.new.self c.in_ok-encode_deferred.ensures.fired c.requires.waits c.in_ok-end_case.ensures.fired
