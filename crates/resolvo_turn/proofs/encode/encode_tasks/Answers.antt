use Rattle.std.proofs.Common.{rules}
use Rattle.resolvo_encoder.proofs.Bases.{same_turns, turns_then}
use Rattle.resolvo_turn.proofs.AddLemmas.{extends_all, extends_in_order}
use Rattle.resolvo_turn.specs.LacksIds.{LacksIds}
use Rattle.resolvo_turn.proofs.encode.encode_tasks.Goals as goal

pub returns-clause-encoded : goal.returns-clause-encoded
returns-clause-encoded g c = λ root is e.
    let kept = c.in_ok-add_queued.ensures.kept in
    extends_in_order g.A.SolvableId.PartialEq.eq (g.A.PackageSource.packages c.args.answers.now) (g.A.PackageSource.orders c.args.answers.now) root c.encode_waiting.new.encoding c.add_queued.new.self kept.grows c.in_ok-add_queued.ensures.lists
    (c.in_ok-add_queued.ensures.stays (g.A.PackageSource.packages c.args.answers.now) root (g.met.A.PackageSource.lawful c.args.answers.now)) (c.in_ok-encode_waiting.ensures.encoded root is e)

pub returns-clause-all : goal.returns-clause-all
returns-clause-all g c = extends_all c.args.encoding.now c.encode_waiting.new.encoding c.add_queued.new.self c.in_ok-encode_waiting.ensures.all c.in_ok-add_queued.ensures.kept

pub returns-clause-turn : goal.returns-clause-turn
returns-clause-turn g c =
    let kept = c.in_ok-add_queued.ensures.kept in
    turns_then c.args.encoding.now c.encode_waiting.new.encoding c.add_queued.new.self c.in_ok-encode_waiting.ensures.turn (same_turns c.encode_waiting.new.encoding c.add_queued.new.self kept.grows kept.trail kept.softs)

pub returns-in_err-add_queued-clause-ids : goal.returns-in_err-add_queued-clause-ids
returns-in_err-add_queued-clause-ids g c = search (rules, LacksIds.coding)
