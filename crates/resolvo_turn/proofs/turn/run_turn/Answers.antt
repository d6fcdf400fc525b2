use Rattle.std.proofs.Common.{refl, ◌∙◌, subst, rules}
use Rattle.resolvo_encoder.proofs.Bases.{turn_has, turn_same, turn_then}
use Rattle.resolvo_turn.specs.declared.turn.Round.{Round}
use Rattle.resolvo_turn.specs.Turn.{IsRound}
use Rattle.resolvo_turn.proofs.AddLemmas.{all_none, all_then}
use Rattle.resolvo_turn.proofs.EndLemmas.{fewer_left, still_rooted}
use Rattle.resolvo_turn.proofs.TakenLemmas.{taken_kept}
use Rattle.resolvo_turn.specs.TurnRules.{StaysInOrderOf, StopsInOrderOf}
use Rattle.resolvo_turn.proofs.turn.run_turn.Goals as goal

pub loop-refusal-init : goal.loop-refusal-init
loop-refusal-init g c = record { same = refl; stays = λ root is e. e; adds = all_none c.args.encoding.now; built = c.requires.built; rooted = c.requires.rooted; taken = c.requires.taken; turn = turn_same c.args.soft c.args.encoding.now }

pub run_round-requires-clause-built : goal.run_round-requires-clause-built
run_round-requires-clause-built g c = c.loop-refusal.invariant.built

pub run_round-requires-clause-rooted : goal.run_round-requires-clause-rooted
run_round-requires-clause-rooted g c = c.loop-refusal.invariant.rooted

pub run_round-requires-clause-taken : goal.run_round-requires-clause-taken
run_round-requires-clause-taken g c = c.loop-refusal.invariant.taken

pub loop-refusal-smaller : goal.loop-refusal-smaller
loop-refusal-smaller g c =
    fewer_left c.loop-refusal.encoding c.run_round.new.encoding c.in_ok-run_round.ensures.adds (subst (λ (r : Round). IsRound g.A.SolvableId.PartialEq.eq c.args.soft c.loop-refusal.encoding c.run_round.new.encoding r) c.in-Continues.is c.in_ok-run_round.ensures.round)

pub loop-refusal-preserved : goal.loop-refusal-preserved
loop-refusal-preserved g c =
    let same = g.A.SolvableId.PartialEq.eq in
    let before = c.loop-refusal.invariant in
    let stays = subst (λ (a : g.row.A.Denot). StaysInOrderOf same g.A.PackageSource a c.args.input.now c.loop-refusal.encoding c.run_round.new.encoding) before.same c.in_ok-run_round.ensures.stays in
    record {
      same = c.in_ok-run_round.ensures.same ∙ before.same;
      stays = λ root is e. stays root is (before.stays root is e);
      adds = all_then c.args.encoding.now c.loop-refusal.encoding c.run_round.new.encoding before.adds c.in_ok-run_round.ensures.adds;
      built = c.in_ok-run_round.ensures.built;
      turn = turn_then c.args.soft c.args.encoding.now c.loop-refusal.encoding c.run_round.new.encoding before.turn c.in_ok-run_round.ensures.turn;
      rooted = still_rooted c.loop-refusal.encoding c.run_round.new.encoding before.rooted c.in_ok-run_round.ensures.adds;
      taken = taken_kept c.args.soft c.loop-refusal.encoding c.run_round.new.encoding before.built c.in_ok-run_round.ensures.built (turn_has c.args.soft c.args.encoding.now c.loop-refusal.encoding c.requires.turn before.turn) c.in_ok-run_round.ensures.turn c.in_ok-run_round.ensures.adds before.taken;
    }

pub returns-in-Complete-clause-stays : goal.returns-in-Complete-clause-stays
returns-in-Complete-clause-stays g c = λ root is e.
    let same = g.A.SolvableId.PartialEq.eq in
    (subst (λ (a : g.row.A.Denot). StaysInOrderOf same g.A.PackageSource a c.args.input.now c.loop-refusal.encoding c.run_round.new.encoding) c.loop-refusal.invariant.same c.in_ok-run_round.ensures.stays) root is (c.loop-refusal.invariant.stays root is e)

pub returns-in-Complete-clause-same : goal.returns-in-Complete-clause-same
returns-in-Complete-clause-same g c = c.in_ok-run_round.ensures.same ∙ c.loop-refusal.invariant.same

pub returns-in-Complete-clause-adds : goal.returns-in-Complete-clause-adds
returns-in-Complete-clause-adds g c = all_then c.args.encoding.now c.loop-refusal.encoding c.run_round.new.encoding c.loop-refusal.invariant.adds c.in_ok-run_round.ensures.adds

pub returns-in-Complete-clause-ended : goal.returns-in-Complete-clause-ended
returns-in-Complete-clause-ended g c = subst (λ (r : Round). IsRound g.A.SolvableId.PartialEq.eq c.args.soft c.loop-refusal.encoding c.run_round.new.encoding r) c.in-Complete.is c.in_ok-run_round.ensures.round

pub returns-in-Refused-clause-stays : goal.returns-in-Refused-clause-stays
returns-in-Refused-clause-stays g c = λ root is e.
    let same = g.A.SolvableId.PartialEq.eq in
    (subst (λ (a : g.row.A.Denot). StaysInOrderOf same g.A.PackageSource a c.args.input.now c.loop-refusal.encoding c.run_round.new.encoding) c.loop-refusal.invariant.same c.in_ok-run_round.ensures.stays) root is (c.loop-refusal.invariant.stays root is e)

pub returns-in-Refused-clause-same : goal.returns-in-Refused-clause-same
returns-in-Refused-clause-same g c = c.in_ok-run_round.ensures.same ∙ c.loop-refusal.invariant.same

pub returns-in-Refused-clause-adds : goal.returns-in-Refused-clause-adds
returns-in-Refused-clause-adds g c = all_then c.args.encoding.now c.loop-refusal.encoding c.run_round.new.encoding c.loop-refusal.invariant.adds c.in_ok-run_round.ensures.adds

pub returns-in-Refused-clause-ended : goal.returns-in-Refused-clause-ended
returns-in-Refused-clause-ended g c = subst (λ (r : Round). IsRound g.A.SolvableId.PartialEq.eq c.args.soft c.loop-refusal.encoding c.run_round.new.encoding r) c.in-Refused.is c.in_ok-run_round.ensures.round

pub returns-in-Complete-clause-turn : goal.returns-in-Complete-clause-turn
returns-in-Complete-clause-turn g c = turn_then c.args.soft c.args.encoding.now c.loop-refusal.encoding c.run_round.new.encoding c.loop-refusal.invariant.turn c.in_ok-run_round.ensures.turn

pub returns-in-Refused-clause-turn : goal.returns-in-Refused-clause-turn
returns-in-Refused-clause-turn g c = turn_then c.args.soft c.args.encoding.now c.loop-refusal.encoding c.run_round.new.encoding c.loop-refusal.invariant.turn c.in_ok-run_round.ensures.turn

pub run_round-requires-clause-turn : goal.run_round-requires-clause-turn
run_round-requires-clause-turn g c = turn_has c.args.soft c.args.encoding.now c.loop-refusal.encoding c.requires.turn c.loop-refusal.invariant.turn

pub returns-in_err-run_round-clause-ids : goal.returns-in_err-run_round-clause-ids
returns-in_err-run_round-clause-ids g c = λ is root are e.
    let stops = subst (λ (a : g.row.A.Denot). StopsInOrderOf g.A.SolvableId.PartialEq.eq g.A.PackageSource a c.args.input.now c.loop-refusal.encoding c.run_round.new.encoding) c.loop-refusal.invariant.same (search (rules, is)) in
    stops root are (c.loop-refusal.invariant.stays root are e)
