use Rattle.std.proofs.Common.{◌+◌, [], None, take, get_or, ap, subst, arith}
use Rattle.std.proofs.lemmas.List.{take_all}
use Rattle.resolvo_catalogue_core.specs.Listed.{listed}
use Rattle.resolve_order.specs.Order.{AreTurns, chosen_in}
use Rattle.resolve_order.specs.View.{answers_of, turns_of}
use Rattle.resolve_order.specs.declared.entry.Turn.{Turn}
use Rattle.resolve_order.specs.declared.entry.Turn.TheVariants as turn
use Rattle.resolve_order.proofs.FinishLemmas.{all_accepted, wish_at_turn, any_default, chosen_more, lists_more}
use Rattle.resolve_order.proofs.TurnLemmas.{reasoned_turns, exact_entries}
use Rattle.resolve_order.proofs.install_order.list.Goals as goal

pub loop-turn-init : goal.loop-turn-init
loop-turn-init c = λ are. record {
  listing = c.in_ok-listing.ensures.listing;
  turns_listed = ap (answers_of (listed c.args.catalogue.now)) c.in_ok-listing.ensures.none;
}

pub loop-turn-preserved : goal.loop-turn-preserved
loop-turn-preserved c = λ are.
    let vs = listed c.args.catalogue.now in
    let turns = c.args.turns.now in
    let i = c.loop-turn.turn-index in
    let none : Turn = turn.Chose None (record { ref_ptr = (0, 0); now = [] }) in
    let t = get_or turns i none in
    let is = any_default turns i none t c.loop-turn-test.true in
    let before = c.loop-turn.invariant are in
    lists_more c.args.catalogue.now c.args.request.now.lines turns i t c.loop-turn.listing c.take_turn.new.self c.loop-turn-test.true is before
    (c.in_ok-take_turn.ensures (chosen_in (turns_of vs (take i turns))) (chosen_in (turns_of vs (take (i + 1) turns))) (chosen_more vs turns i t c.loop-turn-test.true is) before.listing
    (wish_at_turn vs c.args.request.now.lines turns i t c.loop-turn-test.true is are.wishes))

pub returns-clause-order : goal.returns-clause-order
returns-clause-order c = λ are.
    let vs = listed c.args.catalogue.now in
    let all = take_all c.loop-turn.turn-index c.args.turns.now (omega (arith, c.loop-turn-test.false)) in
    subst (λ ts. AreTurns c.args.catalogue.now c.args.request.now.lines [] [] (turns_of vs ts) (answers_of vs c.loop-turn.listing.answers.items)) all (c.loop-turn.invariant are).turns_listed

pub returns-clause-reasoned : goal.returns-clause-reasoned
returns-clause-reasoned c = λ are.
    let vs = listed c.args.catalogue.now in
    let turns = c.args.turns.now in
    let answers = answers_of vs c.loop-turn.listing.answers.items in
    let all = take_all c.loop-turn.turn-index turns (omega (arith, c.loop-turn-test.false)) in
    let in_order = subst (λ ts. AreTurns c.args.catalogue.now c.args.request.now.lines [] [] (turns_of vs ts) answers) all (c.loop-turn.invariant are).turns_listed in
    reasoned_turns c.args.catalogue.now c.args.request.now.lines [] [] (turns_of vs turns) answers in_order (all_accepted vs c.args.request.now.lines [] turns are.wishes)

pub returns-clause-reached : goal.returns-clause-reached
returns-clause-reached c = λ are reached.
    let vs = listed c.args.catalogue.now in
    let turns = c.args.turns.now in
    let answers = answers_of vs c.loop-turn.listing.answers.items in
    let all = take_all c.loop-turn.turn-index turns (omega (arith, c.loop-turn-test.false)) in
    let in_order = subst (λ ts. AreTurns c.args.catalogue.now c.args.request.now.lines [] [] (turns_of vs ts) answers) all (c.loop-turn.invariant are).turns_listed in
    exact_entries c.args.catalogue.now c.args.request.now.lines (turns_of vs turns) answers in_order (all_accepted vs c.args.request.now.lines [] turns are.wishes) reached

pub returns-clause-numbered : goal.returns-clause-numbered
returns-clause-numbered c = λ are. (c.loop-turn.invariant are).listing.numbered
