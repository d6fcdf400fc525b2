use Rattle.std.proofs.Common.{◌≡◌, ◌+◌, ◌++◌, ◌∷◌, [], List, take, sym, ◌∙◌, ap, subst}
use Rattle.std.specs.Prelude.{Contains}
use Rattle.std.proofs.lemmas.List.{take_more, take_all}
use Rattle.resolvo_sat.proofs.Lists.{contains_none}
use Rattle.resolvo_turn.proofs.AddLemmas.{parents_none, parents_then}
use Rattle.resolvo_turn.proofs.EndLemmas.{among_more}
use Rattle.resolvo_turn.proofs.TakenLemmas.{turn_added}
use Rattle.resolvo_turn.proofs.turn.add_chosen.Goals as goal

pub loop-solvable-init : goal.loop-solvable-init
loop-solvable-init g c = record { added = parents_none c.args.encoding.now; among = λ s h. absurd (contains_none s h) }

pub loop-solvable-preserved : goal.loop-solvable-preserved
loop-solvable-preserved g c =
    let xs = c.deref-solvable-items.result.now in
    let i = c.loop-solvable.solvable-index in
    let item = c.solvable-item.result in
    let more : take (i + 1) xs ≡ take i xs ++ item ∷ [] = take_more xs i item c.loop-solvable-test.true ∙ ap (λ x. take i xs ++ x ∷ []) (sym c.solvable-item.is) in
    record {
      added = parents_then c.args.encoding.now c.loop-solvable.encoding c.add_parent.new.self c.loop-solvable.invariant.added c.in_ok-add_parent.ensures.added;
      among = λ s h. among_more c.loop-solvable.encoding c.add_parent.new.self (take i xs) item c.in_ok-add_parent.ensures.added c.loop-solvable.invariant.among c.in_ok-add_parent.ensures.present s (subst (λ (ys : List _). Contains ys s) more h);
    }

pub returns-clause-chosen : goal.returns-clause-chosen
returns-clause-chosen g c =
    let xs = c.deref-solvable-items.result.now in
    let i = c.loop-solvable.solvable-index in
    turn_added c.args.encoding.now c.loop-solvable.encoding c.loop-solvable.invariant.added c.requires.taken
    (λ s h. c.loop-solvable.invariant.among s (subst (λ (ys : List _). Contains ys s) (sym (take_all i xs c.loop-solvable-test.false)) (subst (λ (ys : List _). Contains ys s) (sym c.deref-solvable-items.ensures.value) (subst (λ (ys : List _). Contains ys s) (sym c.in_ok-chosen.ensures.chosen) h))))
