use Rattle.std.proofs.Common.{◌≡◌, ◌+◌, ◌++◌, ◌∷◌, [], List, take, refl, sym, ◌∙◌, ap, subst}
use Rattle.std.proofs.lemmas.List.{take_more, take_all}
use Rattle.indexmap.specs.IndexSet.{insert_all}
use Rattle.resolvo_state.proofs.Positions.{prefix_same, prefix_then}
use Rattle.resolvo.proofs.TrailLemmas.{inserted_more}
use Rattle.resolvo.proofs.turns.list_each.Goals as goal

pub loop-solvable-init : goal.loop-solvable-init
loop-solvable-init g c = record { adds = prefix_same c.args.listed.now.keys; in_order = refl }

pub loop-solvable-preserved : goal.loop-solvable-preserved
loop-solvable-preserved g c =
    let same = g.S.PartialEq.eq in
    let xs = c.args.chosen.now in
    let old = c.args.listed.now.keys in
    let i = c.loop-solvable.solvable-index in
    let item = c.solvable-item.result in
    let more : take (i + 1) xs ≡ take i xs ++ item ∷ [] = take_more xs i item c.loop-solvable-test.true ∙ ap (λ x. take i xs ++ x ∷ []) (sym c.solvable-item.is) in
    record {
      adds = prefix_then old c.loop-solvable.listed.keys c.add_value.new.keys.keys c.loop-solvable.invariant.adds c.in_ok-add_value.ensures.prefix;
      in_order = inserted_more same old (take i xs) (take (i + 1) xs) c.loop-solvable.listed.keys c.add_value.new.keys.keys item more c.loop-solvable.invariant.in_order c.in_ok-add_value.ensures.added;
    }

pub returns-clause-adds : goal.returns-clause-adds
returns-clause-adds g c = c.loop-solvable.invariant.adds

pub returns-clause-in_order : goal.returns-clause-in_order
returns-clause-in_order g c = c.loop-solvable.invariant.in_order ∙ ap (insert_all g.S.PartialEq.eq c.args.listed.now.keys) (take_all c.loop-solvable.solvable-index c.args.chosen.now c.loop-solvable-test.false)
