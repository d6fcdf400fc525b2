use Rattle.std.proofs.Common.{◌≡◌, ◌+◌, ◌++◌, ◌∷◌, [], List, take, sym, ◌∙◌, ap, subst}
use Rattle.std.specs.HashSet.{contains}
use Rattle.std.proofs.lemmas.List.{take_more, take_all}
use Rattle.resolvo_store_core.specs.SmallSets.{Finds}
use Rattle.resolvo_store_core.proofs.SmallSets.{finds_more}
use Rattle.resolvo_store_core.proofs.small_set.table_of.Goals as goal

pub loop-value-preserved : goal.loop-value-preserved
loop-value-preserved g c =
    let eq = g.V.PartialEq.eq in
    let so_far = take c.loop-value.value-index c.args.values.now in
    let grown : take (c.loop-value.value-index + 1) c.args.values.now ≡ so_far ++ c.value-item.result ∷ [] =
    take_more c.args.values.now c.loop-value.value-index c.value-item.result c.loop-value-test.true ∙ ap (λ x. so_far ++ x ∷ []) (sym c.value-item.is) in
    let found = finds_more eq g.met.V.Eq.laws (contains eq c.loop-value.table) (contains eq c.insert.new.self) so_far c.value-item.result c.in_ok-insert.ensures.updates.0 c.loop-value.invariant in
    subst (λ (xs : List g.row.V.Denot). Finds eq (contains eq c.insert.new.self) xs) (sym grown) found

pub returns-clause-same : goal.returns-clause-same
returns-clause-same g c = subst (λ (xs : List g.row.V.Denot). Finds g.V.PartialEq.eq (contains g.V.PartialEq.eq c.loop-value.table) xs) (take_all c.loop-value.value-index c.args.values.now c.loop-value-test.false) c.loop-value.invariant
