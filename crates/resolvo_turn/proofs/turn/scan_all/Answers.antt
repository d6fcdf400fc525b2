use Rattle.std.proofs.Common.{inr, sym, ◌∙◌, ap, rules}
use Rattle.std.specs.Prelude.{is_some}
use Rattle.resolvo_encoder.proofs.BuildLemmas.{built_parents}
use Rattle.resolvo_turn.proofs.AddLemmas.{needs_then, parents_in_order, parents_needs}
use Rattle.resolvo_turn.proofs.EndLemmas.{finds_then, next_waits, none_same}
use Rattle.resolvo_turn.specs.LacksIds.{StopsInOrder}
use Rattle.resolvo_turn.proofs.turn.scan_all.Goals as goal

pub returns-then-is_some-clause-stays : goal.returns-then-is_some-clause-stays
returns-then-is_some-clause-stays g c = λ root e.
    parents_in_order g.A.SolvableId.PartialEq.eq (g.A.PackageSource.packages c.args.answers.now) (g.A.PackageSource.orders c.args.answers.now) root c.args.encoding.now c.add_chosen.new.encoding e c.in_ok-add_chosen.ensures.chosen.added

pub returns-then-is_some-clause-adds : goal.returns-then-is_some-clause-adds
returns-then-is_some-clause-adds g c = parents_needs c.args.encoding.now c.add_chosen.new.encoding c.in_ok-add_chosen.ensures.chosen.added

pub returns-then-is_some-clause-more : goal.returns-then-is_some-clause-more
returns-then-is_some-clause-more g c = λ yes.
    next_waits c.args.encoding.now c.add_chosen.new.encoding (sym (ap is_some c.next_parent.ensures.parent) ∙ sym c.if-is_some.ensures) c.next_parent.ensures.bounded

pub returns-then-is_some-clause-built : goal.returns-then-is_some-clause-built
returns-then-is_some-clause-built g c = built_parents c.args.encoding.now c.add_chosen.new.encoding c.requires.built c.in_ok-add_chosen.ensures.chosen.added

pub fire-requires : goal.fire-requires
fire-requires g c = built_parents c.args.encoding.now c.add_chosen.new.encoding c.requires.built c.in_ok-add_chosen.ensures.chosen.added

pub returns-clause-stays : goal.returns-clause-stays
returns-clause-stays g c = λ root e.
    c.in_ok-has_fired.ensures.stays root (parents_in_order g.A.SolvableId.PartialEq.eq (g.A.PackageSource.packages c.args.answers.now) (g.A.PackageSource.orders c.args.answers.now) root c.args.encoding.now c.add_chosen.new.encoding e c.in_ok-add_chosen.ensures.chosen.added)

pub returns-clause-adds : goal.returns-clause-adds
returns-clause-adds g c = needs_then c.args.encoding.now c.add_chosen.new.encoding c.fire.new.encoding (parents_needs c.args.encoding.now c.add_chosen.new.encoding c.in_ok-add_chosen.ensures.chosen.added) c.in_ok-has_fired.ensures.adds

pub returns-clause-more : goal.returns-clause-more
returns-clause-more g c = λ yes.
    finds_then c.args.encoding.now c.add_chosen.new.encoding c.fire.new.encoding (parents_needs c.args.encoding.now c.add_chosen.new.encoding c.in_ok-add_chosen.ensures.chosen.added) (inr (c.in_ok-has_fired.ensures.fires yes))

pub returns-clause-none : goal.returns-clause-none
returns-clause-none g c = λ no.
    let (stays, spent) = c.in_ok-has_fired.ensures.spent no in
    none_same g.A.SolvableId.PartialEq.eq c.args.encoding.now c.add_chosen.new.encoding c.fire.new.encoding c.in_ok-add_chosen.ensures.chosen (sym (ap is_some c.next_parent.ensures.parent) ∙ sym c.if-is_some.ensures) stays spent

pub returns-in_err-has_fired-clause-ids : goal.returns-in_err-has_fired-clause-ids
returns-in_err-has_fired-clause-ids g c = λ is root e.
    let stops : StopsInOrder g.A.SolvableId.PartialEq.eq g.A.PackageSource c.args.answers.now c.add_chosen.new.encoding c.fire.new.encoding = search (rules, is) in
    stops root (parents_in_order g.A.SolvableId.PartialEq.eq (g.A.PackageSource.packages c.args.answers.now) (g.A.PackageSource.orders c.args.answers.now) root c.args.encoding.now c.add_chosen.new.encoding e c.in_ok-add_chosen.ensures.chosen.added)
