use Rattle.std.proofs.Common.{inr, sym, ◌∙◌, ap, subst, rules}
use Rattle.std.specs.Prelude.{is_some}
use Rattle.resolvo_encoder.specs.declared.encoder.Encoder.{Encoder}
use Rattle.resolvo_encoder.specs.Steps.{AddsParent}
use Rattle.resolvo_encoder.proofs.BuildLemmas.{built_parents}
use Rattle.resolvo_turn.proofs.AddLemmas.{needs_then, parents_in_order, parents_needs}
use Rattle.resolvo_turn.proofs.EndLemmas.{finds_then, next_waits}
use Rattle.resolvo_turn.specs.LacksIds.{StopsInOrder}
use Rattle.resolvo_turn.proofs.turn.scan_new.Goals as goal

pub returns-then-is_some-clause-stays : goal.returns-then-is_some-clause-stays
returns-then-is_some-clause-stays g c = λ root e.
    parents_in_order g.A.SolvableId.PartialEq.eq (g.A.PackageSource.packages c.args.answers.now) (g.A.PackageSource.orders c.args.answers.now) root c.args.encoding.now c.add_new_chosen.new.encoding e c.in_ok-add_new_chosen.ensures.added

pub returns-then-is_some-clause-adds : goal.returns-then-is_some-clause-adds
returns-then-is_some-clause-adds g c = parents_needs c.args.encoding.now c.add_new_chosen.new.encoding c.in_ok-add_new_chosen.ensures.added

pub returns-then-is_some-clause-more : goal.returns-then-is_some-clause-more
returns-then-is_some-clause-more g c = λ yes.
    next_waits c.args.encoding.now c.add_new_chosen.new.encoding (sym (ap is_some c.next_parent.ensures.parent) ∙ sym c.if-is_some.ensures) c.next_parent.ensures.bounded

pub returns-then-is_some-clause-built : goal.returns-then-is_some-clause-built
returns-then-is_some-clause-built g c = built_parents c.args.encoding.now c.add_new_chosen.new.encoding c.requires c.in_ok-add_new_chosen.ensures.added

pub fire_touched-requires : goal.fire_touched-requires
fire_touched-requires g c = built_parents c.args.encoding.now c.add_new_chosen.new.encoding c.requires c.in_ok-add_new_chosen.ensures.added

pub returns-clause-stays : goal.returns-clause-stays
returns-clause-stays g c = λ root e.
    c.in_ok-has_fired.ensures.stays root (parents_in_order g.A.SolvableId.PartialEq.eq (g.A.PackageSource.packages c.args.answers.now) (g.A.PackageSource.orders c.args.answers.now) root c.args.encoding.now c.add_new_chosen.new.encoding e c.in_ok-add_new_chosen.ensures.added)

pub returns-clause-adds : goal.returns-clause-adds
returns-clause-adds g c = needs_then c.args.encoding.now c.add_new_chosen.new.encoding c.fire_touched.new.encoding (parents_needs c.args.encoding.now c.add_new_chosen.new.encoding c.in_ok-add_new_chosen.ensures.added) c.in_ok-has_fired.ensures.adds

pub returns-clause-more : goal.returns-clause-more
returns-clause-more g c = λ yes.
    finds_then c.args.encoding.now c.add_new_chosen.new.encoding c.fire_touched.new.encoding (parents_needs c.args.encoding.now c.add_new_chosen.new.encoding c.in_ok-add_new_chosen.ensures.added) (inr (c.in_ok-has_fired.ensures.fires yes))

pub returns-clause-none : goal.returns-clause-none
returns-clause-none g c = λ no. subst (λ (x : Encoder _ _). AddsParent c.args.encoding.now x) (sym (c.in_ok-has_fired.ensures.unchanged no)) c.in_ok-add_new_chosen.ensures.added

pub returns-in_err-has_fired-clause-ids : goal.returns-in_err-has_fired-clause-ids
returns-in_err-has_fired-clause-ids g c = λ is root e.
    let stops : StopsInOrder g.A.SolvableId.PartialEq.eq g.A.PackageSource c.args.answers.now c.add_new_chosen.new.encoding c.fire_touched.new.encoding = search (rules, is) in
    stops root (parents_in_order g.A.SolvableId.PartialEq.eq (g.A.PackageSource.packages c.args.answers.now) (g.A.PackageSource.orders c.args.answers.now) root c.args.encoding.now c.add_new_chosen.new.encoding e c.in_ok-add_new_chosen.ensures.added)
