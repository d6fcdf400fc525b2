use Rattle.std.proofs.Common.{◌∙◌, List, refl, sym, ap, subst}
use Rattle.std.specs.Prelude.{Contains}
use Rattle.std.proofs.lemmas.Bool.{both_ways}
use Rattle.std.proofs.lemmas.List.{take_all}
use Rattle.resolvo_pool_core.specs.declared.requirement.Requirement.{Requirement}
use Rattle.resolvo_sat.proofs.Lists.{contains_none}
use Rattle.resolvo_packages.specs.PackageSource.{offered_solvables}
use Rattle.resolvo.specs.Conflicts.{IsRightOffer}
use Rattle.resolvo.proofs.OfferLemmas.{offered_more, right_from, right_more, want_ends}
use Rattle.resolvo.proofs.conflict.offers_for.Goals as goal

pub loop-requirement-init : goal.loop-requirement-init
loop-requirement-init g c = record {
  same = refl;
  recorded = λ r h. absurd (contains_none r h);
  right = λ r was. absurd (both_ways _ (c.in_ok-offers.ensures.empty r) was);
}

pub returns-in_err-offer-clause-cancelled : goal.returns-in_err-offer-clause-cancelled
returns-in_err-offer-clause-cancelled g c = want_ends (g.A.PackageSource.may_cancel c.args.answers.now) c.from_residual-in_err-offer.result c.in_err-offer.field-0.0 c.from_residual-in_err-offer.ensures.1

pub loop-requirement-preserved : goal.loop-requirement-preserved
loop-requirement-preserved g c =
    let same = g.A.SolvableId.PartialEq.eq in
    let before = c.loop-requirement.invariant in
    let offered = c.in_ok-offered in
    let right = right_from same g.A.PackageSource.packages g.A.PackageSource.orders c.args.answers.now c.loop-requirement.answers _ offered.offered.items c.in_ok-solvables_of.field-0.items before.same (c.in_ok-solvables_of.ensures.solvables ∙ ap offered_solvables c.as_slice.ensures.value) offered.ensures.offered offered.ensures.ordered in
    record {
      same = offered.ensures.same ∙ before.same;
      recorded = offered_more c.deref-requirement-items.result.now c.loop-requirement.requirement-index _ c.loop-requirement.offers c.offer.new.self _ c.loop-requirement-test.true c.in_ok-offer.ensures.offered before.recorded;
      right = right_more (IsRightOffer same (g.A.PackageSource.packages c.args.answers.now) (g.A.PackageSource.orders c.args.answers.now)) _ c.loop-requirement.offers c.offer.new.self _ c.in_ok-offer.ensures.offered right before.right;
    }

pub returns-clause-offers : goal.returns-clause-offers
returns-clause-offers g c = λ r h.
    c.loop-requirement.invariant.right r (c.loop-requirement.invariant.recorded r (subst (λ (qs : List Requirement). Contains qs r) (sym c.in_ok-requirements.ensures.named ∙ (sym c.deref-requirement-items.ensures.value ∙ sym (take_all c.loop-requirement.requirement-index c.deref-requirement-items.result.now c.loop-requirement-test.false))) h))
