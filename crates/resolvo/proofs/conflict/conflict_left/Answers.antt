use Rattle.std.proofs.Common.{List, Some, refl, sym, ◌∙◌, ap, subst}
use Rattle.resolvo_proof.specs.declared.step.ProofStep.{ProofStep}
use Rattle.resolvo.specs.Conflicts.{AreOffers, IsLeft, conflict_clauses}
use Rattle.resolvo.specs.declared.search.SearchResult.{SearchResult}
use Rattle.resolvo.proofs.OfferLemmas.{want_ends}
use Rattle.resolvo.proofs.conflict.conflict_left.Goals as goal

pub returns-in_err-ids-in-Unsat-clause-cancelled : goal.returns-in_err-ids-in-Unsat-clause-cancelled
returns-in_err-ids-in-Unsat-clause-cancelled g c = want_ends (g.A.PackageSource.may_cancel c.args.answers.now) c.from_residual-in_err-ids-in-Unsat.result c.in_err-ids-in-Unsat.field-0.0 c.from_residual-in_err-ids-in-Unsat.ensures.1

pub returns-in_ok-clauses-in-Unsat-clause-left : goal.returns-in_ok-clauses-in-Unsat-clause-left
returns-in_ok-clauses-in-Unsat-clause-left g c =
    let same = g.A.SolvableId.PartialEq.eq in
    let p = g.A.PackageSource.packages c.args.answers.now in
    let orders = g.A.PackageSource.orders c.args.answers.now in
    let steps = c.args.solved.now.proof.items in
    let offers = subst (λ (xs : List (ProofStep g.row.A-NameId.Denot g.row.A-SolvableId.Denot)). AreOffers same p orders xs c.in_ok-offers-in-Unsat.offers) c.as_slice.ensures.value c.in_ok-offers-in-Unsat.ensures.offers in
    subst (λ (f : SearchResult g.row.A-SolvableId.Denot). IsLeft same p orders f steps c.in_ok-ids-in-Unsat.ids.items (Some (record { clauses = c.in_ok-clauses-in-Unsat.clauses; offers = c.in_ok-offers-in-Unsat.offers }))) (sym c.in-Unsat.is)
    (_, refl, c.in_ok-clauses-in-Unsat.ensures.items ∙ c.as_slice-in-Unsat-2.ensures.value, c.in_ok-ids-in-Unsat.ensures ∙ ap conflict_clauses c.as_slice-in-Unsat.ensures.value, offers)
