use Rattle.std.proofs.Common.{◌∙◌, ℕ, Option, subst, arith}
use Rattle.std.specs.Prelude.{is_some, IfSome}
use Rattle.resolvo_catalogue_core.proofs.CatalogueFacts.{ok_map}
use Rattle.resolvo_report.specs.View.{step_of}
use Rattle.resolvo_checker.specs.StepClauses.{clause_of}
use Rattle.resolvo_checker.specs.Proof.{rests_on_named, follows}
use Rattle.resolvo_checker.specs.StepKeys.{IsKnownAt}
use Rattle.resolvo_checker.specs.CheckStep.{names_catalogue, names_request, causes_in}
use Rattle.resolvo_checker.proofs.StepKeyLemmas.{plain}
use Rattle.resolvo_checker.proofs.CheckLemmas.{only_named, no_more, invariant_again}
use Rattle.resolvo_checker.proofs.check_step.check_step.Goals as goal

pub returns-in-Some-clause-answer : goal.returns-in-Some-clause-answer
returns-in-Some-clause-answer c = ok_map c.repeat.result c.repeat.ensures.answer (λ fine e earlier s.
    let cat = c.args.catalogue.now in
    let req = c.args.request.now.lines in
    let st = step_of c.args.step.now in
    let known = subst (λ (o : Option ℕ). IfSome o (IsKnownAt c.args.checker.now.rules (step_of c.args.step.now))) c.in-Some.is c.in_ok-earlier.ensures.known in
    only_named (is_some (clause_of cat req st)) (rests_on_named (names_catalogue c.args.scope.now) (names_request c.args.scope.now) st) (follows cat req earlier st) fine
    (s.recorded st c.in-Some.place known).1 ((plain st known.0 known.1).follows cat req earlier) e)

pub returns-in-Some-clause-represents : goal.returns-in-Some-clause-represents
returns-in-Some-clause-represents c = ok_map c.repeat.result c.repeat.ensures.kept (λ fine e yes earlier s.
    let known = subst (λ (o : Option ℕ). IfSome o (IsKnownAt c.args.checker.now.rules (step_of c.args.step.now))) c.in-Some.is c.in_ok-earlier.ensures.known in
    rw (e yes) (invariant_again c.args.catalogue.now c.args.request.now.lines c.args.checker.now.numbers c.args.clauses.now.kept c.args.checker.now.places.items c.args.checker.now.rules earlier (step_of c.args.step.now) c.in-Some.place s known))

pub returns-in-Some-clause-read : goal.returns-in-Some-clause-read
returns-in-Some-clause-read c = ok_map c.repeat.result c.repeat.ensures.kept (λ fine e yes.
    let known = subst (λ (o : Option ℕ). IfSome o (IsKnownAt c.args.checker.now.rules (step_of c.args.step.now))) c.in-Some.is c.in_ok-earlier.ensures.known in
    c.repeat.ensures.readings ∙ no_more c.args.clauses.now.readings (causes_in (step_of c.args.step.now)) (plain (step_of c.args.step.now) known.0 known.1).causes)

pub returns-in-Some-clause-later : goal.returns-in-Some-clause-later
returns-in-Some-clause-later c = ok_map c.repeat.result c.repeat.ensures.count (λ fine e yes. omega (arith, e yes, c.requires.later))

pub returns-in-Some-clause-long : goal.returns-in-Some-clause-long
returns-in-Some-clause-long c = ok_map c.repeat.result c.repeat.ensures.count (λ fine e yes. c.requires.long)
