use Rattle.std.proofs.Common.{◌≡◌, ◌∙◌, ◌++◌, ◌∷◌, [], List, Option, ap, sym, subst, true}
use Rattle.std.specs.Prelude.{is_some, IfSome}
use Rattle.resolvo_catalogue_core.proofs.CatalogueFacts.{ok_map}
use Rattle.resolvo_report.specs.View.{step_of}
use Rattle.resolvo_report.specs.Value.{Step}
use Rattle.resolvo_report.specs.declared.step.Step.{Step as CodeStep}
use Rattle.resolvo_checker.specs.Kept.{Kept, Deferred, is_long}
use Rattle.resolvo_checker.specs.StepClauses.{clause_of}
use Rattle.resolvo_checker.specs.Proof.{rests_on_named, follows}
use Rattle.resolvo_checker.specs.CheckStep.{names_catalogue, names_request, CheckerInvariant}
use Rattle.resolvo_checker.proofs.StepKeyLemmas.{plain_long}
use Rattle.resolvo_checker.proofs.CheckLemmas.{invariant_defer, same_length, all_three}
use Rattle.resolvo_checker.proofs.check_step.defer_or_add.Goals as goal

pub returns-in_default-clause-answer : goal.returns-in_default-clause-answer
returns-in_default-clause-answer c = ok_map c.add.result c.add.ensures.answer (λ fine e earlier s.
    e earlier (c.in_ok-build_causes.ensures.represents c.args.checker.now.places.items c.args.checker.now.rules earlier s))

pub returns-in_default-clause-represents : goal.returns-in_default-clause-represents
returns-in_default-clause-represents c = ok_map c.add.result c.add.ensures.represents (λ fine e yes earlier s.
    e yes earlier (c.in_ok-build_causes.ensures.represents c.args.checker.now.places.items c.args.checker.now.rules earlier s))

pub returns-clause-answer : goal.returns-clause-answer
returns-clause-answer c = λ earlier s.
    let cat = c.args.catalogue.now in
    let req = c.args.request.now.lines in
    let st = step_of c.args.step.now in
    let long = subst (λ (o : Option CodeStep). IfSome o (λ s. is_long st ≡ true)) c.in-Some.is c.in_ok-copy.ensures.long in
    all_three (is_some (clause_of cat req st)) (rests_on_named (names_catalogue c.args.scope.now) (names_request c.args.scope.now) st) (follows cat req earlier st) true
    (sym (c.in_ok-there.ensures long) ∙ c.if-not-there.false) (sym c.is_named.ensures ∙ c.if-not-is_named.false) (sym ((plain_long st long).follows cat req earlier))

pub returns-clause-represents : goal.returns-clause-represents
returns-clause-represents c = λ _ earlier s.
    let cat = c.args.catalogue.now in
    let req = c.args.request.now.lines in
    let st = step_of c.args.step.now in
    let long = subst (λ (o : Option CodeStep). IfSome o (λ s. is_long st ≡ true)) c.in-Some.is c.in_ok-copy.ensures.long in
    let same = subst (λ (o : Option CodeStep). IfSome o (λ s. step_of s ≡ st)) c.in-Some.is c.in_ok-copy.ensures.copy in
    let there = sym (c.in_ok-there.ensures long) ∙ c.if-not-there.false in
    let last = c.len-place.ensures ∙ same_length cat req c.args.checker.now.numbers earlier c.args.clauses.now.kept s.kept in
    subst (λ (ks : List Kept). CheckerInvariant cat req c.args.checker.now.numbers ks c.args.checker.now.places.items c.record.new.self (earlier ++ st ∷ []))
    (sym (c.in_ok-defer.ensures.ok ∙ ap (λ (t : Step). c.args.clauses.now.kept ++ Deferred t ∷ []) same))
    (invariant_defer cat req c.args.checker.now.numbers c.args.clauses.now.kept c.args.checker.now.places.items c.args.checker.now.rules c.record.new.self earlier st long there s (c.in_ok-record.ensures cat req earlier last there s.recorded))
