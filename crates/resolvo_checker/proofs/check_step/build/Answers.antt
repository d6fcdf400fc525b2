use Rattle.std.proofs.Common.{◌∙◌, ap, sym}
use Rattle.std.specs.Option.{option_map, option_copied}
use Rattle.resolvo_report.specs.View.{step_of}
use Rattle.resolvo_checker.proofs.CheckLemmas.{built_length, built_stays, invariant_built}
use Rattle.resolvo_checker.proofs.check_step.build.Goals as goal

pub returns-clause-represents : goal.returns-clause-represents
returns-clause-represents c = λ places rules earlier s.
    let deferred = sym c.deferred.ensures ∙ ap (λ o. option_map step_of (option_copied o)) c.in-Some.is in
    let made = c.in_ok-build.ensures.built (step_of c.in-Some.step.now) deferred in
    invariant_built c.args.catalogue.now c.args.request.now.lines c.args.numbers.now c.number_step.new.numbers c.args.clauses.now.kept c.build.new.self.kept places rules earlier (step_of c.in-Some.step.now) c.args.place
    c.in_ok-_has_clause._has_clause c.number_step.new.out.items deferred c.in_ok-_has_clause.ensures (rw (← c.deref.ensures.value) made) s

pub returns-clause-stays : goal.returns-clause-stays
returns-clause-stays c =
    let deferred = sym c.deferred.ensures ∙ ap (λ o. option_map step_of (option_copied o)) c.in-Some.is in
    built_stays (step_of c.in-Some.step.now) c.deref.result.now c.args.clauses.now.kept c.build.new.self.kept (c.in_ok-build.ensures.built (step_of c.in-Some.step.now) deferred)

pub returns-clause-count : goal.returns-clause-count
returns-clause-count c =
    let deferred = sym c.deferred.ensures ∙ ap (λ o. option_map step_of (option_copied o)) c.in-Some.is in
    built_length (step_of c.in-Some.step.now) c.deref.result.now c.args.clauses.now.kept c.build.new.self.kept (c.in_ok-build.ensures.built (step_of c.in-Some.step.now) deferred)
