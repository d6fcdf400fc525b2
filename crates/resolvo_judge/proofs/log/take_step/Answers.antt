use Rattle.std.proofs.Common.{◌∙◌, sym, subst, ◌++◌, ◌∷◌, [], Bool}
use Rattle.resolvo_report.specs.Value.{Numbered}
use Rattle.resolvo_report.specs.View.{step_of}
use Rattle.resolvo_judge.specs.Refusal.{steps_in}
use Rattle.resolvo_judge.specs.Log.{LogInvariant}
use Rattle.resolvo_judge.proofs.LogLemmas.{passes_so, step_more}
use Rattle.resolvo_judge.proofs.log.take_step.Goals as goal

pub returns-clause-answer : goal.returns-clause-answer
returns-clause-answer c = λ above n s.
    c.in_ok-fine.ensures.answer (steps_in above) s.steps
    ∙ passes_so c.args.catalogue.now c.args.request.now.lines c.args.log.now.checker.numbers c.args.clauses.now.kept c.args.log.now.checker.places.items c.args.log.now.checker.rules c.args.log.now.scope c.args.log.now.ends_empty above s n (step_of c.args.step.now)

pub returns-clause-represents : goal.returns-clause-represents
returns-clause-represents c = λ fine above n s.
    subst (λ (b : Bool). LogInvariant c.args.catalogue.now c.args.request.now.lines c.check_step.new.checker.numbers c.check_step.new.clauses.kept c.check_step.new.checker.places.items c.check_step.new.checker.rules c.args.log.now.scope b (above ++ Numbered n (step_of c.args.step.now) ∷ [])) (sym c.derives_empty-log.ensures)
    (step_more c.args.catalogue.now c.args.request.now.lines c.args.log.now.checker.numbers c.args.clauses.now.kept c.args.log.now.checker.places.items c.args.log.now.checker.rules c.args.log.now.scope c.args.log.now.ends_empty above s
    c.check_step.new.checker.numbers c.check_step.new.clauses.kept c.check_step.new.checker.places.items c.check_step.new.checker.rules n (step_of c.args.step.now) (c.in_ok-fine.ensures.represents fine (steps_in above) s.steps))
