use Rattle.std.proofs.Common.{[], ◌∷◌, ◌++◌, ap, sym, subst, ◌∙◌}
use Rattle.resolvo_report.specs.View.{report_line_of, answer_line_of}
use Rattle.resolvo_judge.specs.Forbids.{FlagsForbidden}
use Rattle.resolvo_judge.proofs.ForbidLemmas.{flags_answer}
use Rattle.resolvo_judge.specs.Refusal.{passes}
use Rattle.resolvo_judge.proofs.judge_state.take_line.Goals as goal

pub returns-in_ok-fine-in-Catalogue-clause-answer : goal.returns-in_ok-fine-in-Catalogue-clause-answer
returns-in_ok-fine-in-Catalogue-clause-answer c = λ above s kept.
    c.in_ok-fine-in-Catalogue.ensures.answer c.args.request.now.lines above ∙ ap (λ l. passes c.args.catalogue.now c.args.request.now.lines above (report_line_of l)) (sym c.in-Catalogue.is)

pub returns-in_ok-fine-in-Request-clause-answer : goal.returns-in_ok-fine-in-Request-clause-answer
returns-in_ok-fine-in-Request-clause-answer c = λ above s kept.
    c.in_ok-fine-in-Request.ensures.answer c.args.catalogue.now above ∙ ap (λ l. passes c.args.catalogue.now c.args.request.now.lines above (report_line_of l)) (sym c.in-Request.is)

pub returns-in_ok-fine-in-Step-clause-answer : goal.returns-in_ok-fine-in-Step-clause-answer
returns-in_ok-fine-in-Step-clause-answer c = λ above s kept.
    c.in_ok-fine-in-Step.ensures.answer above c.in-Step.number s ∙ ap (λ l. passes c.args.catalogue.now c.args.request.now.lines above (report_line_of l)) (sym c.in-Step.is)

pub returns-in_ok-fine-in-Answer-clause-forbidden : goal.returns-in_ok-fine-in-Answer-clause-forbidden
returns-in_ok-fine-in-Answer-clause-forbidden c = λ _ above head s kept flags.
    subst (λ l. FlagsForbidden c.args.catalogue.now c.args.request.now.lines c.args.judging.now.forbidden (above ++ report_line_of l ∷ [])) (sym c.in-Answer.is)
    (flags_answer c.args.catalogue.now c.args.request.now.lines c.args.judging.now.forbidden above (answer_line_of c.in-Answer.answer) flags)
