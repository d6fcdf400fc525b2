use Rattle.std.proofs.Common.{ℕ, List, ◌++◌, ap, ◌∙◌, sym, subst, length, append-nil, arith}
use Rattle.resolvo_report.specs.Value.{Install, Refused}
use Rattle.resolve_answer.specs.declared.answer.Answer.{Answer}
use Rattle.resolve_answer.specs.Answer.{IsAnswerOf}
use Rattle.resolve_check.specs.declared.outcome.RunFault.{RunFault}
use Rattle.resolve_check.proofs.Results.{if_ok, if_err}
use Rattle.resolve_run.specs.declared.text.RunText.{RunText}
use Rattle.resolve_run.specs.Run.{IsLack}
use Rattle.resolve_run.specs.Whole.{whole}
use Rattle.resolve_run.proofs.program.written.Goals as goal

pub returns-in-Installed-clause-ok : goal.returns-in-Installed-clause-ok
returns-in-Installed-clause-ok c =
    let alone = ap (λ (t : List ℕ). c.in-Installed.text.items ++ t) c.new.ensures.items ∙ append-nil c.in-Installed.text.items in
    if_ok c.report.result (λ w (is, few) catalogue request h.
    let (lines, steps, text, reported) = subst (λ (a : Answer). IsAnswerOf catalogue request a) c.in-Installed.is h in
    record { report = Install lines steps; reported = reported; ends = ap (λ (t : RunText). t.outcome) is; is_text = ap (λ (t : RunText). whole t) is ∙ (alone ∙ text); bound = omega (arith, few, ap (λ (t : RunText). length (whole t)) is) })
    c.report.ensures.ok

pub returns-in-Installed-clause-err : goal.returns-in-Installed-clause-err
returns-in-Installed-clause-err c =
    let alone = ap (λ (t : List ℕ). c.in-Installed.text.items ++ t) c.new.ensures.items ∙ append-nil c.in-Installed.text.items in
    if_err c.report.result (λ e (is, long) catalogue request h.
    let (lines, steps, text, reported) = subst (λ (a : Answer). IsAnswerOf catalogue request a) c.in-Installed.is h in
    subst (λ (x : RunFault). IsLack x catalogue request) (sym is) (Install lines steps, reported, omega (arith, long, ap (λ (t : List ℕ). length t) (alone ∙ text))))
    c.report.ensures.err

pub returns-in-Refused-clause-ok : goal.returns-in-Refused-clause-ok
returns-in-Refused-clause-ok c =
    if_ok c.report-in-Refused.result (λ w (is, few) catalogue request h.
    let (named, asked, steps, lines, text, reported) = subst (λ (a : Answer). IsAnswerOf catalogue request a) c.in-Refused.is h in
    record { report = Refused named asked steps lines; reported = reported; ends = ap (λ (t : RunText). t.outcome) is; is_text = ap (λ (t : RunText). whole t) is ∙ text; bound = omega (arith, few, ap (λ (t : RunText). length (whole t)) is) })
    c.report-in-Refused.ensures.ok

pub returns-in-Refused-clause-err : goal.returns-in-Refused-clause-err
returns-in-Refused-clause-err c =
    if_err c.report-in-Refused.result (λ e (is, long) catalogue request h.
    let (named, asked, steps, lines, text, reported) = subst (λ (a : Answer). IsAnswerOf catalogue request a) c.in-Refused.is h in
    subst (λ (x : RunFault). IsLack x catalogue request) (sym is) (Refused named asked steps lines, reported, omega (arith, long, ap (λ (t : List ℕ). length t) text)))
    c.report-in-Refused.ensures.err
