use Rattle.std.proofs.Common.{[], ◌++◌, refl}
use Rattle.std.specs.Prelude.{codes}
use Rattle.std.proofs.lemmas.Result.{err_from_is_err_and}
use Rattle.resolvo_report.proofs.WriteLemmas.{wrote_more, stops_later, stops_first}
use Rattle.resolvo_report.proofs.write.write_message_line.Goals as goal
use Rattle.std.proofs.Common.{Result, Ok, Err}
use Rattle.std.specs.Prelude.{IfErr}
use Rattle.resolvo_report.specs.declared.write.ReportWriteFault.TheVariants.{Writer}

if_err : {A E : Type 0} {P Q : E → Type 0} (r : Result A E) → ((e : E) → P e → Q e) → IfErr r P → IfErr r Q
if_err (Ok a) f h = tt
if_err (Err e) f h = f e h

pub returns-in_err-write_line-clause-fault : goal.returns-in_err-write_line-clause-fault
returns-in_err-write_line-clause-fault g c =
    let p = err_from_is_err_and c.from_residual.result c.from_residual.ensures.1 in
    rw (p.1, p.2) (stops_first c.in_err-write_line.field-0.0 _ _ _ _ _ _ _ (codes "| ") (c.args.bytes.now ++ codes "\n") (codes "| " ++ c.args.bytes.now ++ codes "\n") c.in_err-write_line.ensures.fault refl)

pub returns-in_err-write_all-clause-fault : goal.returns-in_err-write_all-clause-fault
returns-in_err-write_all-clause-fault g c =
    let p = err_from_is_err_and c.from_residual-in_err-write_all.result c.from_residual-in_err-write_all.ensures.1 in
    rw (p.1, p.2) (stops_later Writer _ _ _ _ _ _ _ _ _ _ (codes "| ") c.args.bytes.now (codes "\n") (codes "| " ++ c.args.bytes.now ++ codes "\n") c.in_ok-write_line.ensures.whole (c.in_err-write_all.ensures.prefix, λ _. c.in_err-write_all.ensures.fault) refl)

pub returns-clause-fault : goal.returns-clause-fault
returns-clause-fault g c =
    let so_far = wrote_more _ _ _ _ _ _ _ _ _ (codes "| ") c.args.bytes.now (codes "| " ++ c.args.bytes.now) c.in_ok-write_line.ensures.whole (c.in_ok-write_all.ensures.whole, c.in_ok-write_all.ensures.failures, c.in_ok-write_all.ensures.empty) refl in
    if_err c.write_line-2.result (λ e h. stops_later e _ _ _ _ _ _ _ _ _ _ (codes "| " ++ c.args.bytes.now) (codes "\n") [] (codes "| " ++ c.args.bytes.now ++ codes "\n") so_far h refl) c.write_line-2.ensures.fault
