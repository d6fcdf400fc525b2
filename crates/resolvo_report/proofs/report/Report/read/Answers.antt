use Rattle.std.proofs.Common.{[], Option, refl, sym, ap, subst, ◌∙◌}
use Rattle.std.proofs.lemmas.Option.{same_Some}
use Rattle.std.proofs.lemmas.Result.{err_from_is_err_and}
use Rattle.resolvo_report.specs.declared.grammar.Part.{Part}
use Rattle.resolvo_report.specs.View.{report_of, report_line_of}
use Rattle.std.specs.Prelude.{IfSome}
use Rattle.resolvo_report.specs.declared.report.ReportLine.{ReportLine}
use Rattle.resolvo_report.specs.Text.{report_lines}
use Rattle.resolvo_report.specs.Grammar.{next_part}
use Rattle.resolvo_report.specs.Stream.{left, GivesLine}
use Rattle.resolvo_report.proofs.StreamLemmas.{read_nothing, read_gives, read_fails}
use Rattle.resolvo_report.proofs.report.Report.read.Goals as goal

pub returns-in_err-first-clause-fault : goal.returns-in_err-first-clause-fault
returns-in_err-first-clause-fault g c =
    let p = err_from_is_err_and c.from_residual-in_err-first.result c.from_residual-in_err-first.ensures.1 in
    let r = c.in_ok-reader.ensures in
    let nothing = read_nothing (g.S.Source.left c.args.source.now) _ _ _ _ _ refl r.fresh r.room r.number r.part in
    rw (p.1, p.2) (read_fails c.in_err-first.field-0.0 _ _ _ [] c.in_ok-reader.reader _ _ _ _ nothing refl c.in_err-first.ensures.fault)

pub loop-report-init : goal.loop-report-init
loop-report-init g c =
    let r = c.in_ok-reader.ensures in
    let nothing = read_nothing (g.S.Source.left c.args.source.now) _ _ _ _ _ refl r.fresh r.room r.number r.part in
    let given = subst (λ (o : Option ReportLine). IfSome o (λ (line : ReportLine). GivesLine (left c.in_ok-reader.reader (g.S.Source.left c.args.source.now)) c.in_ok-reader.reader (report_line_of line) (left c.next.new.self (g.S.Source.left c.next.new.source)) c.next.new.self)) c.in-Some.is c.in_ok-first.ensures.given in
    let part = same_Some _ _ (sym given.placed ∙ ap (λ (p : Part). next_part p (report_line_of c.in-Some.first)) r.part ∙ c.begun-report.ensures.part) in
    (read_gives _ _ _ [] (report_lines (report_of c.begun-report.result)) (report_line_of c.in-Some.first) c.in_ok-reader.reader c.next.new.self nothing given c.begun-report.ensures.lines, part, c.in_ok-first.ensures.failures)

pub loop-report-preserved : goal.loop-report-preserved
loop-report-preserved g c =
    let inv = c.loop-report.invariant in
    let r = c.loop-report.reader in
    let next = c.next-in-loop-report.new in
    let given = subst (λ (o : Option ReportLine). IfSome o (λ (line : ReportLine). GivesLine (left r (g.S.Source.left c.loop-report.source)) r (report_line_of line) (left next.self (g.S.Source.left next.source)) next.self)) c.in-Some-2.is c.in_ok-line.ensures.given in
    let grown = c.in_ok-push.ensures in
    let part = same_Some _ _ (sym given.placed ∙ ap (λ (p : Part). next_part p (report_line_of c.in-Some-2.line)) inv.1 ∙ grown.placed) in
    (read_gives _ _ _ _ (report_lines (report_of c.push.new.self)) (report_line_of c.in-Some-2.line) r next.self inv.0 given grown.lines, part, c.in_ok-line.ensures.failures ∙ inv.2)

pub returns-in_err-line-clause-fault : goal.returns-in_err-line-clause-fault
returns-in_err-line-clause-fault g c =
    let inv = c.loop-report.invariant in
    let p = err_from_is_err_and c.from_residual-in_err-line.result c.from_residual-in_err-line.ensures.1 in
    rw (p.1, p.2) (read_fails c.in_err-line.field-0.0 _ _ _ _ c.loop-report.reader _ _ _ _ inv.0 inv.2 c.in_err-line.ensures.fault)
