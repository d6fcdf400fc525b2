use Rattle.std.proofs.Common.{◌+◌, Bool, false, [], ◌∷◌, List, length, Option, refl, sym, ap, subst, ◌∙◌, arith}
use Rattle.std.specs.Prelude.{IfSome, IfNone, IsTrue}
use Rattle.std.specs.Io.KnownBytes.{IsAtEnd}
use Rattle.std.proofs.lemmas.Result.{err_from_is_err_and}
use Rattle.resolvo_report.specs.declared.report.ReportLine.{ReportLine}
use Rattle.resolvo_report.specs.declared.grammar.Part.{Part}
use Rattle.resolvo_report.specs.Value.{ReportLine as LineValue}
use Rattle.resolvo_report.specs.View.{report_line_of}
use Rattle.resolvo_report.specs.Text.{report_lines}
use Rattle.resolvo_report.specs.Grammar.{next_part, may_end}
use Rattle.resolvo_report.specs.Shown.{IsShown}
use Rattle.resolvo_report.specs.Stream.{left, GivesLine}
use Rattle.resolvo_report.proofs.StreamLemmas.{read_nothing}
use Rattle.resolvo_checker.specs.Kept.{Kept}
use Rattle.resolvo_judge.specs.JudgeState.{JudgeInvariant, DecidesEnd}
use Rattle.resolvo_judge.proofs.JudgeLemmas.{head_first, reached_first, few_causes, reached_more, is_no_head, refusal_kept, refused_here, line_refused, end_refused, upheld, stops}
use Rattle.resolvo_judge.proofs.ShownLemmas.{first_shown, passes_shown, causes_shown, head_shown, invariant_shown}
use Rattle.resolvo_judge.proofs.judgement.judge_lines.Goals as goal

pub returns-in_err-first-clause-fault : goal.returns-in_err-first-clause-fault
returns-in_err-first-clause-fault g c =
    let p = err_from_is_err_and c.from_residual-in_err-first.result c.from_residual-in_err-first.ensures.1 in
    let r = c.in_ok-reader.ensures in
    let nothing = read_nothing (g.S.Source.left c.args.source.now) _ _ _ _ _ refl r.fresh r.room r.number r.part in
    rw (p.1, p.2) (stops c.args.catalogue.now c.args.request.now.lines _ _ _ [] c.in_ok-reader.reader nothing (λ n m at. absurd cc) _ _ _ _ refl c.in_err-first.field-0.0 c.in_err-first.ensures.fault)

pub begin-requires : goal.begin-requires
begin-requires g c =
    let r = c.in_ok-reader.ensures in
    let given = subst (λ (o : Option ReportLine). IfSome o (λ (line : ReportLine). (written : LineValue) × IsShown false written (report_line_of line) × GivesLine (left c.in_ok-reader.reader (g.S.Source.left c.args.source.now)) c.in_ok-reader.reader written (left c.next_without_message.new.self (g.S.Source.left c.next_without_message.new.source)) c.next_without_message.new.self)) c.in-Some.is c.in_ok-first.ensures.given in
    let is = first_shown c.in_ok-reader.reader.part c.next_without_message.new.self.part given.0 (report_line_of c.in-Some.first) r.part given.1 given.2.placed in
    head_first (report_line_of c.in-Some.first) c.next_without_message.new.self.part (ap (λ (p : Part). next_part p (report_line_of c.in-Some.first)) (sym r.part) ∙ (ap (next_part c.in_ok-reader.reader.part) (sym is) ∙ given.2.placed))

pub loop-judging-init : goal.loop-judging-init
loop-judging-init g c =
    let r = c.in_ok-reader.ensures in
    let nothing = read_nothing (g.S.Source.left c.args.source.now) _ _ _ _ _ refl r.fresh r.room r.number r.part in
    let given = subst (λ (o : Option ReportLine). IfSome o (λ (line : ReportLine). (written : LineValue) × IsShown false written (report_line_of line) × GivesLine (left c.in_ok-reader.reader (g.S.Source.left c.args.source.now)) c.in_ok-reader.reader written (left c.next_without_message.new.self (g.S.Source.left c.next_without_message.new.source)) c.next_without_message.new.self)) c.in-Some.is c.in_ok-first.ensures.given in
    let is = first_shown c.in_ok-reader.reader.part c.next_without_message.new.self.part given.0 (report_line_of c.in-Some.first) r.part given.1 given.2.placed in
    let first = subst (λ (l : LineValue). GivesLine (left c.in_ok-reader.reader (g.S.Source.left c.args.source.now)) c.in_ok-reader.reader l (left c.next_without_message.new.self (g.S.Source.left c.next_without_message.new.source)) c.next_without_message.new.self) is given.2 in
    let j = c.in_ok-judging.ensures in
    (reached_first c.args.catalogue.now c.args.request.now.lines _ _ _ c.in_ok-reader.reader c.next_without_message.new.self (report_line_of c.in-Some.first) c.in_ok-judging.judging c.args.clauses.now nothing r.part first (subst (λ (ks : List Kept). JudgeInvariant c.args.catalogue.now c.args.request.now.lines c.in_ok-judging.judging ks (report_line_of c.in-Some.first ∷ [])) (sym c.requires.kept) j.represents) (omega (arith, j.pass)) j.long (ap length c.requires.kept) j.few c.requires.named c.requires.read, c.in_ok-first.ensures.failures)

pub returns-in_err-line-clause-fault : goal.returns-in_err-line-clause-fault
returns-in_err-line-clause-fault g c =
    let inv = c.loop-judging.invariant in
    let p = err_from_is_err_and c.from_residual-in_err-line.result c.from_residual-in_err-line.ensures.1 in
    rw (p.1, p.2) (stops c.args.catalogue.now c.args.request.now.lines _ _ _ (report_lines inv.0.report) c.loop-judging.reader inv.0.read inv.0.passed _ _ _ _ inv.1 c.in_err-line.field-0.0 c.in_err-line.ensures.fault)

pub take-requires-clause-room : goal.take-requires-clause-room
take-requires-clause-room g c =
    let inv = c.loop-judging.invariant in
    let r = c.loop-judging.reader in
    let next = c.next_without_message-in-loop-judging.new in
    let given = subst (λ (o : Option ReportLine). IfSome o (λ (line : ReportLine). (written : LineValue) × IsShown false written (report_line_of line) × GivesLine (left r (g.S.Source.left c.loop-judging.source)) r written (left next.self (g.S.Source.left next.source)) next.self)) c.in-Some-2.is c.in_ok-line.ensures.given in
    omega (arith, few_causes _ _ _ _ _ r next.self given.0 c.loop-judging.judging c.loop-judging.clauses _ inv.0 given.2, causes_shown given.0 (report_line_of c.in-Some-2.line) given.1, inv.0.counted)

pub take-requires-clause-named : goal.take-requires-clause-named
take-requires-clause-named g c =
    let inv = c.loop-judging.invariant in
    let r = c.loop-judging.reader in
    let next = c.next_without_message-in-loop-judging.new in
    let given = subst (λ (o : Option ReportLine). IfSome o (λ (line : ReportLine). (written : LineValue) × IsShown false written (report_line_of line) × GivesLine (left r (g.S.Source.left c.loop-judging.source)) r written (left next.self (g.S.Source.left next.source)) next.self)) c.in-Some-2.is c.in_ok-line.ensures.given in
    omega (arith, few_causes _ _ _ _ _ r next.self given.0 c.loop-judging.judging c.loop-judging.clauses _ inv.0 given.2, causes_shown given.0 (report_line_of c.in-Some-2.line) given.1, inv.0.named)

pub returns-then-not-branch-clause-verdict : goal.returns-then-not-branch-clause-verdict
returns-then-not-branch-clause-verdict g c =
    let inv = c.loop-judging.invariant in
    let r = c.loop-judging.reader in
    let next = c.next_without_message-in-loop-judging.new in
    let given = subst (λ (o : Option ReportLine). IfSome o (λ (line : ReportLine). (written : LineValue) × IsShown false written (report_line_of line) × GivesLine (left r (g.S.Source.left c.loop-judging.source)) r written (left next.self (g.S.Source.left next.source)) next.self)) c.in-Some-2.is c.in_ok-line.ensures.given in
    let fails = sym (passes_shown given.0 (report_line_of c.in-Some-2.line) given.1 c.args.catalogue.now c.args.request.now.lines (report_lines inv.0.report)) ∙ (sym (c.in_ok-take.ensures.answer (report_lines inv.0.report) inv.0.represents) ∙ c.if-not-branch.true) in
    refused_here c.args.catalogue.now c.args.request.now.lines _ _ (report_lines inv.0.report) r.part r.number r.lines.room c.loop-judging.number inv.0.read inv.0.passed inv.0.next_line
    (line_refused c.args.catalogue.now c.args.request.now.lines (report_lines inv.0.report) _ _ r next.self given.0 given.2 fails)

pub loop-judging-preserved : goal.loop-judging-preserved
loop-judging-preserved g c =
    let inv = c.loop-judging.invariant in
    let r = c.loop-judging.reader in
    let next = c.next_without_message-in-loop-judging.new in
    let given = subst (λ (o : Option ReportLine). IfSome o (λ (line : ReportLine). (written : LineValue) × IsShown false written (report_line_of line) × GivesLine (left r (g.S.Source.left c.loop-judging.source)) r written (left next.self (g.S.Source.left next.source)) next.self)) c.in-Some-2.is c.in_ok-line.ensures.given in
    let l = report_line_of c.in-Some-2.line in
    let catalogue = c.args.catalogue.now in
    let request = c.args.request.now.lines in
    let readings = c.loop-judging.clauses.readings in
    let t = c.in_ok-take.ensures in
    let fine = c.if-not-branch.false in
    let lines = report_lines inv.0.report in
    let causes = causes_shown given.0 l given.1 in
    let head = head_shown given.0 l given.1 (is_no_head catalogue request _ _ _ r next.self given.0 c.loop-judging.judging c.loop-judging.clauses c.loop-judging.number inv.0 given.2) in (
      reached_more catalogue request _ _ _ r next.self given.0 c.loop-judging.judging c.loop-judging.clauses c.loop-judging.number inv.0 given.2 c.take.new.judging c.take.new.clauses
          (sym (passes_shown given.0 l given.1 catalogue request lines) ∙ (sym (t.answer lines inv.0.represents) ∙ fine))
          (invariant_shown given.0 l given.1 catalogue request lines c.take.new.judging c.take.new.clauses.kept (t.represents fine lines head (refusal_kept inv.0.report l) inv.0.represents))
          (t.later fine) (t.long fine) (t.count fine) (t.few fine)
          (t.named fine ∙ ap (λ n. readings.named + n) causes) (t.read fine ∙ ap (λ n. readings.read + n) causes),
      c.in_ok-line.ensures.failures ∙ inv.1,
    )

pub returns-then-branch-clause-verdict : goal.returns-then-branch-clause-verdict
returns-then-branch-clause-verdict g c = λ text e.
    let inv = c.loop-judging.invariant in
    let r = c.loop-judging.reader in
    let end = subst (λ (o : Option ReportLine). IfNone o (IsAtEnd (left r (g.S.Source.left c.loop-judging.source)) × IsTrue (may_end r.part))) c.in_default-2.is c.in_ok-line.ensures.end in
    let ends = subst (λ (b : Bool). DecidesEnd c.args.catalogue.now c.args.request.now.lines (report_lines inv.0.report) b) c.if-branch.true (c.in_ok-may_end.ensures inv.0.report inv.0.represents) in
    (inv.0.report, upheld _ _ _ _ r c.loop-judging.judging c.loop-judging.clauses _ inv.0 end.0 end.1 ends text e)

pub returns-then-branch-clause-counted : goal.returns-then-branch-clause-counted
returns-then-branch-clause-counted g c = λ text e.
    let inv = c.loop-judging.invariant in
    let r = c.loop-judging.reader in
    let end = subst (λ (o : Option ReportLine). IfNone o (IsAtEnd (left r (g.S.Source.left c.loop-judging.source)) × IsTrue (may_end r.part))) c.in_default-2.is c.in_ok-line.ensures.end in
    let ends = subst (λ (b : Bool). DecidesEnd c.args.catalogue.now c.args.request.now.lines (report_lines inv.0.report) b) c.if-branch.true (c.in_ok-may_end.ensures inv.0.report inv.0.represents) in
    let u = upheld _ _ _ _ r c.loop-judging.judging c.loop-judging.clauses _ inv.0 end.0 end.1 ends text e in
    (inv.0.report, u.report, u.is, inv.0.named, inv.0.counted)

pub returns-clause-verdict : goal.returns-clause-verdict
returns-clause-verdict g c =
    let inv = c.loop-judging.invariant in
    let r = c.loop-judging.reader in
    let end = subst (λ (o : Option ReportLine). IfNone o (IsAtEnd (left r (g.S.Source.left c.loop-judging.source)) × IsTrue (may_end r.part))) c.in_default-2.is c.in_ok-line.ensures.end in
    let ends = subst (λ (b : Bool). DecidesEnd c.args.catalogue.now c.args.request.now.lines (report_lines inv.0.report) b) c.if-branch.false (c.in_ok-may_end.ensures inv.0.report inv.0.represents) in
    refused_here c.args.catalogue.now c.args.request.now.lines _ _ (report_lines inv.0.report) r.part r.number r.lines.room c.loop-judging.number inv.0.read inv.0.passed inv.0.next_line
    (end_refused c.args.catalogue.now c.args.request.now.lines (report_lines inv.0.report) r.part _ end.0 ends)
