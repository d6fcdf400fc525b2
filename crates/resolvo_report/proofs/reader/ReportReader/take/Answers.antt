use Rattle.std.proofs.Common.{◌≡◌, true, Some, None, refl, sym, ap, subst, ◌∙◌}
use Rattle.resolvo_text.specs.declared.line.LineFault.{LineFault}
use Rattle.resolvo_text.specs.Parse.{Fails}
use Rattle.resolvo_text.specs.Reader.{last_line}
use Rattle.resolvo_report.specs.View.{report_line_of}
use Rattle.resolvo_report.specs.Grammar.{next_part}
use Rattle.resolvo_report.specs.Parse.{line_read}
use Rattle.resolvo_report.proofs.ShownLemmas.{part_shown}
use Rattle.resolvo_report.proofs.StreamLemmas.{unread_stops, misplaced_stops, line_taken}
use Rattle.resolvo_report.proofs.reader.ReportReader.take.Goals as goal

pub returns-in-Err-Fault-line_shown-clause-fault : goal.returns-in-Err-Fault-line_shown-clause-fault
returns-in-Err-Fault-line_shown-clause-fault g c =
    let whole : c.next_line.new.self.whole ≡ true = sym c.is_whole.ensures ∙ c.if-not-is_whole.false in
    let fails : line_read c.line.result.now ≡ None = subst (λ (e : LineFault). Fails e (line_read c.line.result.now)) c.in-Err-Fault-line_shown.field-0-is c.in-Err-Fault-line_shown.ensures in
    (refl, unread_stops c.args.self.now.part _ _ (last_line c.next_line.new.self) c.next_line.new.self.whole _ _ whole (c.in-Ok.ensures.ending c.if-not-more.false) (ap line_read (sym c.line.ensures) ∙ fails))

pub returns-in_default-clause-fault : goal.returns-in_default-clause-fault
returns-in_default-clause-fault g c =
    let whole : c.next_line.new.self.whole ≡ true = sym c.is_whole.ensures ∙ c.if-not-is_whole.false in
    let shown = c.in-Ok-line_shown.ensures in
    let read : line_read (last_line c.next_line.new.self) ≡ Some shown.0 = ap line_read (sym c.line.ensures) ∙ shown.1 in
    let placed : next_part c.args.self.now.part shown.0 ≡ next_part c.args.self.now.part (report_line_of c.in-Ok-line_shown.line) = part_shown c.args.keeps c.args.self.now.part shown.0 (report_line_of c.in-Ok-line_shown.line) shown.2 in
    (refl, misplaced_stops c.args.self.now.part _ _ (last_line c.next_line.new.self) shown.0 c.next_line.new.self.whole _ _ whole (c.in-Ok.ensures.ending c.if-not-more.false) read (placed ∙ (sym c.next.ensures ∙ c.in_default.is)))

pub returns-clause-given : goal.returns-clause-given
returns-clause-given g c =
    let whole : c.next_line.new.self.whole ≡ true = sym c.is_whole.ensures ∙ c.if-not-is_whole.false in
    let shown = c.in-Ok-line_shown.ensures in
    let read : line_read (last_line c.next_line.new.self) ≡ Some shown.0 = ap line_read (sym c.line.ensures) ∙ shown.1 in
    let placed : next_part c.args.self.now.part shown.0 ≡ next_part c.args.self.now.part (report_line_of c.in-Ok-line_shown.line) = part_shown c.args.keeps c.args.self.now.part shown.0 (report_line_of c.in-Ok-line_shown.line) shown.2 in
    let t = line_taken _ _ (last_line c.next_line.new.self) shown.0 c.next_line.new.self.whole _ _ whole (c.in-Ok.ensures.ending c.if-not-more.false) read in
    (shown.0, shown.2, record { bytes = t.bytes; text = t.text; placed = placed ∙ (sym c.next.ensures ∙ c.in-Some.is); number = refl; room = t.used })
