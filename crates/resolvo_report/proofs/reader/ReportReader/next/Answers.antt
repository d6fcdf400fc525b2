use Rattle.std.proofs.Common.{subst}
use Rattle.std.proofs.lemmas.Result.{IfOk-weaker}
use Rattle.std.proofs.lemmas.Option.{IfSome_then}
use Rattle.resolvo_report.specs.Value.{ReportLine}
use Rattle.resolvo_report.specs.Stream.{left, GivesLine}
use Rattle.resolvo_report.proofs.reader.ReportReader.next.Goals as goal

pub returns-clause-given : goal.returns-clause-given
returns-clause-given g c = IfOk-weaker c.take.result _ _
    (λ next h. IfSome_then next h (λ line t.
    subst (λ (l : ReportLine). GivesLine (left c.args.self.now (g.S.Source.left c.args.source.now)) c.args.self.now l (left c.take.new.self (g.S.Source.left c.take.new.source)) c.take.new.self) t.1 t.2))
    c.take.ensures.given
