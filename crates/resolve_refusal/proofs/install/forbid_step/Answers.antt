use Rattle.std.proofs.Common.{◌≡◌, ◌<◌, inl, Some, length, ap, ◌∙◌, subst, arith}
use Rattle.std.specs.Prelude.{slice_get}
use Rattle.std.proofs.lemmas.Option.{get_or_from_slice_get}
use Rattle.resolvo_text.specs.Line.{Version}
use Rattle.resolvo_text.specs.View.{version_of}
use Rattle.resolvo_catalogue_core.specs.Listed.{listed}
use Rattle.resolvo_report.specs.Value as in_report
use Rattle.resolve_refusal.specs.declared.lines.ForbidLine.{ForbidLine}
use Rattle.resolve_refusal.specs.Lines.{IsForbidLineOf}
use Rattle.resolve_refusal.specs.RefusedReport.{version_at}
use Rattle.resolve_refusal.proofs.InstallLemmas.{forbid_step}
use Rattle.resolve_refusal.proofs.install.forbid_step.Goals as goal

pub returns-in_ok-version_of-in-Some-Lock-clause-step : goal.returns-in_ok-version_of-in-Some-Lock-clause-step
returns-in_ok-version_of-in-Some-Lock-clause-step c =
    let catalogue = c.args.catalogue.now in
    let line = c.in-Some-Lock.line in
    let (v, at, locks) = subst (IsForbidLineOf catalogue c.args.version.0) (ap (λ (l : ForbidLine). Some l) c.in-Some-Lock.field-0-is) c.in-Some-Lock.ensures in
    let long : length catalogue < 4294967296 = omega (arith, c.line_count-lines.ensures, c.line_count-lines.type_inv) in
    let own : version_at catalogue c.from_raw.result ≡ v = get_or_from_slice_get (listed catalogue) c.from_raw.result.raw v _ (ap (slice_get (listed catalogue)) c.from_raw.ensures ∙ at) in
    let same : version_of c.in_ok-version_of-in-Some-Lock.field-0 ≡ v = c.in_ok-version_of-in-Some-Lock.ensures.version ∙ own in
    (v, at, forbid_step catalogue c.lines_are_in_place.ensures long c.args.version.0 v _ at (line, inl (ap (λ (w : Version). in_report.Lock line w) same, locks)))

pub returns-in-None-clause-step : goal.returns-in-None-clause-step
returns-in-None-clause-step c = c.in-None.ensures
