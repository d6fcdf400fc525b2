use Rattle.std.proofs.Common.{List, [], None, sym, subst}
use Rattle.resolvo_text.specs.Line.{Line}
use Rattle.resolvo_catalogue_core.specs.Grammar.{line_at}
use Rattle.resolvo_catalogue_core.specs.Listed.{listed}
use Rattle.resolve_order.specs.Order.{line_named}
use Rattle.resolve_order.specs.View.{reason_of}
use Rattle.resolve_order.specs.Need.{IsNeedAt, IsOfAll}
use Rattle.resolve_order.proofs.NeedLemmas.{no_need_of}
use Rattle.resolve_order.proofs.open_lines.need_named.Goals as goal

pub returns-in-Some-clause-need : goal.returns-in-Some-clause-need
returns-in-Some-clause-need c =
    let (l, at, states) = c.in-Some.ensures.of_line in
    let lines = c.args.catalogue.now in
    let need = subst (λ line. IsNeedAt line c.need_of.result) (sym at) (c.need_of.ensures.need [] None l (states [])) in
    subst (λ r. IsNeedAt (line_named lines c.args.request.now.lines (reason_of (listed lines) r)) c.need_of.result) (sym c.in-ForRequest.is) need

pub returns-in-None-clause-need : goal.returns-in-None-clause-need
returns-in-None-clause-need c =
    let lines = c.args.catalogue.now in
    subst (λ r. IsNeedAt (line_named lines c.args.request.now.lines (reason_of (listed lines) r)) None) (sym c.in-ForRequest.is) (no_need_of _ c.in-None.ensures.none)

pub returns-in-Some-clause-of : goal.returns-in-Some-clause-of
returns-in-Some-clause-of c = c.need_of.ensures.of c.args.catalogue.now

pub returns-in-ForVersion-clause-need : goal.returns-in-ForVersion-clause-need
returns-in-ForVersion-clause-need c =
    let lines = c.args.catalogue.now in
    subst (λ r. IsNeedAt (line_named lines c.args.request.now.lines (reason_of (listed lines) r)) c.need_at.result) (sym c.in-ForVersion.is) (subst (λ (ls : List Line). IsNeedAt (line_at ls c.in-ForVersion.line) c.need_at.result) c.kept.ensures c.need_at.ensures.need)

pub returns-in-ForVersion-clause-of : goal.returns-in-ForVersion-clause-of
returns-in-ForVersion-clause-of c = subst (λ (ls : List Line). IsOfAll ls c.need_at.result) c.kept.ensures c.need_at.ensures.of
