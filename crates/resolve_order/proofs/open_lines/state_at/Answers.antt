use Rattle.std.proofs.Common.{sym, subst}
use Rattle.resolvo_catalogue_core.specs.Listed.{listed}
use Rattle.resolve_order.specs.Order.{line_named}
use Rattle.resolve_order.specs.View.{reason_of}
use Rattle.resolve_order.specs.Kept.{IsLineState}
use Rattle.resolve_order.specs.Need.{IsNeedAt}
use Rattle.resolve_order.proofs.PickLemmas.{no_need}
use Rattle.resolve_order.proofs.open_lines.state_at.Goals as goal

pub returns-in-Some-clause-state : goal.returns-in-Some-clause-state
returns-in-Some-clause-state c =
    let lines = c.args.catalogue.now in
    let line = line_named lines c.args.request.now.lines (reason_of (listed lines) c.args.reason) in
    let named = subst (IsNeedAt line) c.in-Some.is c.need_named.ensures.need in
    λ all entries holds. subst (λ l. IsLineState lines all entries l c.need_state.result) (sym named) (c.need_state.ensures.state all entries holds)

pub returns-in-None-clause-state : goal.returns-in-None-clause-state
returns-in-None-clause-state c = λ all entries holds.
    let lines = c.args.catalogue.now in
    let line = line_named lines c.args.request.now.lines (reason_of (listed lines) c.args.reason) in
    no_need all entries line (subst (IsNeedAt line) c.in-None.is c.need_named.ensures.need)
