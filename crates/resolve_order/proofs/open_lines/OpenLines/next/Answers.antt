use Rattle.std.proofs.Common.{inl, inr, length, subst}
use Rattle.std.proofs.lemmas.Option.{slice_get_within}
use Rattle.resolvo_catalogue_core.specs.Listed.{listed}
use Rattle.resolve_order.specs.Order.{line_named}
use Rattle.resolve_order.specs.View.{reason_of}
use Rattle.resolve_order.specs.Kept.{IsLineState}
use Rattle.resolve_order.proofs.OpenLemmas.{line_closed, first_gives, nothing_found}
use Rattle.resolve_order.proofs.open_lines.OpenLines.next.Goals as goal

pub loop-line-preserved-in-Continue-1 : goal.loop-line-preserved-in-Continue-1
loop-line-preserved-in-Continue-1 c = λ all entries holds h.
    let catalogue = c.args.catalogue.now in
    let request = c.args.request.now.lines in
    let first = c.in-Some.ensures.first in
    let line = line_named catalogue request (reason_of (listed catalogue) c.in-Some.reason) in
    let spent = subst (IsLineState catalogue all entries line) c.in-Spent.is (c.state_at.ensures.state all entries holds) in
    let done = c.in_ok-close_spent-in-Spent.ensures in
    line_closed catalogue request all entries c.args.lines.now c.loop-line.self c.close_spent.new.self c.in-Some.line c.in-Some.reason c.in-Some.ensures.at (done.closes first) (inl (record { is_spent = spent; kept = inl (done.closed first) }))
    (c.loop-line.invariant all entries holds h)

pub loop-line-preserved : goal.loop-line-preserved
loop-line-preserved c = λ all entries holds h.
    let catalogue = c.args.catalogue.now in
    let request = c.args.request.now.lines in
    let first = c.in-Some.ensures.first in
    let line = line_named catalogue request (reason_of (listed catalogue) c.in-Some.reason) in
    let waits = subst (IsLineState catalogue all entries line) c.in-Waiting.is (c.state_at.ensures.state all entries holds) in
    let done = c.in_ok-close_waiting-in-Waiting.ensures in
    line_closed catalogue request all entries c.args.lines.now c.loop-line.self c.close_waiting.new.self c.in-Some.line c.in-Some.reason c.in-Some.ensures.at (done.closes first)
    (inr (record { waits = waits; kept = λ ss condition is. done.kept ss condition is first })) (c.loop-line.invariant all entries holds h)

pub close_waiting-requires : goal.close_waiting-requires
close_waiting-requires c = c.in-Some.ensures.small

pub loop-line-smaller : goal.loop-line-smaller
loop-line-smaller c = (c.in_ok-close_waiting-in-Waiting.ensures.closes c.in-Some.ensures.first).fewer (length c.args.lines.now) (slice_get_within c.args.lines.now c.in-Some.line c.in-Some.reason c.in-Some.ensures.at)

pub returns-in-Gives-clause-found : goal.returns-in-Gives-clause-found
returns-in-Gives-clause-found c = λ all entries holds are h.
    let catalogue = c.args.catalogue.now in
    let request = c.args.request.now.lines in
    let line = line_named catalogue request (reason_of (listed catalogue) c.in-Some.reason) in
    first_gives catalogue request all entries c.args.lines.now c.loop-line.self c.in-Some.line c.in-Some.reason c.in-Gives.version c.in-Some.ensures.first c.in-Some.ensures.at are (c.loop-line.invariant all entries holds h)
    (subst (IsLineState catalogue all entries line) c.in-Gives.is (c.state_at.ensures.state all entries holds))

pub returns-clause-found : goal.returns-clause-found
returns-clause-found c = λ all entries holds are h.
    let idle = c.loop-line.invariant all entries holds h in
    nothing_found c.args.catalogue.now c.args.request.now.lines all entries c.args.lines.now c.loop-line.self (c.first.ensures.none c.in_default.is idle.within) are idle
