use Rattle.std.proofs.Common.{◌≡◌, ◌∙◌, sym, subst}
use Rattle.std.proofs.lemmas.List.{append-nil}
use Rattle.resolvo_catalogue_core.specs.Listed.{listed}
use Rattle.resolve_order.specs.Order.{line_named}
use Rattle.resolve_order.specs.View.{reason_of}
use Rattle.resolve_order.specs.Kept.{IsKeptByNeeds}
use Rattle.resolve_order.specs.declared.entry.Reason.{Reason}
use Rattle.resolve_order.proofs.NeedLemmas.{same_some, not_some}
use Rattle.resolve_order.proofs.OpenLemmas.{one_kept, same_closed}
use Rattle.resolve_order.proofs.open_lines.OpenLines.keep_closed.Goals as goal

pub loop-line-preserved-in-Continue-1 : goal.loop-line-preserved-in-Continue-1
loop-line-preserved-in-Continue-1 c = λ all entries h.
    let catalogue = c.args.catalogue.now in
    let request = c.args.request.now.lines in
    one_kept catalogue request all entries c.args.lines.now c.loop-line.self c.in-Some.line c.pop.new.self c.keep_alternatives.new.spent c.in-Some.ensures.items c.in_ok-keep_alternatives.ensures.kept
    (λ r at.
    let same : c.in-Some-line_at.reason ≡ r = same_some _ c.in-Some-line_at.reason r (sym c.line_at.ensures ∙ c.in-Some-line_at.is) at in
    subst (λ (s : Reason). IsKeptByNeeds (listed catalogue) c.keep_alternatives.new.spent c.in-Some.line (line_named catalogue request (reason_of (listed catalogue) s))) same c.in_ok-keep_alternatives.ensures.added)
    (c.loop-line.invariant all entries h)

pub loop-line-preserved : goal.loop-line-preserved
loop-line-preserved c = λ all entries h.
    one_kept c.args.catalogue.now c.args.request.now.lines all entries c.args.lines.now c.loop-line.self c.in-Some.line c.pop.new.self c.loop-line.self.spent c.in-Some.ensures.items (λ p i k. k)
    (λ r at. absurd (not_some _ r (sym c.line_at.ensures ∙ c.in_default-line_at.is) at)) (c.loop-line.invariant all entries h)

pub returns-clause-idle : goal.returns-clause-idle
returns-clause-idle c = λ all entries h.
    same_closed c.args.catalogue.now c.args.request.now.lines all entries c.args.lines.now c.loop-line.self c.pop.new.self (c.in_default.ensures.items ∙ append-nil c.pop.new.self.items) (c.loop-line.invariant all entries h)
