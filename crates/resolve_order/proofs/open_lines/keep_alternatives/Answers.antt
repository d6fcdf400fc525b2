use Rattle.std.proofs.Common.{subst}
use Rattle.resolvo_catalogue_core.specs.Listed.{listed}
use Rattle.resolve_order.specs.Order.{line_named}
use Rattle.resolve_order.specs.View.{reason_of}
use Rattle.resolve_order.specs.Kept.{IsKeptForAll}
use Rattle.resolve_order.specs.Need.{IsNeedAt}
use Rattle.resolve_order.proofs.NeedLemmas.{on_ok, found_need}
use Rattle.resolve_order.proofs.open_lines.keep_alternatives.Goals as goal

pub returns-in-Some-clause-added : goal.returns-in-Some-clause-added
returns-in-Some-clause-added c =
    let lines = c.args.catalogue.now in
    let line = line_named lines c.args.request.now.lines (reason_of (listed lines) c.args.reason) in
    let named = subst (IsNeedAt line) c.in-Some.is c.need_named.ensures.need in
    on_ok c.add_alternatives.result (λ added ss condition is. subst (λ xs. IsKeptForAll (listed lines) c.add_alternatives.new.self c.args.line xs) (found_need line c.in-Some.need ss condition named is).0 added) c.add_alternatives.ensures.added

pub returns-in-None-clause-added : goal.returns-in-None-clause-added
returns-in-None-clause-added c = λ ss condition is.
    let lines = c.args.catalogue.now in
    let line = line_named lines c.args.request.now.lines (reason_of (listed lines) c.args.reason) in
    let none = subst (IsNeedAt line) c.in-None.is c.need_named.ensures.need in
    absurd (none ss condition is)
