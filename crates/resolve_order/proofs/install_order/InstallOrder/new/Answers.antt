use Rattle.resolve_order.proofs.GiveLemmas.{no_entries}
use Rattle.resolve_order.proofs.install_order.InstallOrder.new.Goals as goal

pub returns-clause-listing : goal.returns-clause-listing
returns-clause-listing c = no_entries c.args.catalogue.now c.args.request.now.lines _ c.line_count.result c.new-3.ensures.items c.in_ok-request_lines.ensures c.line_count.ensures c.new-2.ensures.again c.new-2.ensures.below c.in_ok-new.ensures
