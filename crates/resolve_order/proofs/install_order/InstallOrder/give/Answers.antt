use Rattle.resolvo_catalogue_core.specs.Listed.{listed}
use Rattle.resolve_order.specs.Kept.{entries_in, package_at}
use Rattle.resolve_order.proofs.GiveLemmas.{listing_more, entry_package}
use Rattle.resolve_order.proofs.OpenLemmas.{entry_added}
use Rattle.resolve_order.proofs.install_order.InstallOrder.give.Goals as goal

pub returns-clause-listing : goal.returns-clause-listing
returns-clause-listing c = λ request chosen seen v at in_chosen h.
    let catalogue = c.args.catalogue.now in
    let x = c.args.self.now in
    let n = c.args.entry.version in
    let holds = c.in_ok-mark.ensures.marked chosen (entries_in catalogue x) v at in_chosen h.holds in
    let opened = c.in_ok-open_waiting.ensures in
    listing_more catalogue request chosen seen x _ c.args.entry v c.lines_of.result.now at c.in_ok-push.ensures.items c.in_ok-push_lines.ensures c.lines_of.ensures holds
    (entry_added catalogue request seen (entries_in catalogue x) x.lines.items x.open_lines c.open_waiting.new.self n.0 (package_at (listed catalogue) n.0) v (entry_package (listed catalogue) n.0 v at) opened.opened opened.below opened.closed opened.spent h.idle)
    h
