use Rattle.resolvo_text.specs.Matches.{Set}
use Rattle.resolve_order.specs.Kept.{IsListing, Extends, unlisted}
use Rattle.resolve_order.proofs.install_order.InstallOrder.finish.Given as goal

abbrev pub invariant-loop-entry : goal.invariant-loop-entry
invariant-loop-entry l = (chosen : Set) → IsListing l.catalogue l.request.lines l.initial.self chosen chosen → Extends l.catalogue l.request.lines chosen l.initial.self l.self

abbrev pub decreases-loop-entry : goal.decreases-loop-entry
decreases-loop-entry l = unlisted l.self.chosen.listed.items
