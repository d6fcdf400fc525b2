use Rattle.std.proofs.Common.{◌∙◌, Some, refl, sym}
use Rattle.resolvo_catalogue_core.specs.Listed.{listed}
use Rattle.resolve_order.proofs.PackageLemmas.{puts_at}
use Rattle.resolve_order.proofs.PickLemmas.{adds, adds_none, adds_listed}
use Rattle.resolve_order.proofs.chosen.Chosen.add.Goals as goal

pub returns-then-not-is_unlisted : goal.returns-then-not-is_unlisted
returns-then-not-is_unlisted c = λ chosen entries h. adds_listed c.args.catalogue.now c.args.self.now chosen entries c.args.version (sym c.is_unlisted.ensures ∙ c.if-not-is_unlisted.true) h

pub returns-in_ok-push : goal.returns-in_ok-push
returns-in_ok-push c = λ chosen entries h.
    let lines = c.args.catalogue.now in
    let place = c.in-Some.place in
    let at = c.in-Some.ensures in
    adds lines c.args.self.now _ chosen entries c.args.version at.0 at.1 (sym c.is_unlisted.ensures ∙ c.if-not-is_unlisted.false)
    (puts_at (listed lines) at.0 place.0 place.1 (Some c.args.version) c.args.self.now.unlisted c.add.new.self at.2 at.3 c.in_ok-add.ensures) refl refl refl c.in_ok-push.ensures.items h

pub returns-in_default : goal.returns-in_default
returns-in_default c = λ chosen entries h. adds_none c.args.catalogue.now c.args.self.now chosen entries c.args.version c.in_default.ensures h
