use Rattle.std.proofs.Common.{◌∙◌, sym}
use Rattle.resolvo_text.specs.View.{version_of}
use Rattle.resolvo_catalogue_core.proofs.Sorted.{updates_number}
use Rattle.resolvo_catalogue_core.specs.Listed.{listed}
use Rattle.resolvo_catalogue_core.proofs.AskSteps.{wish, wish_placed, wished_twice}
use Rattle.resolvo_catalogue_core.proofs.request_lines.RequestLines.wish.Goals as goal

pub returns-then-is_wished-clause-fault : goal.returns-then-is_wished-clause-fault
returns-then-is_wished-clause-fault c = λ e. wished_twice c.args.catalogue.now c.args.self.now c.requires.asks (version_of c.args.version) c.in_ok-number.number.0 c.in_ok-number.ensures.found (sym c.is_wished.ensures ∙ c.if-is_wished.true)

pub returns-clause-placed : goal.returns-clause-placed
returns-clause-placed c = wish_placed c.args.catalogue.now c.args.self.now c.requires.asks (version_of c.args.version) c.in_ok-number.number.0 c.in_ok-number.ensures.found (sym c.is_wished.ensures ∙ c.if-is_wished.false)

pub returns-clause-ok : goal.returns-clause-ok
returns-clause-ok c =
    wish (listed c.args.catalogue.now) c.listed.ensures.distinct c.args.self.now (record { asks = c.push-2.new.self; wishes = c.push.new.self; wished = c.insert.new.self }) c.args.line c.in_ok-number.number c.args.version c.requires.asks c.requires.line
    c.in_ok-number.ensures.found (sym c.is_wished.ensures ∙ c.if-is_wished.false) c.in_ok-push-2.ensures.items c.in_ok-push.ensures.items (updates_number c.in_ok-number.number.0 c.args.self.now.wished c.insert.new.self _ c.in_ok-insert.ensures.updates.0)
