use Rattle.std.proofs.Common.{◌∙◌, sym, ap}
use Rattle.std.specs.Option.{option_and_then}
use Rattle.resolvo_text.specs.Line.{Version}
use Rattle.resolvo_catalogue_core.specs.Listed.{listed}
use Rattle.resolve_order.specs.Kept.{first_of}
use Rattle.resolve_order.proofs.chosen.package_at.Goals as goal

pub returns-in-Some : goal.returns-in-Some
returns-in-Some c =
    let at = c.in-Some.ensures in
    let versions = listed c.args.catalogue.now in
    sym (ap (option_and_then (λ (v : Version). first_of versions v.name)) at.1 ∙ at.2)

pub returns-in-None : goal.returns-in-None
returns-in-None c =
    let versions = listed c.args.catalogue.now in
    sym (ap (option_and_then (λ (v : Version). first_of versions v.name)) c.in-None.ensures)
