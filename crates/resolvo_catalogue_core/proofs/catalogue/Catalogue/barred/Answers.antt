use Rattle.std.proofs.Common.{◌≡◌, List, Some, sym, subst}
use Rattle.std.specs.Prelude.{slice_get}
use Rattle.resolvo_text.specs.Line.{Version, Line}
use Rattle.resolvo_catalogue_core.specs.Listed.{listed}
use Rattle.resolvo_catalogue_core.specs.Questions.{IsOnly, Forbids}
use Rattle.resolvo_catalogue_core.specs.Table.{lines_in}
use Rattle.resolvo_catalogue_core.proofs.catalogue.Catalogue.barred.Goals as goal

pub returns : goal.returns
returns c =
    let k = c.args.version.0 in
    let answer = subst (λ (vs : List Version). IsOnly c.barred.result (λ n. (v : Version) × (slice_get vs k ≡ Some v) × Forbids (lines_in c.self.inside.table) v n)) (sym c.self.invariant.0.listing) c.barred.ensures in
    subst (λ (ls : List Line). IsOnly c.barred.result (λ n. (v : Version) × (slice_get (listed ls) k ≡ Some v) × Forbids ls v n)) c.self.view_is answer
