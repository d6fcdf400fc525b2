use Rattle.std.proofs.Common.{◌≡◌, List, None, subst}
use Rattle.std.specs.Prelude.{slice_get}
use Rattle.resolvo_text.specs.Line.{Version}
use Rattle.resolvo_catalogue_core.specs.Listed.{listed}
use Rattle.resolve_install.proofs.LineLemmas.{version_nowhere}
use Rattle.resolve_install.proofs.install.version_at.Goals as goal

pub returns-in-None : goal.returns-in-None
returns-in-None c =
    let all = listed c.args.catalogue.now in
    version_nowhere all c.args.version
    (subst (λ (vs : List Version). None ≡ slice_get vs c.args.version.0) c.versions.ensures.listed c.in-None.ensures)
