use Rattle.std.proofs.Common.{◌∙◌, ◌<◌, length, Some, sym, ap, arith}
use Rattle.std.proofs.lemmas.Option.{slice_get-get_or}
use Rattle.resolvo_text.specs.Line.{Version}
use Rattle.resolvo_catalogue_core.specs.declared.versions.KeptVersion.{KeptVersion}
use Rattle.resolvo_catalogue_core.proofs.KeptLemmas.{kept_is, package_called}
use Rattle.resolvo_catalogue_core.proofs.VersionLemmas.{as_many}
use Rattle.resolvo_catalogue_core.proofs.table.Table.package_of.Goals as goal

pub returns : goal.returns
returns c = λ v listed.
    let t = c.args.self.now in
    let k = c.args.version.0 in
    let kept = c.index.result.now in
    let within : k < length t.versions.items = omega (arith, as_many t.terms.names t.versions.items, c.requires.listed) in
    let at = slice_get-get_or t.versions.items k _ within ∙ ap (λ (x : KeptVersion). Some x) (sym c.index.ensures) in
    package_called t c.requires.table k kept at ∙ ap (λ (w : Version). Some w.name) (kept_is t k kept v at listed)
