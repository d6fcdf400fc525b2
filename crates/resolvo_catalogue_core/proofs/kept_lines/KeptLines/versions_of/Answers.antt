use Rattle.std.proofs.Common.{◌∙◌, ◌==◌, map, sym, ap}
use Rattle.std.specs.Prelude.{option_copied}
use Rattle.resolvo_catalogue_core.specs.Kept.{KeptLines, places_from}
use Rattle.resolvo_catalogue_core.specs.Questions.{number_of}
use Rattle.resolvo_catalogue_core.specs.Table.{numbers_in}
use Rattle.resolvo_catalogue_core.specs.declared.versions.KeptVersion.{KeptVersion}
use Rattle.resolvo_catalogue_core.proofs.KeptLemmas.{package_places}
use Rattle.resolvo_catalogue_core.proofs.kept_lines.KeptLines.versions_of.Goals as goal

pub returns-in-Some : goal.returns-in-Some
returns-in-Some c =
    let t = c.self.inside.table.now in
    let n = c.args.name.raw in
    ap (map number_of) c.versions.ensures
    ∙ ap numbers_in (sym (ap option_copied c.in-Some.is) ∙ c.get.ensures)
    ∙ package_places t c.self.invariant.0 n
    ∙ ap (λ (k : KeptLines). places_from (λ (v : KeptVersion). v.«package».raw == n) 0 k.versions) c.self.view_is

pub returns-in-None : goal.returns-in-None
returns-in-None c =
    let t = c.self.inside.table.now in
    let n = c.args.name.raw in
    ap numbers_in (sym (ap option_copied c.in-None.is) ∙ c.get.ensures)
    ∙ package_places t c.self.invariant.0 n
    ∙ ap (λ (k : KeptLines). places_from (λ (v : KeptVersion). v.«package».raw == n) 0 k.versions) c.self.view_is
