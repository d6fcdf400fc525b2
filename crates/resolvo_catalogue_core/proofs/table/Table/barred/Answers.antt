use Rattle.std.proofs.Common.{◌≡◌, ◌∙◌, Option, None, Some, sym, ap}
use Rattle.std.specs.Prelude.{slice_get}
use Rattle.std.specs.Option.{option_map}
use Rattle.std.proofs.lemmas.Option.{slice_get-map}
use Rattle.resolvo_catalogue_core.specs.Listed.{kept_version}
use Rattle.resolvo_catalogue_core.specs.Table.{lines_in, versions_in}
use Rattle.resolvo_catalogue_core.specs.declared.versions.KeptVersion.{KeptVersion}
use Rattle.resolvo_catalogue_core.proofs.ForbidLemmas.{forbidden_version, forbidden_none}
use Rattle.resolvo_catalogue_core.proofs.KeptLemmas.{package_called}
use Rattle.resolvo_catalogue_core.proofs.table.Table.barred.Goals as goal

pub returns-in-Some : goal.returns-in-Some
returns-in-Some c =
    let t = c.args.self.now in
    let k = c.args.version.0 in
    let version = kept_version t.terms.names in
    let v = version c.in-Some.kept in
    let there = sym c.kept_at.ensures ∙ c.in-Some.is in
    let at : slice_get (versions_in t) k ≡ Some v = slice_get-map version t.versions.items k ∙ ap (λ (o : Option KeptVersion). option_map version o) there in
    forbidden_version (versions_in t) (lines_in t) v k c.forbidden_as.result at (c.forbidden_as.ensures v at (package_called t c.requires k c.in-Some.kept there))

pub returns-in-None : goal.returns-in-None
returns-in-None c =
    let t = c.args.self.now in
    let k = c.args.version.0 in
    let version = kept_version t.terms.names in
    let at : slice_get (versions_in t) k ≡ None = slice_get-map version t.versions.items k ∙ ap (λ (o : Option KeptVersion). option_map version o) (sym c.kept_at.ensures ∙ c.in-None.is) in
    forbidden_none (versions_in t) (lines_in t) k at
