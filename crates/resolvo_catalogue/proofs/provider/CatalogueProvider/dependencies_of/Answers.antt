use Rattle.std.proofs.Common.{◌≡◌, ◌∙◌, sym, ap, subst}
use Rattle.std.specs.Prelude.{IfOk, slice_index_or}
use Rattle.resolvo_catalogue_core.specs.LinesByVersion.{kept_of}
use Rattle.resolvo_catalogue.specs.Dependencies.{VersionDependencies, deps_of, no_lines}
use Rattle.resolvo_catalogue.specs.Provider.{Provider, deps_at}
use Rattle.resolvo_catalogue.specs.Tabled.{deps_by}
use Rattle.resolvo_catalogue.proofs.TableLemmas.{deps_at_place}
use Rattle.resolvo_catalogue.proofs.provider.CatalogueProvider.dependencies_of.Goals as goal

pub returns : goal.returns
returns c =
    let k = c.self.inside.kept in
    let n = c.args.solvable.raw in
    let is : deps_by k.rules c.lines_of-lines.result.now ≡ deps_at c.args.self.now c.args.solvable
    = ap (deps_by k.rules) (c.lines_of-lines.ensures ∙ ap (kept_of k.owned) c.version_of.ensures) ∙ sym (deps_at_place k n) ∙ ap (λ (p : Provider). slice_index_or p.deps n no_lines) c.self.view_is in
    subst (λ (x : VersionDependencies). IfOk c.of_lines.result (λ deps. deps_of deps ≡ x)) is c.of_lines.ensures
