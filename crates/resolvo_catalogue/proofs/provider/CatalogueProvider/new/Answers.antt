use Rattle.std.proofs.Common.{List, subst}
use Rattle.resolvo_text.specs.Line.{Line}
use Rattle.resolvo_catalogue_core.specs.Listed.{listed, AreDistinct}
use Rattle.resolvo_catalogue.specs.Ids.{AreVersions}
use Rattle.resolvo_catalogue.specs.Over.{AreDependencies}
use Rattle.resolvo_catalogue.specs.Tabled.{deps_in}
use Rattle.resolvo_catalogue.proofs.CountLemmas.{count_over}
use Rattle.resolvo_catalogue.proofs.ListLemmas.{versions_are}
use Rattle.resolvo_catalogue.proofs.TableLemmas.{deps_are}
use Rattle.resolvo_catalogue.proofs.provider.CatalogueProvider.new.Goals as goal

pub returns-clause-over : goal.returns-clause-over
returns-clause-over c =
    let ids = c.over-ids.result in
    let k = c.kept-kept.result in
    let terms = c.over-ids.ensures.terms in
    let same = c.kept-kept.ensures in
    record {
      versions = subst (λ (ls : List Line). AreVersions ids (listed ls)) same (versions_are ids k c.lines_are_kept.ensures terms c.over-ids.ensures.solvables);
      deps = subst (λ (ls : List Line). AreDependencies ids ls (deps_in k)) same (deps_are ids k c.lines_are_kept.ensures terms);
      marks = c.in_ok-marks.ensures.marked ids terms;
      many = c.in_ok-many.ensures.many;
      once = c.ids_are_once.ensures;
      distinct = subst (λ (ls : List Line). AreDistinct (listed ls)) same c.lines_are_kept.ensures.distinct;
      grammatical = c.lines_are_in_place.ensures;
    }

pub returns-clause-few : goal.returns-clause-few
returns-clause-few c =
    let ids = c.over-ids.result in
    let k = c.kept-kept.result in
    count_over ids k c.args.catalogue.now c.lines_are_kept.ensures c.over-ids.ensures.terms (versions_are ids k c.lines_are_kept.ensures c.over-ids.ensures.terms c.over-ids.ensures.solvables) c.kept-kept.ensures
