use Rattle.std.proofs.Common.{◌≡◌, ◌∙◌, List, [], ◌∷◌, map, take, refl, ap}
use Rattle.std.proofs.lemmas.List.{take_all}
use Rattle.resolvo_catalogue_core.specs.Questions.{number_of}
use Rattle.resolvo_catalogue_core.specs.declared.rule.VersionNo.{VersionNo}
use Rattle.resolvo_catalogue.specs.Ids.{solvable_id, solvables_of}
use Rattle.resolvo_catalogue.specs.Provider.{Provider}
use Rattle.resolvo_catalogue.proofs.ListLemmas.{solvables_are}
use Rattle.resolvo_catalogue.proofs.provider.CatalogueProvider.versions_of.Goals as goal

by_numbers : (vs : List VersionNo) → map (λ (v : VersionNo). solvable_id v.0) vs ≡ map solvable_id (map number_of vs)
by_numbers [] = refl
by_numbers (v ∷ vs) = rw (by_numbers vs) refl

pub returns-clause-versions : goal.returns-clause-versions
returns-clause-versions c =
    let vs = c.versions_of-versions.result.now in
    let all : take c.loop-version.version-index vs ≡ vs = take_all c.loop-version.version-index vs c.loop-version-test.false in
    c.loop-version.invariant ∙ ap (map (λ (v : VersionNo). solvable_id v.0)) all ∙ by_numbers vs ∙ ap (map solvable_id) c.versions_of-versions.ensures ∙ solvables_are c.self.inside.ids c.self.inside.kept.versions c.args.name.raw c.self.invariant
    ∙ ap (λ (p : Provider). solvables_of p.ids c.args.name.raw) c.self.view_is
