use Rattle.std.proofs.Common.{◌∙◌, List, ap, rules}
use Rattle.std.proofs.lemmas.Fn.{always_returns_same}
use Rattle.std.proofs.lemmas.List.Sorted.{IsNonDecreasingBy-from_sort_by_key}
use Rattle.resolvo_pool_core.specs.declared.id.StringId.{StringId}
use Rattle.resolvo_catalogue.specs.Ids.{SolvableId}
use Rattle.resolvo_catalogue.specs.Provider.{line_of_exclusion}
use Rattle.resolvo_catalogue.specs.Sorted.{sorted_by}
use Rattle.resolvo_catalogue.proofs.SortLemmas.{sorted_is}
use Rattle.resolvo_catalogue.proofs.provider.CatalogueProvider.excluded_of.Goals as goal

pub returns-clause-excluded : goal.returns-clause-excluded
returns-clause-excluded c =
    let line = line_of_exclusion c.args.self.now in
    sorted_is line _ _
    (IsNonDecreasingBy-from_sort_by_key line _ c.in_ok-sort_by_key.ensures.sorted (λ a r q k. search rules))
    (c.in_ok-sort_by_key.ensures.stable line (always_returns_same _ _ _ (λ a r q k. search rules)))
    ∙ ap (λ (xs : List (SolvableId × StringId)). sorted_by line xs) c.in_ok-excluded.ensures.excluded
