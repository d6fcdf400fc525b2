-- A provider covers its catalogue: the dependencies of each version, and the values of ids.
use Rattle.std.proofs.Common.{◌≡◌, ℕ, List, [], ◌∷◌, map, Some, refl, ap, ◌∙◌}
use Rattle.std.specs.Prelude.{slice_get}
use Rattle.std.proofs.lemmas.Option.{get_or_from_slice_get}
use Rattle.resolvo_text.specs.Line.{Spec, Line}
use Rattle.resolvo_pool_core.specs.declared.id.VersionSetId.{VersionSetId}
use Rattle.resolvo_pool_core.specs.declared.requirement.Requirement.{Requirement}
use Rattle.resolvo_pool_core.specs.declared.requirement.Requirement.TheVariants.{Single, Union}
use Rattle.resolvo_catalogue.specs.Ids.{Ids, IsSpec, AreAlternatives, Grows}
use Rattle.resolvo_terms.specs.Terms.{AreEach}
use Rattle.resolvo_catalogue.specs.Known.{set_at, spec_at, alternatives_at}
use Rattle.resolvo_catalogue.specs.Dependencies.{VersionDependencies}
use Rattle.resolvo_catalogue.specs.Over.{AreDependenciesAt}
use Rattle.resolvo_catalogue.proofs.DependencyLemmas.{deps_of_stay}

-- ---- the value of an id is the one that the provider gives

pub spec_is : (ids : Ids) (v : VersionSetId) (s : Spec) → IsSpec ids v s → spec_at ids v ≡ s
spec_is ids v s h =
    let set : set_at ids v ≡ (h.0, record { 0 = s.span }) = get_or_from_slice_get ids.version_sets v.0 _ _ h.1 in
    rw (set, get_or_from_slice_get ids.names h.0.raw s.name [] h.2) refl

specs_are : (ids : Ids) (vs : List VersionSetId) (ss : List Spec) → AreEach (IsSpec ids) vs ss → map (spec_at ids) vs ≡ ss
specs_are ids [] [] h = refl
specs_are ids [] (s ∷ ss) h = absurd h
specs_are ids (v ∷ vs) [] h = absurd h
specs_are ids (v ∷ vs) (s ∷ ss) h = ap (λ (x : Spec). x ∷ map (spec_at ids) vs) (spec_is ids v s h.0) ∙ ap (λ (xs : List Spec). s ∷ xs) (specs_are ids vs ss h.1)

pub alternatives_are : (ids : Ids) (r : Requirement) (ss : List Spec) → AreAlternatives ids r ss → alternatives_at ids r ≡ ss
alternatives_are ids (Single v) ss h = specs_are ids (v ∷ []) ss h
alternatives_are ids (Union u) ss h =
    ap (map (spec_at ids)) (get_or_from_slice_get ids.unions u.0 h.0 [] h.1) ∙ specs_are ids h.0 ss h.2

-- ---- the dependencies of each version

deps_at_stay : (a b : Ids) → Grows a b → (lines : List Line) (k : ℕ) (t : VersionDependencies) → AreDependenciesAt a lines k t → AreDependenciesAt b lines k t
deps_at_stay a b grows lines k t h = (h.0, h.1, deps_of_stay a b grows _ t h.2)

pub deps_stay : (a b : Ids) → Grows a b → (lines : List Line) (deps : List VersionDependencies) → ((k : ℕ) (t : VersionDependencies) → slice_get deps k ≡ Some t → AreDependenciesAt a lines k t) → (k : ℕ) (t : VersionDependencies) → slice_get deps k ≡ Some t → AreDependenciesAt b lines k t
deps_stay a b grows lines deps h k t e = deps_at_stay a b grows lines k t (h k t e)
