-- A deferred case becomes a clause, or its matches do.
use Rattle.std.proofs.Common.{◌≡◌, ℕ, Bool, true, List, Some, sym, ◌∙◌, subst}
use Rattle.std.specs.Prelude.{Contains, slice_get}
use Rattle.resolvo_pool_core.specs.declared.id.VersionSetId.{VersionSetId}
use Rattle.resolvo_pool_core.specs.declared.requirement.Requirement.{Requirement}
use Rattle.resolvo_pool_core.specs.RuleKeeping.{Packages, Rules, is_match, rules_for}
use Rattle.resolvo_store_core.specs.AtMostOne.{IsPrefixOf}
use Rattle.resolvo_store_core.specs.Deferred.{version_set_of, candidates_of}
use Rattle.resolvo_packages.specs.declared.package_source.PackageSource as source
use Rattle.resolvo_sat.specs.RuleClauses.{IsExact, cases_for, AreMatched}
use Rattle.resolvo_sat.specs.SearchEnd.{IsNeedEncoded}
use Rattle.resolvo_sat.proofs.Lists.{map_contains}
use Rattle.resolvo_sat.proofs.Members.{contained_in}
use Rattle.resolvo_state.proofs.Positions.{prefix_get}
use Rattle.resolvo_encoder.specs.declared.conditions.ConditionSet.{ConditionSet}
use Rattle.resolvo_encoder.specs.declared.encoder.Deferred.{Deferred}
use Rattle.resolvo_encoder.specs.declared.encoder.Encoder.{Encoder}
use Rattle.resolvo_encoder.specs.Conditions.{case_of, sets_case, AreSets, IsMatching, Fires, IsMetNow}
use Rattle.resolvo_encoder.specs.Encoded.{rules_of, IsEncoding}
use Rattle.resolvo_encoder.proofs.RequireLemmas.{each_of, some_one}
use Rattle.resolvo_turn.specs.Effects.{RequiresCase, RequiresDeferred}
use Rattle.resolvo_turn.specs.Encoder.{IsInOrder, StaysInOrder}
use Rattle.resolvo_turn.specs.Matches.{MatchesCase}
use Rattle.resolvo_turn.proofs.AddLemmas.{fires_in_order}

module _ {N S : Type 0} (same : S → S → Bool) (p : Packages N S) (orders : Requirement → List S → Type 0) (root : Rules) (index : ℕ) (e : Encoder N S) (d : Deferred S) where
  -- the deferred case is one of its parent's requirement
  pub waiting_listed : slice_get e.deferred.items index ≡ Some d → IsInOrder same p orders root e → Contains (rules_for same p root d.parent).requirements d.need
  waiting_listed at order = (order.encoding.cases.waiting index d at).listed

  -- each version set of a case has a match, where one of its candidates is chosen
  met_matched : IsExact same → slice_get e.deferred.items index ≡ Some d → IsMetNow e index → IsInOrder same p orders root e → AreMatched same p (case_of d.conjuncts.items)
  met_matched exact at met order = λ v h.
      let of = order.encoding.cases.waiting index d at in
      let (c, present, which) = map_contains version_set_of v d.conjuncts.items h in
      let (s, among, truth) = met.chosen c (subst (λ (y : Deferred S). Contains y.conjuncts.items c) (some_one d met.deferred (sym at ∙ met.at)) present) in
      let matching : IsMatching same p c = each_of (IsMatching same p) d.conjuncts.items c of.conjuncts present in
      (s, subst (λ x. is_match same p x s ≡ true) (sym which) (sym (matching s) ∙ contained_in same exact p (candidates_of c) s among))

module _ {A N S C : Type 0} (same : S → S → Bool) (g : source.Ghosts A N S C) (a : A) (index : ℕ) (d : Deferred S) (sets : List (ConditionSet N S)) (old new : Encoder N S) where
  -- the deferred case is a clause, where the one of its version sets is
  pub deferred_encoded : IsExact same → slice_get old.deferred.items index ≡ Some d → AreSets same (g.packages a) sets → sets_case sets ≡ case_of d.conjuncts.items
      → RequiresCase same g a d.parent d.need sets old new → RequiresDeferred same g a index old new
  deferred_encoded exact at are case encodes = λ root e met.
      let p = g.packages a in
      let of = e.encoding.cases.waiting index d at in
      let among : Contains (cases_for same p d.need) (sets_case sets) = subst (λ (xs : List VersionSetId). Contains (cases_for same p d.need) xs) (sym case) of.case in
      let matched : AreMatched same p (sets_case sets) = subst (λ (xs : List VersionSetId). AreMatched same p xs) (sym case) (met_matched same p (g.orders a) root index old d exact at met e) in
      let (order, encoded) = encodes root e are of.listed among matched in
      let own : IsNeedEncoded same p (rules_of new) d.parent d.need (case_of d.conjuncts.items) = subst (λ (xs : List VersionSetId). IsNeedEncoded same p (rules_of new) d.parent d.need xs) case encoded in (
        order,
        λ other there. (
            let one : other ≡ d = some_one other d (sym there ∙ at) in
            subst (λ (x : Deferred S). IsNeedEncoded same p (rules_of new) x.parent x.need (case_of x.conjuncts.items)) (sym one) own),
      )

  -- its matches are clauses, where those of its version sets are
  pub deferred_matched : slice_get old.deferred.items index ≡ Some d → AreSets same (g.packages a) sets → sets_case sets ≡ case_of d.conjuncts.items
      → MatchesCase same g a d.parent d.need sets old new → StaysInOrder same g a old new
  deferred_matched at are case matches = λ root e.
      let of = e.encoding.cases.waiting index d at in
      matches root e are of.listed (subst (λ (xs : List VersionSetId). Contains (cases_for same (g.packages a) d.need) xs) (sym case) of.case)

module _ {N S : Type 0} (same : S → S → Bool) (p : Packages N S) (orders : Requirement → List S → Type 0) (root : Rules) (index : ℕ) (old middle new : Encoder N S) where
  -- the encoding is one of the packages after a deferred case was encoded and recorded
  pub encoded_in_order : IsMetNow old index → IsPrefixOf old.deferred.items middle.deferred.items
      → IsInOrder same p orders root middle × ((d : Deferred S) → slice_get old.deferred.items index ≡ Some d → IsNeedEncoded same p (rules_of middle) d.parent d.need (case_of d.conjuncts.items))
      → Fires index middle new → (IsEncoding same p root middle → ((d : Deferred S) → slice_get middle.deferred.items index ≡ Some d → IsNeedEncoded same p (rules_of middle) d.parent d.need (case_of d.conjuncts.items)) → IsEncoding same p root new)
      → IsInOrder same p orders root new
  encoded_in_order met prefix (order, encoded) fires keeps =
      let d = met.deferred in
      fires_in_order same p orders root middle new index fires (λ m. keeps m (λ other there. (
      let one : other ≡ d = some_one other d (sym there ∙ prefix_get old.deferred.items middle.deferred.items index d prefix met.at) in
      subst (λ (x : Deferred S). IsNeedEncoded same p (rules_of middle) x.parent x.need (case_of x.conjuncts.items)) (sym one) (encoded d met.at)))) order
