use Rattle.std.proofs.Common.{◌≡◌, true, ℕ, arith, below_more, subst, slice_index_or}
use Rattle.std.proofs.lemmas.List.{get_or_default}
use Rattle.resolvo_pool_core.specs.declared.id.VersionSetId.{VersionSetId}
use Rattle.resolvo_pool.proofs.KeptLemmas.{Extends-trans, AddsSorted-trans, sorted_extends}
use Rattle.resolvo_pool.specs.Cached.{is_sorted}
use Rattle.resolvo_pool.proofs.cache.SolverCache.cache_sorted_members.Goals as goal

pub loop-version_set-preserved : goal.loop-version_set-preserved
loop-version_set-preserved g c =
    let (before, sorted, same) = c.loop-version_set.invariant in
    let step = c.cache_sorted_candidates_for_version_set.ensures.extends in
    (Extends-trans g.D.NameId.PartialEq.eq g.D.SolvableId.PartialEq.eq c.args.self.now c.loop-version_set.self c.cache_sorted_candidates_for_version_set.new.self before step, below_more (λ (k : ℕ). (d : VersionSetId) → is_sorted c.cache_sorted_candidates_for_version_set.new.self.sorted (slice_index_or c.args.members.now k d) ≡ true) c.loop-version_set.version_set-index (λ k h d. sorted_extends g.D.NameId.PartialEq.eq g.D.SolvableId.PartialEq.eq c.loop-version_set.self c.cache_sorted_candidates_for_version_set.new.self step _ (sorted k h d)) (λ d. subst (λ (v : VersionSetId). is_sorted c.cache_sorted_candidates_for_version_set.new.self.sorted v ≡ true) (get_or_default c.args.members.now c.loop-version_set.version_set-index (record { 0 = 0 }) d c.loop-version_set-test.true) c.in_ok-cache_sorted_candidates_for_version_set.ensures.there), AddsSorted-trans c.args.self.now c.loop-version_set.self c.cache_sorted_candidates_for_version_set.new.self same c.cache_sorted_candidates_for_version_set.ensures.only)

pub returns-clause-there : goal.returns-clause-there
returns-clause-there g c = λ k d h. c.loop-version_set.invariant.1 k (omega arith) d
