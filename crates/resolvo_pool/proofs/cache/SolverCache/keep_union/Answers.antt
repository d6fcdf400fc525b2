use Rattle.std.proofs.Common.{refl, sym, ◌∙◌}
use Rattle.resolvo_pool.proofs.KeptLemmas.{among-lookup, among_found, among_more, kept_more, same_union_exact}
use Rattle.resolvo_pool.specs.Cached.{IsUnionList, same_union}
use Rattle.resolvo_pool.proofs.cache.SolverCache.keep_union.Goals as goal

pub invariant_of-self-2 : goal.invariant_of-self-2
invariant_of-self-2 g c =
    let seen = rw (← c.self.view_is) at c.in_ok-joined.ensures.joined in
    let joined = rw c.version_sets_in_union.ensures at seen in
    (c.self.invariant.0, c.self.invariant.1, c.self.invariant.2, c.self.invariant.3, kept_more same_union c.self.inside.unions c.put.new.self c.args.union c.as_slice.result.now c.in_ok-put.ensures.put (IsUnionList (g.D.Interner.members_of c.self.inside.provider) c.self.inside.sorted) (same_union_exact c.args.union) (c.as_slice.ensures.value ∙ joined, rw (← c.self.view_is) at c.requires.sorted) c.self.invariant.4, c.self.invariant.5, c.self.invariant.6)

pub returns-clause-there : goal.returns-clause-there
returns-clause-there g c = among_found same_union c.put.new.self c.args.union _ c.in_ok-put.ensures.found

pub returns-clause-extends : goal.returns-clause-extends
returns-clause-extends g c =
    rw (← c.self.view_is) (record { provider = refl; names = λ n h. h; matching = λ v h. h; non_matching = λ v h. h; sorted = λ v xs h. h; unions = among_more same_union c.self.inside.unions c.put.new.self c.args.union _ c.in_ok-put.ensures.put; solvables = λ s h. h })

pub put-requires : goal.put-requires
put-requires g c = sym (among-lookup same_union c.self.inside.unions c.args.union) ∙ (rw (← c.self.view_is) at c.requires.fresh)
