use Rattle.std.proofs.Common.{refl, sym, ◌∙◌}
use Rattle.std.specs.Map.{keys_of}
use Rattle.resolvo_pool_core.specs.Provider.{listing}
use Rattle.resolvo_pool.proofs.KeptLemmas.{among-lookup, among_found, among_more, kept_more}
use Rattle.resolvo_pool.proofs.HintedLemmas.{hinted_grows, hinted_kept}
use Rattle.resolvo_pool.specs.Cached.{IsListing, among}
use Rattle.resolvo_pool.proofs.cache.SolverCache.ask_candidates.Goals as goal

pub invariant_of-self-2 : goal.invariant_of-self-2
invariant_of-self-2 g c =
    let grown = hinted_grows g.D.NameId.PartialEq.eq g.D.SolvableId.PartialEq.eq (g.D.Interner.name_of_solvable c.self.inside.provider) (g.D.DependencyProvider.candidates_of c.self.inside.provider) g.met.D.NameId.Exact.exact c.args.name (listing c.in_ok-list.list) c.in_ok-list.ensures.listed (λ s. among g.D.NameId.PartialEq.eq (keys_of c.self.inside.lists) (g.D.Interner.name_of_solvable c.self.inside.provider s)) (g.D.SolvableId.Set.IdSet.has c.self.inside.hinted) (g.D.SolvableId.Set.IdSet.has c.put_hinted.new.set) c.put_hinted.ensures.grows c.self.invariant.6 in
    (kept_more g.D.NameId.PartialEq.eq c.self.inside.lists c.put.new.self c.args.name c.in_ok-list.list c.in_ok-put.ensures.put (IsListing (g.D.DependencyProvider.candidates_of c.self.inside.provider)) (g.met.D.NameId.Exact.exact c.args.name) c.in_ok-list.ensures.listed c.self.invariant.0, c.self.invariant.1, c.self.invariant.2, c.self.invariant.3, c.self.invariant.4, c.self.invariant.5, hinted_kept g.D.NameId.PartialEq.eq g.D.SolvableId.PartialEq.eq (g.D.Interner.name_of_solvable c.self.inside.provider) (g.D.DependencyProvider.candidates_of c.self.inside.provider) g.met.D.NameId.Exact.exact c.args.name (listing c.in_ok-list.list) c.in_ok-list.ensures.listed c.self.inside.lists c.put.new.self c.in_ok-list.list (g.D.SolvableId.Set.IdSet.has c.put_hinted.new.set) c.in_ok-put.ensures.put c.in_ok-put_hinted.ensures.each grown)

pub invariant_of-self-in_err-put : goal.invariant_of-self-in_err-put
invariant_of-self-in_err-put g c =
    let grown = hinted_grows g.D.NameId.PartialEq.eq g.D.SolvableId.PartialEq.eq (g.D.Interner.name_of_solvable c.self.inside.provider) (g.D.DependencyProvider.candidates_of c.self.inside.provider) g.met.D.NameId.Exact.exact c.args.name (listing c.in_ok-list.list) c.in_ok-list.ensures.listed (λ s. among g.D.NameId.PartialEq.eq (keys_of c.self.inside.lists) (g.D.Interner.name_of_solvable c.self.inside.provider s)) (g.D.SolvableId.Set.IdSet.has c.self.inside.hinted) (g.D.SolvableId.Set.IdSet.has c.put_hinted.new.set) c.put_hinted.ensures.grows c.self.invariant.6 in
    rw c.in_err-put.ensures.err (c.self.invariant.0, c.self.invariant.1, c.self.invariant.2, c.self.invariant.3, c.self.invariant.4, c.self.invariant.5, grown)

pub returns-clause-there : goal.returns-clause-there
returns-clause-there g c = among_found g.D.NameId.PartialEq.eq c.put.new.self c.args.name _ c.in_ok-put.ensures.found

pub returns-clause-extends : goal.returns-clause-extends
returns-clause-extends g c =
    rw (← c.self.view_is) (record { provider = refl; names = among_more g.D.NameId.PartialEq.eq c.self.inside.lists c.put.new.self c.args.name _ c.in_ok-put.ensures.put; matching = λ v h. h; non_matching = λ v h. h; sorted = λ v xs h. h; unions = λ u h. h; solvables = λ s h. h })

pub returns-clause-only : goal.returns-clause-only
returns-clause-only g c =
    rw (← c.self.view_is) (record { provider = refl; matching = refl; non_matching = refl; sorted = refl; unions = refl; solvables = refl })

pub put-requires : goal.put-requires
put-requires g c = sym (among-lookup g.D.NameId.PartialEq.eq c.self.inside.lists c.args.name) ∙ (rw (← c.self.view_is) at c.requires.fresh)
