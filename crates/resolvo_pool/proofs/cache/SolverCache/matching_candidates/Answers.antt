use Rattle.std.proofs.Common.{◌∙◌, sym, ap, false}
use Rattle.std.specs.Option.{option_copied}
use Rattle.resolvo_pool.proofs.KeptLemmas.{not_absent, kept_at}
use Rattle.resolvo_pool.specs.Cached.{IsList, same_set}
use Rattle.resolvo_pool_core.specs.Provider.{matching_in}
use Rattle.resolvo_pool.proofs.cache.SolverCache.matching_candidates.Goals as goal

pub unreachable-requires : goal.unreachable-requires
unreachable-requires g c =
    not_absent same_set c.self.inside.matching c.args.version_set (rw (← c.self.view_is) at c.requires) (sym c.get.ensures.value ∙ ap option_copied c.in-None.is)

pub returns : goal.returns
returns g c =
    rw (← c.self.view_is) (kept_at same_set (IsList (matching_in (g.D.Interner.name_of_version_set c.self.inside.provider) (g.D.DependencyProvider.candidates_of c.self.inside.provider) (g.D.DependencyProvider.matches c.self.inside.provider) false)) c.self.inside.matching c.args.version_set c.in-Some.list.now (sym c.get.ensures.value ∙ ap option_copied c.in-Some.is) c.self.invariant.1)
