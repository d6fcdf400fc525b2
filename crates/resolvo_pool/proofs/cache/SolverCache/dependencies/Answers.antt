use Rattle.std.proofs.Common.{◌∙◌, sym, ap}
use Rattle.std.specs.Option.{option_copied}
use Rattle.resolvo_pool.proofs.KeptLemmas.{not_absent, kept_at}
use Rattle.resolvo_pool.specs.Cached.{IsNeeds}
use Rattle.resolvo_pool.proofs.cache.SolverCache.dependencies.Goals as goal

pub unreachable-requires : goal.unreachable-requires
unreachable-requires g c =
    not_absent g.D.SolvableId.PartialEq.eq c.self.inside.dependencies c.args.solvable (rw (← c.self.view_is) at c.requires) (sym c.get.ensures.value ∙ ap option_copied c.in-None.is)

pub returns : goal.returns
returns g c =
    rw (← c.self.view_is) (kept_at g.D.SolvableId.PartialEq.eq (IsNeeds (g.D.DependencyProvider.dependencies_of c.self.inside.provider)) c.self.inside.dependencies c.args.solvable c.in-Some.found.now (sym c.get.ensures.value ∙ ap option_copied c.in-Some.is) c.self.invariant.5)
