use Rattle.std.proofs.Common.{◌∙◌, sym, ap}
use Rattle.std.specs.Option.{option_copied}
use Rattle.resolvo_pool.proofs.KeptLemmas.{not_absent, kept_at}
use Rattle.resolvo_pool.specs.Cached.{IsListing}
use Rattle.resolvo_pool.proofs.cache.SolverCache.candidates.Goals as goal

pub unreachable-requires : goal.unreachable-requires
unreachable-requires g c =
    not_absent g.D.NameId.PartialEq.eq c.self.inside.lists c.args.name (rw (← c.self.view_is) at c.requires) (sym c.get.ensures.value ∙ ap option_copied c.in-None.is)

pub returns : goal.returns
returns g c =
    rw (← c.self.view_is) (kept_at g.D.NameId.PartialEq.eq (IsListing (g.D.DependencyProvider.candidates_of c.self.inside.provider)) c.self.inside.lists c.args.name c.in-Some.list.now (sym c.get.ensures.value ∙ ap option_copied c.in-Some.is) c.self.invariant.0)
