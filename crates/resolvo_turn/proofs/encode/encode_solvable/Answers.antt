use Rattle.std.proofs.Common.{◌≡◌, ◌∙◌, sym, subst}
use Rattle.std.specs.Prelude.{OnOk, IfErr, IsErrOf}
use Rattle.resolvo_pool.specs.Cached.{IsCancelledBy}
use Rattle.resolvo_pool.specs.declared.cache.CacheFault.TheVariants.{Ids}
use Rattle.resolvo_pool_core.specs.Provider.{needs_of}
use Rattle.resolvo_turn.specs.Effects.{EncodesSolvable}
use Rattle.resolvo_turn.specs.LacksIds.{StopsInOrder}
use Rattle.resolvo_turn.specs.Tasks.{KeepsExcluded}
use Rattle.resolvo_turn.proofs.encode.encode_solvable.Goals as goal

pub encode_dependencies-done-requires-clause-asked : goal.encode_dependencies-done-requires-clause-asked
encode_dependencies-done-requires-clause-asked g c = subst (λ (a : g.row.A.Denot). needs_of c.in_ok-dependencies.dependencies ≡ (g.A.PackageSource.packages a).dependencies_of c.args.solvable) (sym c.in_ok-dependencies.ensures.same) c.in_ok-dependencies.ensures.answer

pub returns-clause-same : goal.returns-clause-same
returns-clause-same g c = c.encode_dependencies-done.ensures.same ∙ c.in_ok-dependencies.ensures.same

pub returns-clause-encoded : goal.returns-clause-encoded
returns-clause-encoded g c = subst (λ (a : g.row.A.Denot). OnOk c.encode_dependencies-done.result (EncodesSolvable g.A.SolvableId.PartialEq.eq g.A.PackageSource a c.args.solvable c.args.excluded.now.keys c.args.encoding.now c.encode_dependencies-done.new.encoding)) c.in_ok-dependencies.ensures.same c.encode_dependencies-done.ensures.encoded

pub returns-clause-excluded : goal.returns-clause-excluded
returns-clause-excluded g c = subst (λ (a : g.row.A.Denot). OnOk c.encode_dependencies-done.result (KeepsExcluded g.A.SolvableId.PartialEq.eq g.A.PackageSource a c.args.excluded.now.keys c.encode_dependencies-done.new.excluded.keys c.args.encoding.now c.encode_dependencies-done.new.encoding)) c.in_ok-dependencies.ensures.same c.encode_dependencies-done.ensures.excluded

pub returns-clause-cancelled : goal.returns-clause-cancelled
returns-clause-cancelled g c = subst (λ (a : g.row.A.Denot). IfErr c.encode_dependencies-done.result (IsCancelledBy (g.A.PackageSource.may_cancel a))) c.in_ok-dependencies.ensures.same c.encode_dependencies-done.ensures.cancelled

pub returns-clause-ids : goal.returns-clause-ids
returns-clause-ids g c = subst (λ (a : g.row.A.Denot). IsErrOf c.encode_dependencies-done.result Ids → StopsInOrder g.A.SolvableId.PartialEq.eq g.A.PackageSource a c.args.encoding.now c.encode_dependencies-done.new.encoding) c.in_ok-dependencies.ensures.same c.encode_dependencies-done.ensures.ids
