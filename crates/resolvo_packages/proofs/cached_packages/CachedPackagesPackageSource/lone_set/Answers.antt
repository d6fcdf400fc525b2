use Rattle.std.proofs.Common.{rules, ◌≡◌, ◌∙◌, ap, sym}
use Rattle.resolvo_pool_core.specs.declared.condition.Condition.TheVariants.{Requirement}
use Rattle.resolvo_store_core.specs.Cases.{cases_by, cases_within}
use Rattle.resolvo_packages.proofs.cached_packages.CachedPackagesPackageSource.lone_set.Goals as goal

pub returns-in-Requirement : goal.returns-in-Requirement
returns-in-Requirement g c =
    let provider : c.provider.result.now ≡ c.args.self.now = search rules in
    let of = g.D.Interner.condition_of c.args.self.now in
    let is : of c.args.condition ≡ Requirement c.in-Requirement.version_set = ap (λ (x : g.row.D.Denot). g.D.Interner.condition_of x c.args.condition) (sym provider) ∙ (sym c.resolve_condition.ensures ∙ c.in-Requirement.is) in
    ap (cases_by (cases_within of c.args.condition.0)) is
