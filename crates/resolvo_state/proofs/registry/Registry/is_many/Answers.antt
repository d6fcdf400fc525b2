use Rattle.std.proofs.Common.{Bool, true, List, ◌≡◌, sym, ◌∙◌, subst}
use Rattle.std.specs.Prelude.{Contains}
use Rattle.std.specs.List.{list_any}
use Rattle.std.proofs.lemmas.Map.Views.{list_any-from_Contains}
use Rattle.resolvo_sat.proofs.Lists.{any_contained}
use Rattle.resolvo_state.proofs.registry.Registry.is_many.Goals as goal

any_same : {X : Type 0} (eq : X → X → Bool) (x : X) (xs : List X) → ((y : X) → eq x y ≡ true → x ≡ y) → list_any (eq x) xs ≡ true → Contains xs x
any_same eq x xs exact h = let (y, present, same) = any_contained (eq x) xs h in subst (Contains xs) (sym (exact y same)) present

pub returns : goal.returns
returns g c = (
  λ h. any_same g.N.PartialEq.eq c.args.name c.args.self.now.many.keys (g.met.N.Exact.exact c.args.name) (sym c.contains.ensures ∙ h),
  λ h. c.contains.ensures ∙ list_any-from_Contains g.met.N.Eq.laws c.args.name c.args.self.now.many.keys h,
)
