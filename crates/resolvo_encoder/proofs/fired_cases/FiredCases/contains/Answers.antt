use Rattle.std.proofs.Common.{◌≡◌, ◌∙◌, ℕ, Bool, false, List, ap, sym, subst}
use Rattle.std.specs.Prelude.{slice_index_or, Contains}
use Rattle.std.specs.Bool.{Decides}
use Rattle.resolvo_pool_core.specs.Ordered.{Ordered}
use Rattle.resolvo_encoder.proofs.fired_cases.FiredCases.contains.Goals as goal

pub returns : goal.returns
returns c =
    let flag : c.is_flagged.result ≡ slice_index_or c.self.inside.flags.items c.args.place false = c.is_flagged.ensures ∙ ap (λ (bs : List Bool). slice_index_or bs c.args.place false) c.as_slice.ensures.value in
    let keys : c.self.inside.places.items ≡ c.args.self.now.keys = ap (λ (o : Ordered ℕ). o.keys) c.self.view_is in
    subst (λ (b : Bool). Decides b (Contains c.args.self.now.keys c.args.place)) (sym flag)
    (subst (λ (xs : List ℕ). Decides (slice_index_or c.self.inside.flags.items c.args.place false) (Contains xs c.args.place)) keys (c.self.invariant c.args.place))
