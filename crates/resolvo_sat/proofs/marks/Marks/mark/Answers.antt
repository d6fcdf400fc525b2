use Rattle.std.specs.Prelude.{slice_set}
use Rattle.std.proofs.Common.{◌≡◌, ◌<◌, ℕ, List, Bool, length, ap, subst, arith}
use Rattle.resolvo_sat.specs.Marks.{flags, IsMarked}
use Rattle.resolvo_sat.proofs.FlagLemmas.{flags_long, flag_set, up_set}
use Rattle.resolvo_sat.proofs.marks.Marks.mark.Goals as goal

pub index_mut-requires : goal.index_mut-requires
index_mut-requires c =
    let long : length (flags c.self.inside.walk c.self.inside.walks.items) ≡ length c.self.inside.walks.items = flags_long c.self.inside.walk c.self.inside.walks.items in
    omega (arith, long, c.requires, ap length c.self.view_is)

pub invariant_of-self : goal.invariant_of-self
invariant_of-self c = (c.self.invariant.0, up_set c.self.inside.walk c.self.inside.walks.items c.args.index c.self.invariant.1)

pub returns : goal.returns
returns c =
    let n : ℕ = c.self.inside.walk in
    let ks : List ℕ = c.self.inside.walks.items in
    let long : length (flags n ks) ≡ length ks = flags_long n ks in
    let inside : c.args.index < length ks = omega (arith, long, c.requires, ap length c.self.view_is) in
    subst (λ (fs : List Bool). IsMarked c.args.index fs (flags n (slice_set ks c.args.index n))) c.self.view_is (flag_set n ks c.args.index inside)
