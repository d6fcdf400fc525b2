use Rattle.std.proofs.Common.{◌≡◌, ◌≤◌, ℕ, List, length, sym, ◌∙◌, ap, subst, arith}
use Rattle.std.specs.Prelude.{◌++◌, ◌∷◌, [], slice_index_or, false}
use Rattle.resolvo_sat.specs.Marks.{flags, AreUpTo}
use Rattle.resolvo_sat.proofs.FlagLemmas.{flags_long, flag_push, up_push}
use Rattle.resolvo_sat.proofs.marks.Marks.make_room.Goals as goal

pub loop-self-preserved : goal.loop-self-preserved
loop-self-preserved c =
    let n : ℕ = c.loop-self.self-inside.walk in
    let ks : List ℕ = c.loop-self.self-inside.walks.items in
    let items : c.push.new.self.items ≡ ks ++ 0 ∷ [] = c.in_ok-push.ensures.items in
    let some : 1 ≤ n = subst (λ (k : ℕ). 1 ≤ k) (sym c.loop-self.invariant.0) c.self.invariant.0 in (
      c.loop-self.invariant.0,
      subst (AreUpTo n) (sym items) (up_push n ks c.loop-self.invariant.1),
      λ (v : ℕ). ap (λ (xs : List ℕ). slice_index_or (flags n xs) v false) items ∙ flag_push n ks some v ∙ c.loop-self.invariant.2 v,
    )

pub returns-clause-room : goal.returns-clause-room
returns-clause-room c =
    let n : ℕ = c.loop-self.self-inside.walk in
    let ks : List ℕ = c.loop-self.self-inside.walks.items in
    let long : length (flags n ks) ≡ length ks = flags_long n ks in
    omega (arith, long, c.loop-self-test.false, c.len.ensures, c.loop-self.self-inside.walks.ok.0)
