use Rattle.std.proofs.Common.{◌≡◌, ◌<◌, ℕ, List, Some, subst, sym}
use Rattle.std.specs.Prelude.{slice_get}
use Rattle.resolvo_terms.proofs.WholeLemmas.{among_more}
use Rattle.resolvo_terms.proofs.terms.lengthen.Goals as goal

pub loop-preserved : goal.loop-preserved
loop-preserved c =
    let old = c.args.numbers.now.items in
    subst (λ (xs : List ℕ). (n k : ℕ) → slice_get xs n ≡ Some k → k < 4294967295 → slice_get old n ≡ Some k) (sym c.in_ok-push.ensures.items)
    (among_more old c.loop.numbers.items c.loop.invariant)
