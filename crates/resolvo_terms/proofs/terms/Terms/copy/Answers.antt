use Rattle.resolvo_terms.proofs.WholeLemmas.{wholes_none}
use Rattle.resolvo_terms.proofs.terms.Terms.copy.Goals as goal

pub invariant_of-result : goal.invariant_of-result
invariant_of-result c =
    let kept = c.self.invariant.0 in (
      record {
        sets = c.in_ok-copy-3.ensures.keyed;
        conditions = c.in_ok-copy-5.ensures.keyed;
        below = rw c.in_ok-copy-5.ensures.values kept.below;
        several = rw c.in_ok-copy-4.ensures kept.several;
      },
      wholes_none _ _ c.new.ensures.items,
    )
