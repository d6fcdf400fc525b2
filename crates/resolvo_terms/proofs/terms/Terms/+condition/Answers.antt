use Rattle.resolvo_terms.proofs.GrowLemmas.{condition_stays, condition_within}
use Rattle.resolvo_terms.proofs.terms.Terms.+condition.Goals as goal

pub join-requires-clause-left : goal.join-requires-clause-left
join-requires-clause-left t c =
    condition_within c.condition-in-And.new.self c.in_ok-left-in-And.left _ (condition_stays c.condition.new.self c.condition-in-And.new.self c.in_ok-right-in-And.ensures.grows c.in_ok-left-in-And.left _ c.in_ok-left-in-And.ensures.condition)

pub join-requires-in-Or-clause-left : goal.join-requires-in-Or-clause-left
join-requires-in-Or-clause-left t c =
    condition_within c.condition-in-Or-2.new.self c.in_ok-left-in-Or.left _ (condition_stays c.condition-in-Or.new.self c.condition-in-Or-2.new.self c.in_ok-right-in-Or.ensures.grows c.in_ok-left-in-Or.left _ c.in_ok-left-in-Or.ensures.condition)
