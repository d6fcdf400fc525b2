use Rattle.resolvo_terms.proofs.terms.Terms.+cond_of.Given as goal

abbrev pub decreases-cond_of : goal.decreases-cond_of
decreases-cond_of l = l.condition.0
