use Rattle.resolve_order.proofs.chosen.Chosen.+kept_holds.Given as goal

abbrev pub decreases-kept_holds : goal.decreases-kept_holds
decreases-kept_holds l = l.condition.0
