use Rattle.resolvo_catalogue_core.proofs.obey.+holds_kept.Given as goal

abbrev pub decreases-holds_kept : goal.decreases-holds_kept
decreases-holds_kept l = l.condition.0
