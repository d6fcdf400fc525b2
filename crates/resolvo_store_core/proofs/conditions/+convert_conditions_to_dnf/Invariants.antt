use Rattle.resolvo_store_core.proofs.conditions.+convert_conditions_to_dnf.Given as goal

abbrev pub decreases-convert_conditions_to_dnf : goal.decreases-convert_conditions_to_dnf
decreases-convert_conditions_to_dnf g l = l.condition.0
