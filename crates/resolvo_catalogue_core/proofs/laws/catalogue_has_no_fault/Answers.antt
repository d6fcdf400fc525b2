use Rattle.resolvo_catalogue_core.proofs.GrammarLaws as laws
use Rattle.resolvo_catalogue_core.proofs.laws.catalogue_has_no_fault.Goals as goal

pub returns : goal.returns
returns c = laws.catalogue_fault
