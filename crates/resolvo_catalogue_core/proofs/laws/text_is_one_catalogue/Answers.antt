use Rattle.resolvo_catalogue_core.proofs.GrammarLaws as laws
use Rattle.resolvo_catalogue_core.proofs.laws.text_is_one_catalogue.Goals as goal

pub returns : goal.returns
returns c = laws.one_catalogue
