use Rattle.resolvo_terms.proofs.FoundLemmas.{list_numbers_cloned}
use Rattle.resolvo_terms.proofs.unions.ListIndex.copy.Goals as goal

pub returns-clause-others : goal.returns-clause-others
returns-clause-others c = list_numbers_cloned c.args.self.now.others.entries c.in_ok-clone.field-0.entries c.in_ok-clone.ensures.cases
