use Rattle.std.proofs.Common.{◌∙◌, sym}
use Rattle.std.proofs.lemmas.Bool.{false≢true}
use Rattle.resolvo_catalogue_core.proofs.UnmarkedLemmas.{allowed, some_text}
use Rattle.resolvo_catalogue_core.proofs.table.Table.marks_many.Goals as goal

pub returns-clause-some : goal.returns-clause-some
returns-clause-some c = λ some. some_text c.args.self.now.many (λ none. false≢true (sym (allowed c.is_empty.result some) ∙ c.is_empty.ensures.1 none))
