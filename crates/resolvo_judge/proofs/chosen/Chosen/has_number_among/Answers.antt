use Rattle.std.proofs.Common.{◌∙◌, sym}
use Rattle.resolvo_judge.proofs.ChosenLemmas.{among_by}
use Rattle.resolvo_judge.proofs.chosen.Chosen.has_number_among.Goals as goal

pub returns-in-Some : goal.returns-in-Some
returns-in-Some c = λ set h. among_by c.args.self.now set (record { name = c.args.name.now; number = c.args.number }) c.args.first _ h (sym c.in-Some.is ∙ c.index.ensures)

pub returns-in-None : goal.returns-in-None
returns-in-None c = λ set h. among_by c.args.self.now set (record { name = c.args.name.now; number = c.args.number }) c.args.first _ h (sym c.in-None.is ∙ c.index.ensures)
