use Rattle.resolve_answer.proofs.Verdicts.{chosen_keeps, refused_none}
use Rattle.resolve_answer.proofs.laws.a_verdict_is_that_of_the_texts.Goals as goal

pub returns-clause-chosen : goal.returns-clause-chosen
returns-clause-chosen c = λ catalogue source provider verdict given. chosen_keeps catalogue source provider verdict given

pub returns-clause-refused : goal.returns-clause-refused
returns-clause-refused c = λ catalogue source provider verdict given. refused_none catalogue source provider verdict given
