use Rattle.resolve_refusal.proofs.FindLemmas.{all_up_to, all_these}
use Rattle.resolve_refusal.proofs.lines.Texts.lines_of.Goals as goal

pub returns-in-None : goal.returns-in-None
returns-in-None c = rw c.in-None.is (all_up_to c.line_count.result _ c.line_count.ensures)

pub returns-in-Some : goal.returns-in-Some
returns-in-Some c = rw c.in-Some.is (all_these c.lines_of.result _ c.lines_of.ensures)
