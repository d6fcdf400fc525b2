use Rattle.std.proofs.Common.{sym, ◌∙◌}
use Rattle.resolve_check.proofs.SplitLemmas.{ends_at, never_ends}
use Rattle.resolve_check.proofs.input.first_line.Goals as goal

pub returns-in-Some : goal.returns-in-Some
returns-in-Some c = ends_at c.args.text.now c.in-Some.end (sym c.newline_in.ensures ∙ c.in-Some.is)

pub returns-in-None : goal.returns-in-None
returns-in-None c = never_ends c.args.text.now (sym c.newline_in.ensures ∙ c.in-None.is)
