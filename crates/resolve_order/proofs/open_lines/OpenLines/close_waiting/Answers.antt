use Rattle.resolve_order.proofs.open_lines.OpenLines.close_waiting.Goals as goal

pub returns-clause-kept : goal.returns-clause-kept
returns-clause-kept c = λ ss condition named first s at p is. (c.close.ensures first).waiting p c.args.line (c.in_ok-keep_condition.ensures.added ss condition named s at p is)
