use Rattle.std.proofs.Common.{◌≡◌}
use Rattle.resolvo_report.specs.Stream.{left}
use Rattle.resolvo_judge.proofs.JudgeLemmas.{Reached}
use Rattle.resolvo_judge.proofs.judgement.judge_lines.Given as goal

abbrev pub invariant-loop-judging : goal.invariant-loop-judging
invariant-loop-judging g l = Reached l.catalogue l.request.lines (g.S.Source.left l.fn.source) (left l.reader (g.S.Source.left l.source)) l.reader l.judging l.clauses l.number
    × (g.S.Source.failures l.source ≡ g.S.Source.failures l.fn.source)

abbrev pub decreases-loop-judging : goal.decreases-loop-judging
decreases-loop-judging g l = l.reader.lines.room
