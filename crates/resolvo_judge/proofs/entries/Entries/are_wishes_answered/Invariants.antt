use Rattle.std.proofs.Common.{ℕ, ◌≤◌, List}
use Rattle.resolvo_report.specs.Value.{AnswerLine}
use Rattle.resolvo_judge.specs.KeptAnswers.{KeepsAnswers, KeepsLines, IsAnswered}
use Rattle.resolvo_judge.proofs.entries.Entries.are_wishes_answered.Given as goal

abbrev pub invariant-loop-index : goal.invariant-loop-index
invariant-loop-index l = (before : List AnswerLine) → KeepsAnswers l.fn.self before → KeepsLines l.fn.request.lines l.fn.self before → (n : ℕ) → n ≤ l.index → IsAnswered l.fn.request.lines before n
