use Rattle.std.proofs.Common.{◌≡◌, ◌++◌, take, map}
use Rattle.std.specs.List.{AllByRecursion}
use Rattle.resolvo_text.specs.Spelling.{IsNumber}
use Rattle.resolvo_catalogue_core.specs.Listed.{listed}
use Rattle.resolvo_report.specs.Value as value
use Rattle.resolvo_report.specs.Text.{lines_text}
use Rattle.resolve_install.specs.Install.{line_of}
use Rattle.resolve_install.specs.Lines.{lines_for}
use Rattle.resolve_install.proofs.install.push_answers.Given as goal

-- the lines so far are behind the old bytes
abbrev pub invariant-loop-answer : goal.invariant-loop-answer
invariant-loop-answer l = record {
  written : l.out.items ≡ l.fn.out.items ++ lines_text (map value.Answer (lines_for (listed l.catalogue) (take l.answer-index l.answers)));
  numbered : AllByRecursion (λ x. IsNumber (line_of x)) (lines_for (listed l.catalogue) (take l.answer-index l.answers));
}
