-- What a run writes is the headline of its texts.
use Rattle.std.proofs.Common.{ℕ, List}
use Rattle.resolvo_text.specs.Line.{Line}
use Rattle.resolve_answer.proofs.HeadlineLemmas.{is_right}
use Rattle.resolve_check.specs.declared.outcome.Outcome.{Outcome}
use Rattle.resolve_run.specs.Headline.{IsHeadline, IsRightText, catalogue_fault, request_fault, grammatical}
use Rattle.resolve_run.specs.Answer.{IsAnswer, IsAnswerOfLines}

right_text : (catalogue request : List Line) (ended : Outcome) (output : List ℕ) → IsAnswerOfLines catalogue request ended output → IsRightText catalogue request ended output
right_text catalogue request ended output a = record { report = a.report; right = is_right catalogue request a.report a.reported; ends = a.ends; is_text = a.is_text; bound = a.bound }

pub headline_of : (c r : List ℕ) (ended : Outcome) (output : List ℕ) → IsAnswer c r ended output → IsHeadline c r ended output
headline_of c r ended output (catalogue_fault n faulty ends is) = catalogue_fault n faulty ends is
headline_of c r ended output (request_fault catalogue n is_c faulty ends is) = request_fault catalogue n is_c faulty ends is
headline_of c r ended output (grammatical catalogue request is_c is_r a) = grammatical catalogue request is_c is_r (right_text catalogue request ended output a)
