-- Cases that no number is for.
use Rattle.std.proofs.Common.{◌≡◌, inl, inr, ◌<◌, ◌≤◌, ℕ, List, length, Option, Some, None, sym, subst, arith}
use Rattle.std.specs.Prelude.{slice_get}
use Rattle.std.proofs.lemmas.Option.{slice_get_within}
use Rattle.resolvo_text.specs.Line.{Line, Spec}
use Rattle.resolvo_catalogue_core.specs.Grammar.{line_at}
use Rattle.resolvo_catalogue_core.specs.Questions.{cases_of_line}
use Rattle.resolvo_catalogue_core.specs.declared.rule.VersionNo.{VersionNo}
use Rattle.resolve_refusal.specs.Lines.{text_of}
use Rattle.resolve_refusal.specs.LacksNumbers.{HasTooManyCases, LacksCaseNumbers}

-- a line of a text has them
pub many_at : (lines : List Line) (n : ℕ) (l : Line) → line_at lines n ≡ Some l → 4294967295 < length (cases_of_line (Some l)) → HasTooManyCases lines
many_at lines n l at many = (n, subst (λ (o : Option Line). 4294967295 < length (cases_of_line o)) (sym at) many)

-- a line of a place's text has them
pub many_in : (catalogue request : List Line) (place : Option VersionNo) → HasTooManyCases (text_of catalogue request place) → LacksCaseNumbers catalogue request
many_in catalogue request None many = inr many
many_in catalogue request (Some v) many = inl many
