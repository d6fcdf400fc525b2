-- Whether steps forbid the left-out wishes.
use Rattle.std.specs.Prelude.{◌≡◌, Bool, false, not, ◌&&◌, ◌||◌, List, [], ◌∷◌, ◌++◌, length, take, Option}
use Rattle.std.specs.List.{list_all}
use Rattle.std.specs.Option.{option_map_or}
use Rattle.resolvo_text.specs.Line.{Line, Version}
use Rattle.resolvo_text.specs.Matches.{Set}
use Rattle.resolvo_pool_core.specs.OnePass as pass
use Rattle.resolvo_report.specs.Value.{Atom, Step, AnswerLine, ReportLine}
use Rattle.resolvo_report.specs.Value as line
use Rattle.resolvo_checker.specs.Rup.{is_earlier}
use Rattle.resolvo_checker.specs.StepClauses.{Clause}
use Rattle.resolvo_checker.specs.Proof.{is_among, forbids}
use Rattle.resolvo_judge.specs.Entries.{entries_of}
use Rattle.resolvo_judge.specs.ForbiddenWishes.{ForbiddenWish}
use Rattle.resolvo_judge.specs.KeptAnswers.{forbidden_from}
use Rattle.resolvo_judge.specs.Refusal.{answers_in, steps_in, step_forbids}

-- `not` of the wish or of an entry
abbrev pub literal_forbids : Set → Version → pass.Literal Atom → Bool
literal_forbids entries wish l = not l.positive && is_among entries wish l.atom

-- the same of literals that are built, all of which are some
abbrev pub built_forbid : Set → Version → List (Option (pass.Literal Atom)) → Bool
built_forbid entries wish built = list_all (λ o. option_map_or (literal_forbids entries wish) o false) built

-- the clause forbids the wish, with the entries above its line
abbrev pub clause_forbids : Set → Clause → ForbiddenWish → Bool
clause_forbids set clause b = forbids (take b.above set) b.wish clause

-- The step of the left-out wish forbids it, with the entries above its line.
abbrev pub is_forbidden : List Line → List Line → List Step → Set → ForbiddenWish → Bool
is_forbidden catalogue request steps set b = step_forbids catalogue request steps (take b.above set) b.wish b.step

-- If its step is one of these, it does.
abbrev pub is_forbidden_so_far : List Line → List Line → List Step → Set → ForbiddenWish → Bool
is_forbidden_so_far catalogue request steps set b = not (is_earlier (length steps) b.step) || is_forbidden catalogue request steps set b

-- No answer is below a step.
abbrev pub AreFirst : List ReportLine → Type 0
AreFirst lines = (above below : List ReportLine) (a : AnswerLine) → lines ≡ above ++ line.Answer a ∷ below → steps_in above ≡ []

-- The flag is whether the steps so far forbid the left-out wishes that name them, where these are
-- above all steps.
abbrev pub FlagsForbidden : List Line → List Line → Bool → List ReportLine → Type 0
FlagsForbidden catalogue request forbidden above =
    AreFirst above → forbidden ≡ list_all (is_forbidden_so_far catalogue request (steps_in above) (entries_of (answers_in above))) (forbidden_from 0 (answers_in above))
