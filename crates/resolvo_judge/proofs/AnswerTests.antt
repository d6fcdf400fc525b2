-- Tests of answers, for the proof that the claims of accepted reports are true.
use Rattle.std.specs.Prelude.{◌≡◌, ℕ, Bool, false, not, ◌&&◌, ◌||◌, ◌==◌, nat_lt, IsTrue, List, ◌∷◌, ◌++◌, Option, Some}
use Rattle.std.specs.List.{list_any, list_all, flat_map}
use Rattle.resolvo_text.specs.Line.{Version, Line, Needs, Wish}
use Rattle.resolvo_text.specs.Matches.{Set, same_version, is_member, matches, condition_holds}
use Rattle.resolvo_catalogue_core.specs.Grammar.{line_at, owner_of}
use Rattle.resolvo_catalogue_core.specs.Rules.{keeps, keeps_in_request}
use Rattle.resolvo_catalogue_core.specs.Answers as answer
use Rattle.resolvo_catalogue_core.specs.Answers.{Answer, Reason, entries_of, wish_line_of}
use Rattle.resolvo_report.specs.Value.{Step}
use Rattle.resolvo_checker.specs.StepClauses.{is_listed, is_owner}
use Rattle.resolvo_judge.specs.Entries.{is_free}
use Rattle.resolvo_judge.specs.Refusal.{step_forbids}

-- The line is a `needs` line, an alternative of which the version matches, and its condition holds among the entries.
abbrev pub is_needed : Set → Option Line → Version → Bool
is_needed entries (Some (Needs alternatives condition)) v = list_any (λ s. matches s v) alternatives && condition_holds condition entries
is_needed entries l v = false

abbrev pub is_wish : Option Line → Version → Bool
is_wish (Some (Wish w)) v = same_version w v
is_wish l v = false

abbrev pub has_reason : List Line → List Line → Set → Version → Reason → Bool
has_reason catalogue request entries v (answer.ForRequest n) = is_needed entries (line_at request n) v
has_reason catalogue request entries v (answer.ForVersion w n) = is_member w entries && (is_owner w (owner_of catalogue n) && is_needed entries (line_at catalogue n) v)
has_reason catalogue request entries v (answer.Wished n) = is_wish (line_at request n) v

-- The version is left out in one of the lines.
abbrev pub leaves_out : Version → Answer → Bool
leaves_out v (answer.LeftOut w n step) = same_version w v
leaves_out v (answer.Entry w reason) = false

abbrev pub is_left_out : List Answer → Version → Bool
is_left_out answers v = list_any (leaves_out v) answers

-- The wish's line is greater than those of the wishes above.
abbrev pub rises : List Answer → Answer → Bool
rises above a = list_all (λ n. list_all (λ m. nat_lt m n) (flat_map wish_line_of above)) (wish_line_of a)

-- An entry is listed and free, isn't left out above, and has its reason among the entries above.
-- What is left out is a wish, and no entry above.
abbrev pub answer_passes : List Line → List Line → List Answer → Answer → Bool
answer_passes catalogue request above (answer.Entry v reason) =
    is_listed catalogue v && (is_free catalogue (entries_of above) v && (not (is_left_out above v) && (has_reason catalogue request (entries_of above) v reason && rises above (answer.Entry v reason))))
answer_passes catalogue request above (answer.LeftOut v n step) =
    is_wish (line_at request n) v && (not (is_member v (entries_of above)) && rises above (answer.LeftOut v n step))

abbrev pub leaves_out_at : Version → ℕ → Answer → Bool
leaves_out_at v n (answer.LeftOut w m step) = same_version w v && m == n
leaves_out_at v n (answer.Entry w reason) = false

-- The entries obey each line, each wish is an entry or left out, and the step of each left-out wish
-- forbids it with the entries above its line.
pub record AnswersEnd (catalogue request : List Line) (answers : List Answer) (steps : List Step) : Type 0 where
  pub catalogue_lines : (n : ℕ) → IsTrue (keeps catalogue n (entries_of answers))
  pub request_lines : (n : ℕ) → IsTrue (keeps_in_request request n (entries_of answers))
  pub wishes : (n : ℕ) (v : Version) → line_at request n ≡ Some (Wish v) → IsTrue (is_member v (entries_of answers) || list_any (leaves_out_at v n) answers)
  pub forbidden : (above below : List Answer) (v : Version) (n k : ℕ) → answers ≡ above ++ answer.LeftOut v n k ∷ below → IsTrue (step_forbids catalogue request steps (entries_of above) v k)
