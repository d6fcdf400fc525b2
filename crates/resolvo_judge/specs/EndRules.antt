-- Whether the entries obey all lines of both texts.
use Rattle.std.specs.Prelude.{ℕ, Bool, true, false, IsTrue, List}
use Rattle.resolvo_text.specs.Line.{Line}
use Rattle.resolvo_text.specs.Matches.{Set}
use Rattle.resolvo_catalogue_core.specs.Rules.{keeps, keeps_in_request}

-- each line of both texts is obeyed
pub record ObeysAll (catalogue request : List Line) (set : Set) : Type 0 where
  pub catalogue_lines : (n : ℕ) → IsTrue (keeps catalogue n set)
  pub request_lines : (n : ℕ) → IsTrue (keeps_in_request request n set)

-- The answer is whether each line is.
abbrev pub KeepsAll : List Line → List Line → Set → Bool → Type 0
KeepsAll catalogue request set true = ObeysAll catalogue request set
KeepsAll catalogue request set false = ObeysAll catalogue request set → ⊥
