-- Pieces of texts that the writer of reports puts together.
use Rattle.std.specs.Prelude.{ℕ, List, [], ◌∷◌, ◌++◌, codes}
use Rattle.std.specs.List.{flat_map, join_with_byte}
use Rattle.std.specs.Fmt.{decimal}
use Rattle.resolvo_text.specs.declared.spec.Spec as code
use Rattle.resolvo_text.specs.Spelling.{Words, spec_words}
use Rattle.resolvo_text.specs.View.{spec_of}
use Rattle.resolvo_report.specs.declared.step.Literal as code_literal
pub use Rattle.resolvo_literal_order.specs.Order.{texts_of}
use Rattle.resolvo_report.specs.Value.{Step, Need, Gate, Shared, LimitBars, Limit, Outside, Matches, Lock, Exclude, Unknown, Digit, Any, Derive}
use Rattle.resolvo_report.specs.Text.{literal_text, step_text}
use Rattle.resolvo_report.specs.View.{literal_of}

-- words, a space before each
abbrev pub spaced : Words → List ℕ
spaced [] = []
spaced (w ∷ ws) = codes " " ++ w ++ spaced ws

-- alternatives, a bar before each
abbrev pub with_bars : List code.Spec → List ℕ
with_bars ss = flat_map (λ s. codes " | " ++ join_with_byte 32 (spec_words (spec_of s))) ss

-- literals, a semicolon before each
abbrev pub parted : List code_literal.Literal → List ℕ
parted ls = flat_map (λ l. codes "; " ++ literal_text (literal_of l)) ls

-- the numbers of steps, a space before each
abbrev pub causes_text : List ℕ → List ℕ
causes_text ns = flat_map (λ n. codes " " ++ decimal n) ns

-- the text of a step that defines an atom
abbrev pub definition_text : Step → List ℕ
definition_text (Need place line case) = []
definition_text (Gate v line) = []
definition_text (Shared alternatives) = step_text (Shared alternatives)
definition_text (LimitBars place line v) = []
definition_text (Limit place line) = []
definition_text (Outside s v) = step_text (Outside s v)
definition_text (Matches s v) = step_text (Matches s v)
definition_text (Lock line v) = []
definition_text (Exclude line) = []
definition_text (Unknown line) = []
definition_text (Digit v place bit) = step_text (Digit v place bit)
definition_text (Any v) = step_text (Any v)
definition_text (Derive literals causes) = []
