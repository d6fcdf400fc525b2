-- In both grammars a text spells one line at most after given lines.
use Rattle.std.proofs.Common.{◌≡◌, ℕ, List, []}
use Rattle.resolvo_text.specs.Line.{Line}
use Rattle.resolvo_text.specs.Lines.{lines_of}
use Rattle.resolvo_text.specs.Texts.{IsFaultyAt, IsGrammatical}
use Rattle.resolvo_text.proofs.ReadTo.{IsUnambiguous, same_lines, no_fault}
use Rattle.resolvo_text.proofs.TextLaws.{one_line}
use Rattle.resolvo_catalogue_core.specs.Grammar.{IsCatalogueLine, IsRequestLine}

one_catalogue_line : IsUnambiguous IsCatalogueLine
one_catalogue_line before text a b p q = one_line text a b p.parsed q.parsed

one_request_line : (catalogue : List Line) → IsUnambiguous (IsRequestLine catalogue)
one_request_line catalogue before text a b p q = one_line text a b p.parsed q.parsed

pub one_catalogue : (text : List ℕ) (a b : List Line) → IsGrammatical IsCatalogueLine text a → IsGrammatical IsCatalogueLine text b → a ≡ b
one_catalogue text a b p q = same_lines IsCatalogueLine one_catalogue_line [] (lines_of text) a b p q

pub catalogue_fault : (text : List ℕ) (lines : List Line) (n : ℕ) → IsGrammatical IsCatalogueLine text lines → IsFaultyAt IsCatalogueLine text n → ⊥
catalogue_fault text lines n whole fault = no_fault IsCatalogueLine one_catalogue_line text lines n whole fault

pub one_request : (catalogue : List Line) (text : List ℕ) (a b : List Line) → IsGrammatical (IsRequestLine catalogue) text a → IsGrammatical (IsRequestLine catalogue) text b → a ≡ b
one_request catalogue text a b p q = same_lines (IsRequestLine catalogue) (one_request_line catalogue) [] (lines_of text) a b p q

pub request_fault : (catalogue : List Line) (text : List ℕ) (lines : List Line) (n : ℕ) → IsGrammatical (IsRequestLine catalogue) text lines → IsFaultyAt (IsRequestLine catalogue) text n → ⊥
request_fault catalogue text lines n whole fault = no_fault (IsRequestLine catalogue) (one_request_line catalogue) text lines n whole fault
