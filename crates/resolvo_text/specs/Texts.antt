-- Texts as lists of lines: when a text is grammatical, which line is its first faulty one, and
-- when reading one may fail.
use Rattle.std.specs.Prelude.{◌≡◌, ℕ, ◌+◌, ◌<◌, ⊤, List, [], ◌∷◌, ◌++◌, length, take, Option, Some}
use Rattle.resolvo_text.specs.Lines.{lines_of, whole_lines}
use Rattle.resolvo_text.specs.Device.{IfKnown}
use Rattle.resolvo_text.specs.declared.lines.ReadFault.{ReadFault}
use Rattle.resolvo_text.specs.declared.lines.ReadFault.TheVariants.{Fault, Reader, TooLong, Memory, Ids}

-- a grammar: which line a text spells after some lines
abbrev pub Grammar : Type 0 → Type 1
Grammar L = List L → List ℕ → L → Type 0

-- Each text spells its line, after the lines before it.
abbrev pub Reads : {L : Type 0} → Grammar L → List L → List (List ℕ) → List L → Type 0
Reads Parses before [] [] = ⊤
Reads Parses before [] (line ∷ lines) = ⊥
Reads Parses before (text ∷ texts) [] = ⊥
Reads Parses before (text ∷ texts) (line ∷ lines) = Parses before text line × Reads Parses (before ++ line ∷ []) texts lines

-- The lines of the text spell these lines.
abbrev pub IsGrammatical : {L : Type 0} → Grammar L → List ℕ → List L → Type 0
IsGrammatical Parses text lines = Reads Parses [] (lines_of text) lines

-- The text's line n is the first that spells no line after the lines before it.
pub record IsFaultyAt {L : Type 0} (Parses : Grammar L) (text : List ℕ) (n : ℕ) : Type 0 where
  pub above : List (List ℕ)
  pub faulty : List ℕ
  pub below : List (List ℕ)
  pub lines : lines_of text ≡ above ++ faulty ∷ below
  pub place : n ≡ length above + 1
  pub before : List L
  pub read : Reads Parses [] above before
  pub none : (line : L) → Parses before faulty line → ⊥

-- Each line that ends among the bytes read is grammatical after the lines before it.
abbrev pub IsGoodSoFar : {L : Type 0} → Grammar L → List ℕ → List ℕ → Type 0
IsGoodSoFar {L} Parses text received = (lines : List L) × Reads Parses [] (whole_lines text received) lines

-- Some bytes of the text were read, these are left, and the lines that ended among those read are grammatical.
pub record IsGoodPrefix {L : Type 0} (Parses : Grammar L) (text : List ℕ) (after : Option (List ℕ)) : Type 0 where
  pub received : List ℕ
  pub rest : List ℕ
  pub left : after ≡ Some rest
  pub parts : text ≡ received ++ rest
  pub good : IsGoodSoFar Parses text received

-- When reading a text may fail so: the device's bytes before and after, the most bytes of a text, and that the
-- device failed. All whole lines that were read are checked before the next read.
abbrev pub IsTextFault : {L : Type 0} → Grammar L → ReadFault → Option (List ℕ) → Option (List ℕ) → ℕ → Type 0 → Type 0
IsTextFault Parses (Fault n) before after limit failed = IfKnown before (λ text. IsFaultyAt Parses text n)
IsTextFault Parses Reader before after limit failed = failed × IfKnown before (λ text. IsGoodPrefix Parses text after)
IsTextFault Parses TooLong before after limit failed = IfKnown before (λ text. (limit < length text) × IsGoodSoFar Parses text (take limit text))
IsTextFault Parses Memory before after limit failed = ⊤
IsTextFault Parses Ids before after limit failed = ⊥
