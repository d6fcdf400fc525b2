-- How standard input is parted into a catalogue and a request.
use Rattle.std.specs.Prelude.{◌≡◌, ◌<◌, ⊤, length, ℕ, ◌⊎◌, List, [], ◌∷◌, ◌++◌, codes, Contains, Option, MatchOption}
use Rattle.resolvo_text.specs.Device.{IfKnown}
use Rattle.resolve_check.specs.declared.outcome.RunFault.{RunFault}
use Rattle.resolve_check.specs.declared.outcome.RunFault.TheVariants.{Reader, TooLong, Memory, Ids, Writer}
use Rattle.resolvo_text.specs.Lines.{lines_of, newlines}

-- the line between the two
abbrev pub parting : List ℕ
parting = codes "---"

-- Whole lines, none of which is the parting line.
pub record IsAbove (text : List ℕ) : Type 0 where
  pub whole_lines : (text ≡ []) ⊎ ((above : List ℕ) × (text ≡ above ++ 10 ∷ []))
  pub not_parted : Contains (lines_of text) parting → ⊥

-- The catalogue is the part above the first parting line, the request the part below it. Where
-- there is no such line, all is the catalogue, and the request is empty.
pub data IsSplit (input catalogue request : List ℕ) : Type 0 where
  parted : IsAbove catalogue → input ≡ catalogue ++ (parting ++ 10 ∷ request) → IsSplit input catalogue request
  parted_at_end : IsAbove catalogue → input ≡ catalogue ++ parting → request ≡ [] → IsSplit input catalogue request
  undivided : (Contains (lines_of input) parting → ⊥) → catalogue ≡ input → request ≡ [] → IsSplit input catalogue request

-- ---- one line of it

-- The text is this line, and where it has a newline, that and the rest.
pub record IsFirstLine (text line : List ℕ) (rest : Option (List ℕ)) : Type 0 where
  pub no_newline : newlines line ≡ 0
  pub text_is : MatchOption rest (text ≡ line) (λ r. text ≡ line ++ 10 ∷ r)

-- ---- reading it

-- When reading standard input may fail so: where the reader failed, and past the most bytes.
abbrev pub IsInputFault : RunFault → Option (List ℕ) → ℕ → Type 0 → Type 0
IsInputFault Reader known limit failed = failed
IsInputFault TooLong known limit failed = IfKnown known (λ bytes. limit < length bytes)
IsInputFault Memory known limit failed = ⊤
IsInputFault Ids known limit failed = ⊥
IsInputFault Writer known limit failed = ⊥
