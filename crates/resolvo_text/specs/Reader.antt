-- A reader of lines, with the device that it reads from.
use Rattle.std.specs.Prelude.{◌≡◌, ℕ, ◌+◌, ◌<◌, ◌≤◌, ⊤, Bool, true, false, if◌then◌else◌, List, [], ◌∷◌, ◌++◌, length, take, drop, Option, Some}
use Rattle.std.specs.List.{slice_range}
use Rattle.std.specs.Io.KnownBytes.{Consumes, prepend_known}
use Rattle.resolvo_text.specs.Device.{IfKnown}
use Rattle.resolvo_text.specs.Lines.{lines_of, newlines}
use Rattle.resolvo_text.specs.declared.lines.LineReader.{LineReader}
use Rattle.resolvo_text.specs.declared.lines.ReadFault.{ReadFault}
use Rattle.resolvo_text.specs.declared.lines.ReadFault.TheVariants.{Fault, Reader, TooLong, Memory, Ids}

-- the bytes of the piece that were not taken yet
abbrev pub unread : LineReader → List ℕ
unread r = drop r.at (take r.end r.piece.items)

-- the rest of the text, where the device knows it
abbrev pub left : LineReader → Option (List ℕ) → Option (List ℕ)
left r remaining = prepend_known (unread r) remaining

-- the last line that was taken
abbrev pub last_line : LineReader → List ℕ
last_line r = if r.in_place then slice_range r.piece.items r.line_begin r.line_end else r.line.items

-- A line of so many bytes lies ahead in the piece with its newline, and there is room for it.
pub record IsAhead (r : LineReader) (count : ℕ) : Type 0 where
  pub within : r.at + count < r.end
  pub room : count < r.room
  pub plain : newlines (slice_range r.piece.items r.at (r.at + count)) ≡ 0
  pub parts : unread r ≡ slice_range r.piece.items r.at (r.at + count) ++ 10 ∷ drop (r.at + count + 1) (take r.end r.piece.items)

-- A line was taken where it lies in the piece, with its newline.
pub record TakesInPlace (old new : LineReader) : Type 0 where
  pub parts : unread old ≡ last_line new ++ 10 ∷ unread new
  pub plain : newlines (last_line new) ≡ 0
  pub room : new.room + (length (last_line new) + 1) ≡ old.room

-- Bytes of the piece were appended to the line, none of them a newline.
pub record TakesPlain (old new : LineReader) : Type 0 where
  pub bytes : List ℕ
  pub piece : unread old ≡ bytes ++ unread new
  pub line : new.line.items ≡ old.line.items ++ bytes
  pub plain : newlines bytes ≡ 0
  pub room : new.room + length bytes ≡ old.room

-- Of these bytes a piece was taken, which is a line with its newline, or the last line. The rest is left.
pub record IsLine (bytes line piece rest : List ℕ) : Type 0 where
  pub parts : bytes ≡ piece ++ rest
  pub lines : lines_of bytes ≡ line ∷ lines_of rest
  pub one : newlines piece ≤ 1

-- Of the text that was left this line was taken, and its bytes from the room.
abbrev pub TakesLine : Option (List ℕ) → ℕ → List ℕ → Option (List ℕ) → ℕ → Type 0
TakesLine before room line after room_after = IfKnown before (λ bytes. (piece : List ℕ) × (rest : List ℕ)
    × (after ≡ Some rest) × IsLine bytes line piece rest × (length piece + room_after ≡ room))

-- A line was taken with its newline, or it was the last one and had none; and its bytes from the room.
abbrev pub EndsLine : Bool → Option (List ℕ) → ℕ → List ℕ → Option (List ℕ) → ℕ → Type 0
EndsLine true before room line after room_after = Consumes before after (line ++ 10 ∷ []) × (newlines line ≡ 0) × (room_after + (length line + 1) ≡ room)
EndsLine false before room line after room_after = Consumes before after line × IfKnown before (λ bytes. bytes ≡ line) × (newlines line ≡ 0) × (room_after + length line ≡ room)

-- Some of the bytes that were left were read, and no line ends among them.
abbrev pub NoLineReceived : Option (List ℕ) → Option (List ℕ) → Type 0
NoLineReceived before after = IfKnown before (λ bytes. (received : List ℕ) × (rest : List ℕ) × (after ≡ Some rest) × (bytes ≡ received ++ rest) × (newlines received ≡ 0))

-- When reading a line may fail so: the rest of the text before, the device's bytes after, the room before, and
-- that the device failed.
abbrev pub IsReadFault : ReadFault → Option (List ℕ) → Option (List ℕ) → ℕ → Type 0 → Type 0
IsReadFault (Fault n) before after room failed = ⊥
IsReadFault Reader before after room failed = failed × NoLineReceived before after
IsReadFault TooLong before after room failed = IfKnown before (λ bytes. (room < length bytes) × (newlines (take room bytes) ≡ 0))
IsReadFault Memory before after room failed = ⊤
IsReadFault Ids before after room failed = ⊥
