-- Devices before a run or a check and after it, and how reading the first two texts stops.
use Rattle.std.specs.Prelude.{◌≡◌, ℕ, List, Option}
use Rattle.resolvo_text.specs.Device.{IfKnown}
use Rattle.resolvo_text.specs.Line.{Line}
use Rattle.resolvo_text.specs.Sources.{SourceFailed, SinkFailed}
use Rattle.resolvo_text.specs.declared.device.Source as source
use Rattle.resolvo_text.specs.declared.device.Sink as sink
use Rattle.resolvo_text.specs.Texts.{IsGrammatical, IsFaultyAt, IsTextFault}
use Rattle.resolvo_text.specs.declared.lines.ReadFault.{ReadFault}
use Rattle.resolvo_catalogue_core.specs.Grammar.{IsCatalogueLine, IsRequestLine}

-- A reader or a writer, before a run and after it: its bytes, where it knows them, and the fact that it failed.
pub record Device : Type 1 where
  pub before : Option (List ℕ)
  pub after : Option (List ℕ)
  pub Failed : Type 0

abbrev pub reader_of : Option (List ℕ) → Option (List ℕ) → Type 0 → Device
reader_of before after Failed = record { before = before; after = after; Failed = Failed }

abbrev pub writer_of : Option (List ℕ) → Option (List ℕ) → Type 0 → Device
writer_of before after Failed = record { before = before; after = after; Failed = Failed }

-- a source with these members, before a call and after it
abbrev pub reader_at : {S : Type 0} → source.Ghosts S → S → S → Device
reader_at d before after = reader_of (d.left before) (d.left after) (SourceFailed d before after)

-- a sink with these members, before a call and after it
abbrev pub writer_at : {S : Type 0} → sink.Ghosts S → S → S → Device
writer_at d before after = writer_of (d.contents before) (d.contents after) (SinkFailed d before after)

-- the most bytes of a catalogue or a request
abbrev pub text_limit : ℕ
text_limit = 16777216

-- Reading the catalogue stopped so, and the request wasn't read; or the catalogue was read to its end, and reading the
-- request stopped so.
pub data StopsReading (fault : ReadFault) (catalogue request : Device) : Type 0 where
  in_catalogue : IsTextFault IsCatalogueLine fault catalogue.before catalogue.after text_limit catalogue.Failed → request.after ≡ request.before → StopsReading fault catalogue request
  in_request : (lines : List Line) → IfKnown catalogue.before (λ text. IsGrammatical IsCatalogueLine text lines)
      → IsTextFault (IsRequestLine lines) fault request.before request.after text_limit request.Failed → StopsReading fault catalogue request

-- A property where the catalogue has a faulty line.
abbrev pub IfCatalogueFaulty : Option (List ℕ) → Type 0 → Type 0
IfCatalogueFaulty catalogue P = IfKnown catalogue (λ c. (n : ℕ) → IsFaultyAt IsCatalogueLine c n → P)

-- A property where the catalogue has no faulty line, and the request over it has one.
abbrev pub IfRequestFaulty : Option (List ℕ) → Option (List ℕ) → Type 0 → Type 0
IfRequestFaulty catalogue request P = IfKnown catalogue (λ c. IfKnown request (λ r. (lines : List Line) (n : ℕ) → IsGrammatical IsCatalogueLine c lines → IsFaultyAt (IsRequestLine lines) r n → P))
