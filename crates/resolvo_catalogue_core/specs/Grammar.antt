-- The grammar of a catalogue and of a request: which line may follow which lines.
use Rattle.std.specs.Prelude.{◌≡◌, ℕ, zero, suc, ⊤, List, [], ◌∷◌, take, Option, Some, None, slice_get, Contains}
use Rattle.resolvo_text.specs.Line.{Version, Line, Skipped, Listed, Needs, Limits, Unknown, Lock, Favour, Exclude, Many, Wish}
use Rattle.resolvo_text.specs.Spelling.{SpellsLine}

-- ---- lines by their numbers, from 1

abbrev pub line_at : List Line → ℕ → Option Line
line_at lines zero = None
line_at lines (suc n) = slice_get lines n

abbrev pub lines_above : List Line → ℕ → List Line
lines_above lines zero = []
lines_above lines (suc n) = take n lines

-- the later of two, where there is one
abbrev pub later : Option Version → Option Version → Option Version
later first None = first
later first (Some v) = Some v

abbrev pub version_of : Line → Option Version
version_of (Listed v) = Some v
version_of _ = None

-- the version that a line below these belongs to: that of the nearest `version` line
abbrev pub owner_below : List Line → Option Version
owner_below [] = None
owner_below (line ∷ lines) = later (version_of line) (owner_below lines)

-- the version that line n of a catalogue belongs to
abbrev pub owner_of : List Line → ℕ → Option Version
owner_of lines n = owner_below (lines_above lines n)

-- ---- which line may follow the lines before it

-- Line n marks the version's needs as unknown.
abbrev pub MarksUnknown : List Line → ℕ → Version → Type 0
MarksUnknown lines n v = (reason : List ℕ) × (line_at lines n ≡ Some (Unknown reason)) × (owner_of lines n ≡ Some v)

-- A `needs`, `limits` or `unknown` line has an owner. A version, its exclusion, its unknown mark, and a
-- package's lock, favour and `many` line are given once. Locked, favoured and excluded versions are listed above.
-- No version of a package is listed above its `many` line.
abbrev pub MayFollow : List Line → Line → Type 0
MayFollow before Skipped = ⊤
MayFollow before (Listed v) = Contains before (Listed v) → ⊥
MayFollow before (Needs alternatives condition) = (v : Version) × (owner_below before ≡ Some v)
MayFollow before (Limits s) = (v : Version) × (owner_below before ≡ Some v)
MayFollow before (Unknown reason) = (v : Version) × (owner_below before ≡ Some v) × ((n : ℕ) → MarksUnknown before n v → ⊥)
MayFollow before (Lock v) = Contains before (Listed v) × ((n : ℕ) → Contains before (Lock (record { name = v.name; number = n })) → ⊥)
MayFollow before (Favour v) = Contains before (Listed v) × ((n : ℕ) → Contains before (Favour (record { name = v.name; number = n })) → ⊥)
MayFollow before (Exclude v reason) = Contains before (Listed v) × ((other : List ℕ) → Contains before (Exclude v other) → ⊥)
MayFollow before (Many name) = (Contains before (Many name) → ⊥) × ((n : ℕ) → Contains before (Listed (record { name = name; number = n })) → ⊥)
MayFollow before (Wish v) = ⊥

-- A wish is for a listed version, and given once.
abbrev pub MayFollowInRequest : List Line → List Line → Line → Type 0
MayFollowInRequest catalogue before Skipped = ⊤
MayFollowInRequest catalogue before (Needs alternatives condition) = ⊤
MayFollowInRequest catalogue before (Limits s) = ⊤
MayFollowInRequest catalogue before (Wish v) = Contains catalogue (Listed v) × (Contains before (Wish v) → ⊥)
MayFollowInRequest catalogue before (Listed v) = ⊥
MayFollowInRequest catalogue before (Unknown reason) = ⊥
MayFollowInRequest catalogue before (Lock v) = ⊥
MayFollowInRequest catalogue before (Favour v) = ⊥
MayFollowInRequest catalogue before (Exclude v reason) = ⊥
MayFollowInRequest catalogue before (Many name) = ⊥

-- ---- the two grammars

-- After these lines the text spells this line.
pub record IsCatalogueLine (before : List Line) (text : List ℕ) (line : Line) : Type 0 where
  pub parsed : SpellsLine text line
  pub place : MayFollow before line

pub record IsRequestLine (catalogue before : List Line) (text : List ℕ) (line : Line) : Type 0 where
  pub parsed : SpellsLine text line
  pub place : MayFollowInRequest catalogue before line

-- ---- lines that were read

-- Each line is one that some text spells after the lines above it.
abbrev pub AreCatalogueLines : List Line → Type 0
AreCatalogueLines lines = (n : ℕ) (line : Line) → slice_get lines n ≡ Some line → (text : List ℕ) × IsCatalogueLine (take n lines) text line

abbrev pub AreRequestLines : List Line → List Line → Type 0
AreRequestLines catalogue lines = (n : ℕ) (line : Line) → slice_get lines n ≡ Some line → (text : List ℕ) × IsRequestLine catalogue (take n lines) text line
