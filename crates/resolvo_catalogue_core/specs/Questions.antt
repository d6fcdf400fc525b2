-- The answers to the questions about a catalogue and a request.
use Rattle.std.specs.Prelude.{◌≡◌, ◌≢◌, ◌↔◌, ◌⊎◌, ℕ, Bool, true, false, ⊤, List, [], Option, Some, None, Contains, slice_get}
use Rattle.std.specs.List.Sorted.{IsStrictlyIncreasing}
use Rattle.std.specs.String.{string_bytes}
use Rattle.resolvo_text.specs.Line.{Version, Spec, Line, Skipped, Listed, Needs, Limits, Unknown, Lock, Favour, Exclude, Many, Wish}
use Rattle.resolvo_text.specs.Cases.{condition_cases}
use Rattle.resolvo_text.specs.View.{spec_of, specs_of, list_of, condition_of}
use Rattle.resolvo_catalogue_core.specs.Grammar.{line_at, owner_of}
use Rattle.resolvo_catalogue_core.specs.declared.rule.VersionNo.{VersionNo}
use Rattle.resolvo_catalogue_core.specs.declared.rule.Rule.{Rule}
use Rattle.resolvo_catalogue_core.specs.declared.rule.Rule.TheVariants as rule
use Rattle.resolvo_catalogue_core.specs.declared.rule.FoundRule.{FoundRule}

-- ---- numbers

-- It is the one number of which P is true, or there is none.
abbrev pub IsOnly : Option ℕ → (ℕ → Type 0) → Type 0
IsOnly found P = (n : ℕ) → (found ≡ Some n) ↔ P n

-- The list has the numbers of which P is true, rising.
pub record AreAll (numbers : List ℕ) (P : ℕ → Type 0) : Type 0 where
  pub rising : IsStrictlyIncreasing numbers
  pub all : (n : ℕ) → Contains numbers n ↔ P n

abbrev pub number_of : VersionNo → ℕ
number_of v = v.0

-- version n is of the package
abbrev pub IsOfPackage : List Version → List ℕ → ℕ → Type 0
IsOfPackage versions name n = (v : Version) × (slice_get versions n ≡ Some v) × (v.name ≡ name)

-- ---- lines

-- Line n has the property, which is one of a line and its owner.
abbrev pub LineIs : List Line → ℕ → (Option Version → Line → Type 0) → Type 0
LineIs lines n Q = (line : Line) × (line_at lines n ≡ Some line) × Q (owner_of lines n) line

-- a `needs`, `limits` or `unknown` line of the version
abbrev pub BelongsTo : Version → Option Version → Line → Type 0
BelongsTo v owner (Needs alternatives condition) = owner ≡ Some v
BelongsTo v owner (Limits s) = owner ≡ Some v
BelongsTo v owner (Unknown reason) = owner ≡ Some v
BelongsTo v owner _ = ⊥

-- an `unknown` line of the version
abbrev pub MarksUnknownOf : Version → Option Version → Line → Type 0
MarksUnknownOf v owner (Unknown reason) = owner ≡ Some v
MarksUnknownOf v owner _ = ⊥

-- a line that locks a version of the package
abbrev pub Locks : List ℕ → Option Version → Line → Type 0
Locks name owner (Lock w) = w.name ≡ name
Locks name owner _ = ⊥

-- a line that locks another version of this version's package
abbrev pub LocksAnother : Version → Option Version → Line → Type 0
LocksAnother v owner (Lock w) = (w.name ≡ v.name) × (w.number ≢ v.number)
LocksAnother v owner _ = ⊥

abbrev pub Favours : List ℕ → Option Version → Line → Type 0
Favours name owner (Favour w) = w.name ≡ name
Favours name owner _ = ⊥

abbrev pub Excludes : Version → Option Version → Line → Type 0
Excludes v owner (Exclude w reason) = w ≡ v
Excludes v owner _ = ⊥

abbrev pub IsFavour : Option Version → Line → Type 0
IsFavour owner (Favour w) = ⊤
IsFavour owner _ = ⊥

abbrev pub IsWish : Option Version → Line → Type 0
IsWish owner (Wish w) = ⊤
IsWish owner _ = ⊥

-- a line that marks the package `many`
abbrev pub MarksMany : List ℕ → Option Version → Line → Type 0
MarksMany name owner (Many marked) = marked ≡ name
MarksMany name owner _ = ⊥

-- a line of version k with this content
abbrev pub IsVersionLine : List Version → List Line → ℕ → (Version → Option Version → Line → Type 0) → ℕ → Type 0
IsVersionLine versions lines k Q n = (v : Version) × (slice_get versions k ≡ Some v) × LineIs lines n (Q v)

-- This line favours this version.
abbrev pub FavoursAt : List Version → List Line → ℕ × VersionNo → Type 0
FavoursAt versions lines f = (v : Version) × (slice_get versions f.1.0 ≡ Some v) × (line_at lines f.0 ≡ Some (Favour v))

-- a line that wishes the version
abbrev pub Wishes : Version → Option Version → Line → Type 0
Wishes v owner (Wish w) = w ≡ v
Wishes v owner _ = ⊥

-- This line wishes this version.
abbrev pub WishesAt : List Version → List Line → ℕ × VersionNo → Type 0
WishesAt versions lines f = (v : Version) × (slice_get versions f.1.0 ≡ Some v) × (line_at lines f.0 ≡ Some (Wish v))

-- the line that forbids the version: one that locks another version of its package, or else one that excludes it
abbrev pub Forbids : List Line → Version → ℕ → Type 0
Forbids lines v n = LineIs lines n (LocksAnother v) ⊎ (((m : ℕ) → LineIs lines m (LocksAnother v) → ⊥) × LineIs lines n (Excludes v))

-- ---- requests

-- A request: its lines, and its wishes as lines and numbers of versions of its catalogue.
pub record ReadRequest : Type 0 where
  pub lines : List Line
  pub wishes : List (ℕ × VersionNo)

-- ---- rules

-- the rule that was found
abbrev pub rule_found : FoundRule → Rule
rule_found (FoundRule.Lent r) = r.now
rule_found (FoundRule.Made r) = r

abbrev pub is_rule : Line → Bool
is_rule (Needs alternatives condition) = true
is_rule (Limits s) = true
is_rule (Unknown reason) = true
is_rule (Lock w) = true
is_rule (Exclude w reason) = true
is_rule Skipped = false
is_rule (Listed w) = false
is_rule (Favour w) = false
is_rule (Many name) = false
is_rule (Wish w) = false

-- The owner by its number is this one, where there is one.
abbrev pub IsOwner : List Version → Option VersionNo → Option Version → Type 0
IsOwner versions None owner = owner ≡ None
IsOwner versions (Some n) owner = (v : Version) × (slice_get versions n.0 ≡ Some v) × (owner ≡ Some v)

-- It is the rule of this line with this owner, versions being named by their numbers.
abbrev pub IsRuleLine : List Version → Rule → Option Version → Line → Type 0
IsRuleLine versions (rule.Needs of alternatives condition) owner line = (line ≡ Needs (specs_of (list_of alternatives)) (condition_of condition)) × IsOwner versions of owner
IsRuleLine versions (rule.Limits of spec) owner line = (line ≡ Limits (spec_of spec)) × IsOwner versions of owner
IsRuleLine versions (rule.Unknown of word) owner line = (line ≡ Unknown (string_bytes word)) × IsOwner versions (Some of) owner
IsRuleLine versions (rule.Lock locked) owner line = (v : Version) × (slice_get versions locked.0 ≡ Some v) × (line ≡ Lock v)
IsRuleLine versions (rule.Exclude excluded word) owner line = (v : Version) × (slice_get versions excluded.0 ≡ Some v) × (line ≡ Exclude v (string_bytes word))

-- the version that a line wishes: none, if it isn't a `wish` line
abbrev pub wished_in : Option Line → Option Version
wished_in (Some (Wish v)) = Some v
wished_in _ = None

-- the cases of a line: none, if it isn't a `needs` line
abbrev pub cases_of_line : Option Line → List (List Spec)
cases_of_line (Some (Needs alternatives condition)) = condition_cases condition
cases_of_line _ = []
