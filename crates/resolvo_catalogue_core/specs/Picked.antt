-- Versions of a package, picked by their numbers.
use Rattle.std.specs.Prelude.{◌≡◌, ◌↔◌, ◌⊎◌, ℕ, ◌<◌, ◌≤◌, Bool, true, false, not, List, Some, slice_get}
use Rattle.std.specs.Option.{option_map}
use Rattle.std.specs.BTreeSet.{BTreeSet, contains, IsOrdered}
use Rattle.std.specs.Ordering.{nat_cmp}
use Rattle.resolvo_text.specs.declared.spec.Span.{Span}
use Rattle.resolvo_text.specs.Line.{Version, Spec}
use Rattle.resolvo_text.specs.Matches.{is_in_span}
use Rattle.resolvo_catalogue_core.specs.declared.rule.VersionNo.{VersionNo}
use Rattle.resolvo_catalogue_core.specs.Questions.{number_of}
use Rattle.resolvo_catalogue_core.specs.Numbered.{beside}

-- Version n has a number that passes.
abbrev pub IsAmong : List ℕ → List VersionNo → (ℕ → Bool) → ℕ → Type 0
IsAmong ns vs t n = (k : ℕ) × (t k ≡ true) × (option_map number_of (beside ns vs k) ≡ Some n)

-- Version n is at one of these places.
abbrev pub IsPlaced : List VersionNo → ℕ → ℕ → ℕ → Type 0
IsPlaced vs first last n = (i : ℕ) × (v : VersionNo) × (first ≤ i) × (i < last) × (slice_get vs i ≡ Some v) × (v.0 ≡ n)

-- The second set has the elements of the first one, and each number of which P is true.
abbrev pub AddsEach : BTreeSet ℕ → (ℕ → Type 0) → BTreeSet ℕ → Type 0
AddsEach before P after = (n : ℕ) → (contains nat_cmp after n ≡ true) ↔ ((contains nat_cmp before n ≡ true) ⊎ P n)

-- The set has each number of which P is true, in order.
abbrev pub HasEach : (ℕ → Type 0) → BTreeSet ℕ → Type 0
HasEach P set = ((n : ℕ) → (contains nat_cmp set n ≡ true) ↔ P n) × IsOrdered nat_cmp set

-- the span has the number, or else hasn't
abbrev pub is_picked : Span → Bool → ℕ → Bool
is_picked span true k = not (is_in_span span k)
is_picked span false k = is_in_span span k

-- Version n is of the SPEC's package, and its number is in the span, or else isn't.
abbrev pub IsPicked : List Version → Spec → Bool → ℕ → Type 0
IsPicked versions s outside n = (v : Version) × (slice_get versions n ≡ Some v) × (v.name ≡ s.name) × (is_picked s.span outside v.number ≡ true)
