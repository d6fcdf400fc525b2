-- The state of the lister: the chosen versions by their packages, the lines in their order, and
-- the open ones.
use Rattle.std.specs.Prelude.{◌≡◌, ◌==◌, ℕ, zero, suc, ◌<◌, ◌↔◌, ◌≤◌, ◌+◌, ◌-◌, IsTrue, Bool, true, false, if◌then◌else◌, not, ⊤, ◌⊎◌, List, [], ◌∷◌, ◌++◌, length, map, Option, Some, None, Contains, slice_get}
use Rattle.std.specs.Option.{option_map, option_map_or, option_and_then}
use Rattle.std.specs.Str.{bytes_eq}
use Rattle.std.specs.BTreeMap.{BTreeMap, get}
use Rattle.std.specs.BTreeSet.{BTreeSet, btree_set_len, contains}
use Rattle.std.specs.Global.{Vec}
use Rattle.std.specs.Ordering.{nat_cmp}
use Rattle.std.specs.List.{list_any, sum_by}
use Rattle.resolvo_text.specs.Line.{Version, Spec, Cond, Is, And, Or, Line, Needs, Favour}
use Rattle.resolvo_text.specs.declared.spec.Span.{Span}
use Rattle.resolvo_text.specs.declared.spec.Span.TheVariants.{Any, One, Range}
use Rattle.resolvo_text.specs.Matches.{Set, is_member, matches, condition_holds}
use Rattle.resolvo_catalogue_core.specs.Answers as answers
use Rattle.resolvo_catalogue_core.specs.Answers.{entries_of, IsNeededBy}
use Rattle.resolvo_catalogue_core.specs.Listed.{listed, AreDistinct}
use Rattle.resolvo_catalogue_core.specs.Kept.{nth}
use Rattle.resolvo_catalogue_core.specs.declared.rule.VersionNo.{VersionNo}
use Rattle.resolve_order.specs.Order.{line_named, IsAsked, Precedes, IsSorted, IsOfFirst, IsNext, IsComplete, AreInOrder, Turn, IsOneTurn}
use Rattle.resolve_order.specs.View.{reason_of, answers_of, AreNumbered}
use Rattle.resolve_order.specs.Keys.{number_of, places_of}
use Rattle.resolve_order.specs.Numbers.{version_in}
use Rattle.resolve_order.specs.declared.version_table.VersionTable.{VersionTable}
use Rattle.resolve_order.specs.declared.chosen.Chosen.{Chosen}
use Rattle.resolve_order.specs.declared.chosen.LineState.{LineState}
use Rattle.resolve_order.specs.declared.chosen.LineState.TheVariants as state
use Rattle.resolve_order.specs.declared.entry.Reason.{Reason}
use Rattle.resolve_order.specs.declared.entry.Reason.TheVariants as reason
use Rattle.resolve_order.specs.declared.entry.Entry.{Entry}
use Rattle.resolve_order.specs.declared.install_order.InstallOrder.{InstallOrder}
use Rattle.resolve_order.specs.declared.open_lines.OpenLines.{OpenLines}
use Rattle.resolve_order.specs.declared.package_lines.PackageLines.{PackageLines}

-- ---- packages

-- the number of the first version of the package, if it has one
abbrev pub first_of : List Version → List ℕ → Option ℕ
first_of [] name = None
first_of (v ∷ versions) name = if bytes_eq v.name name then Some 0 else option_map suc (first_of versions name)

-- the same of the package of version n
abbrev pub package_at : List Version → ℕ → Option ℕ
package_at versions n = option_and_then (λ v. first_of versions v.name) (slice_get versions n)

-- the versions of a package by their numbers, where it is known by the number of its first version
abbrev pub numbers_in : VersionTable → Option ℕ → ℕ → Option VersionNo
numbers_in table None = λ n. None
numbers_in table (Some k) = version_in table k

abbrev pub by_name : List Version → VersionTable → List ℕ → ℕ → Option VersionNo
by_name versions table name = numbers_in table (first_of versions name)

-- The version of this number has this number of its package's first version, and this number of its own.
abbrev pub IsPlaceOf : List Version → ℕ → Option (ℕ × ℕ) → Type 0
IsPlaceOf versions n None = slice_get versions n ≡ None
IsPlaceOf versions n (Some place) = (v : Version) × (slice_get versions n ≡ Some v) × (first_of versions v.name ≡ Some place.0) × (v.number ≡ place.1)

-- ---- chosen versions

-- These are the versions of the package in the set.
abbrev pub AreNumbersOf : List Version → (Version → Type 0) → List ℕ → (ℕ → Option VersionNo) → Type 0
AreNumbersOf versions P name numbers = (number : ℕ) (k : VersionNo) → (numbers number ≡ Some k)
    ↔ ((v : Version) × (slice_get versions k.0 ≡ Some v) × (v.name ≡ name) × (v.number ≡ number) × P v)

-- a chosen version that is no entry
abbrev pub IsLeftOver : Set → Set → Version → Type 0
IsLeftOver chosen entries v = Contains chosen v × (Contains entries v → ⊥)

-- It is the favoured version of the package, the only one, or there is none.
abbrev pub IsFavouredOf : List Line → List ℕ → Option VersionNo → Type 0
IsFavouredOf catalogue name None = (v : Version) → Contains catalogue (Favour v) → v.name ≡ name → ⊥
IsFavouredOf catalogue name (Some k) = (v : Version) × (slice_get (listed catalogue) k.0 ≡ Some v) × (v.name ≡ name) × Contains catalogue (Favour v)
    × ((w : Version) → Contains catalogue (Favour w) → w.name ≡ name → w ≡ v)

-- what a map by first versions has for the package
abbrev pub favoured_in : List Version → BTreeMap ℕ VersionNo → List ℕ → Option VersionNo
favoured_in versions map name = option_and_then (λ k. get nat_cmp map k) (first_of versions name)

-- version n is in the catalogue, and is no entry
abbrev pub is_unlisted : List Bool → ℕ → Bool
is_unlisted flags n = option_map_or not (slice_get flags n) false

abbrev pub weight : Bool → ℕ
weight true = 0
weight false = 1

-- how many versions of the catalogue are no entries
abbrev pub unlisted : List Bool → ℕ
unlisted flags = sum_by weight flags

-- It is the version of one of the numbers.
abbrev pub IsIn : List Version → List VersionNo → Version → Type 0
IsIn versions numbers v = (n : VersionNo) × Contains numbers n × (slice_get versions n.0 ≡ Some v)

-- These are the chosen versions, each of the catalogue, and these of them are entries. Chosen versions that are none
-- are among those left.
pub record Holds (catalogue : List Line) (kept : Chosen) (chosen entries : Set) : Type 0 where
  pub unlisted : (name : List ℕ) → AreNumbersOf (listed catalogue) (IsLeftOver chosen entries) name (by_name (listed catalogue) kept.unlisted name)
  pub entered : (name : List ℕ) → AreNumbersOf (listed catalogue) (Contains entries) name (by_name (listed catalogue) kept.entries name)
  pub favoured : (name : List ℕ) → IsFavouredOf catalogue name (favoured_in (listed catalogue) kept.favoured name)
  pub flags : (n : ℕ) (v : Version) → slice_get (listed catalogue) n ≡ Some v → slice_get kept.listed.items n ≡ Some (is_member v entries)
  pub distinct : AreDistinct (listed catalogue)
  pub among : (v : Version) → Contains entries v → Contains chosen v
  pub known : (v : Version) → Contains chosen v → (n : VersionNo) × (slice_get (listed catalogue) n.0 ≡ Some v)
  pub left : (v : Version) → Contains chosen v → Contains entries v ⊎ IsIn (listed catalogue) kept.left.items v

-- It is favoured, a match, chosen and no entry; or no version is all of these.
abbrev pub IsFavouredMatch : List Line → Set → Set → Spec → Option VersionNo → Type 0
IsFavouredMatch catalogue chosen entries s None = (w : Version) → Contains catalogue (Favour w) → IsTrue (matches s w) → IsLeftOver chosen entries w → ⊥
IsFavouredMatch catalogue chosen entries s (Some n) = (v : Version) × (slice_get (listed catalogue) n.0 ≡ Some v) × Contains catalogue (Favour v) × IsTrue (matches s v) × IsLeftOver chosen entries v

-- Of the matches among the chosen versions that are no entries it is the first, or there is none.
abbrev pub IsUnlistedMatch : List Line → Set → Set → Spec → Option VersionNo → Type 0
IsUnlistedMatch catalogue chosen entries s None = (w : Version) → Contains chosen w → IsTrue (matches s w) → Contains entries w
IsUnlistedMatch catalogue chosen entries s (Some n) = (v : Version) × (slice_get (listed catalogue) n.0 ≡ Some v) × IsTrue (matches s v) × IsLeftOver chosen entries v
    × ((w : Version) → IsTrue (matches s w) → IsLeftOver chosen entries w → (w ≡ v) ⊎ IsSorted catalogue v w)

-- such a match of the first alternative that has one
abbrev pub IsFirstMatch : List Line → Set → Set → List Spec → Option VersionNo → Type 0
IsFirstMatch catalogue chosen entries alternatives None = (t : Spec) (w : Version) → Contains alternatives t → IsTrue (matches t w) → Contains chosen w → Contains entries w
IsFirstMatch catalogue chosen entries alternatives (Some n) = (v : Version) × (slice_get (listed catalogue) n.0 ≡ Some v) × IsLeftOver chosen entries v
    × ((above : List Spec) × (s : Spec) × (below : List Spec) × (alternatives ≡ above ++ s ∷ below) × IsTrue (matches s v)
    × ((w : Version) → IsTrue (matches s w) → IsLeftOver chosen entries w → (w ≡ v) ⊎ IsSorted catalogue v w)
    × ((t : Spec) (w : Version) → Contains above t → IsTrue (matches t w) → Contains chosen w → Contains entries w))

-- ---- one line

-- Each match of the line among the chosen versions is an entry.
abbrev pub IsSpent : Set → Set → Option Line → Type 0
IsSpent chosen entries line = (alternatives : List Spec) (condition : Option Cond) (w : Version) → line ≡ Some (Needs alternatives condition)
    → IsTrue (list_any (λ s. matches s w) alternatives) → Contains chosen w → Contains entries w

-- The line's condition doesn't hold among the entries.
abbrev pub IsWaiting : Set → Option Line → Type 0
IsWaiting entries line = (alternatives : List Spec) (condition : Option Cond) → line ≡ Some (Needs alternatives condition) → condition_holds condition entries ≡ false

abbrev pub IsLineState : List Line → Set → Set → Option Line → LineState → Type 0
IsLineState catalogue chosen entries line state.Spent = IsSpent chosen entries line
IsLineState catalogue chosen entries line state.Waiting = IsWaiting entries line
IsLineState catalogue chosen entries line (state.Gives n) = (v : Version) × (slice_get (listed catalogue) n.0 ≡ Some v) × Contains chosen v × (Contains entries v → ⊥)
    × IsNeededBy entries line v × IsOfFirst catalogue chosen entries line v

abbrev pub IfGives : LineState → (VersionNo → Type 0) → Type 0
IfGives state.Spent P = ⊤
IfGives state.Waiting P = ⊤
IfGives (state.Gives n) P = P n

-- ---- all lines

-- Each is before all after it.
abbrev pub AreOrdered : {X : Type 0} → (X → X → Type 0) → List X → Type 0
AreOrdered R [] = ⊤
AreOrdered R (x ∷ xs) = ((y : _) → Contains xs y → R x y) × AreOrdered R xs

-- The lines that ask for versions, in their order.
pub record AreLines (catalogue request : List Line) (entries : Set) (lines : List Reason) : Type 0 where
  pub asked : (r : Reason) → Contains lines r → IsAsked catalogue entries (reason_of (listed catalogue) r)
  pub each : (reason : answers.Reason) (alternatives : List Spec) (condition : Option Cond) → IsAsked catalogue entries reason
      → line_named catalogue request reason ≡ Some (Needs alternatives condition) → (r : Reason) × Contains lines r × (reason_of (listed catalogue) r ≡ reason)
  pub ordered : AreOrdered (λ a b. Precedes entries (reason_of (listed catalogue) a) (reason_of (listed catalogue) b)) lines

abbrev pub answers_in : List Line → InstallOrder → List answers.Answer
answers_in catalogue x = answers_of (listed catalogue) x.answers.items

abbrev pub entries_in : List Line → InstallOrder → Set
entries_in catalogue x = entries_of (answers_in catalogue x)

-- ---- lines by versions

-- whether line i is among the lines of a key
abbrev pub has_line : Option (Vec ℕ) → ℕ → Bool
has_line None i = false
has_line (Some lines) i = list_any (λ j. j == i) lines.items

-- the list of a number
abbrev pub list_at : List (Vec ℕ) → Option ℕ → Option (Vec ℕ)
list_at lists number = option_and_then (λ n. slice_get lists n) number

-- whether line i is kept by key p
abbrev pub is_kept : PackageLines → ℕ → ℕ → Bool
is_kept t p i = has_line (list_at t.lines.items (number_of (places_of t.keys.places) p)) i

-- The key of a SPEC is the number of the one version that it may match, or else that of its package's first version.
abbrev pub IsKeyOf : List Version → List ℕ → Span → ℕ → Type 0
IsKeyOf versions name (One number) k = slice_get versions k ≡ Some (record { name = name; number = number })
IsKeyOf versions name Any k = first_of versions name ≡ Some k
IsKeyOf versions name (Range low high) k = first_of versions name ≡ Some k

-- The line is kept by the key of the SPEC, if it has one.
abbrev pub IsKeptFor : List Version → PackageLines → ℕ → Spec → Type 0
IsKeptFor versions t i s = (k : ℕ) → IsKeyOf versions s.name s.span k → is_kept t k i ≡ true

-- the same of each of the SPECs
abbrev pub IsKeptForAll : List Version → PackageLines → ℕ → List Spec → Type 0
IsKeptForAll versions t i specs = (s : Spec) → Contains specs s → IsKeptFor versions t i s

-- The second keeps each line that the first keeps.
abbrev pub KeepsAll : PackageLines → PackageLines → Type 0
KeepsAll before after = (p i : ℕ) → is_kept before p i ≡ true → is_kept after p i ≡ true

-- the SPECs of a condition
abbrev pub specs_in : Cond → List Spec
specs_in (Is s) = s ∷ []
specs_in (And a b) = specs_in a ++ specs_in b
specs_in (Or a b) = specs_in a ++ specs_in b

abbrev pub specs_under : Option Cond → List Spec
specs_under None = []
specs_under (Some c) = specs_in c

-- ---- open lines

-- Line i is among those to look at again, or none of the lines before `below`.
abbrev pub IsOpen : BTreeSet ℕ → ℕ → ℕ → Type 0
IsOpen again below i = (contains nat_cmp again i ≡ true) ⊎ (below ≤ i)

-- Lines to look at again are before `below`, and all of these are in a list of this length.
pub record AreWithin (again : BTreeSet ℕ) (below count : ℕ) : Type 0 where
  pub bound : below ≤ count
  pub all : (i : ℕ) → contains nat_cmp again i ≡ true → i < below

-- the least of the lines to look at again, or else the first of the others
pub record IsFirstOpen (again : BTreeSet ℕ) (below i : ℕ) : Type 0 where
  pub is_open : (contains nat_cmp again i ≡ true) ⊎ ((i ≡ below) × ((j : ℕ) → contains nat_cmp again j ≡ true → ⊥))
  pub least : (j : ℕ) → contains nat_cmp again j ≡ true → i ≤ j

-- how many of the lines of a list are to be looked at
abbrev pub open_count : OpenLines → ℕ → ℕ
open_count x count = btree_set_len x.again + (count - x.below)

-- Line i alone is closed, and no line is kept by fewer keys. Lines that were closed before still are.
pub record Closes (before after : OpenLines) (i : ℕ) : Type 0 where
  pub others : (j : ℕ) → (j ≡ i → ⊥) → IsOpen before.again before.below j → IsOpen after.again after.below j
  pub within : (count : ℕ) → i < count → AreWithin before.again before.below count → AreWithin after.again after.below count
  pub fewer : (count : ℕ) → i < count → open_count after count < open_count before count
  pub closed : (j : ℕ) → Contains before.closed.items j → Contains after.closed.items j
  pub spent : KeepsAll before.spent after.spent
  pub waiting : KeepsAll before.waiting after.waiting

-- It is a key of a version with this number, in the package whose first version has this one.
abbrev pub IsVersionKey : ℕ → Option ℕ → ℕ → Type 0
IsVersionKey n p k = (n ≡ k) ⊎ (p ≡ Some k)

-- It is a key of version n.
abbrev pub IsKeyAt : List Version → ℕ → ℕ → Type 0
IsKeyAt versions n k = IsVersionKey n (package_at versions n) k

-- The lines before `below` that are kept by such keys are opened. All others are open or kept as before.
pub record Reopens (before after : BTreeSet ℕ) (below : ℕ) (kept left : PackageLines) (IsOpened : ℕ → Type 0) : Type 0 where
  pub opened : (k i : ℕ) → IsOpened k → is_kept kept k i ≡ true → i < below → contains nat_cmp after i ≡ true
  pub stays : (i : ℕ) → contains nat_cmp before i ≡ true → contains nat_cmp after i ≡ true
  pub within : (i : ℕ) → contains nat_cmp after i ≡ true → (contains nat_cmp before i ≡ true) ⊎ (i < below)
  pub others : (k i : ℕ) → (IsOpened k → ⊥) → is_kept kept k i ≡ true → is_kept left k i ≡ true

-- The line is kept by the keys of its alternatives.
abbrev pub IsKeptByNeeds : List Version → PackageLines → ℕ → Option Line → Type 0
IsKeptByNeeds versions spent i line = (alternatives : List Spec) (condition : Option Cond) → line ≡ Some (Needs alternatives condition) → IsKeptForAll versions spent i alternatives

-- Each chosen match of the line is an entry. The line is kept by the keys of its alternatives, or is to be kept.
pub record IsSpentLine (versions : List Version) (chosen entries : Set) (closed : List ℕ) (spent : PackageLines) (i : ℕ) (line : Option Line) : Type 0 where
  pub is_spent : IsSpent chosen entries line
  pub kept : Contains closed i ⊎ IsKeptByNeeds versions spent i line

-- The line's condition doesn't hold, and the line is kept by the keys of its condition.
pub record IsWaitingLine (versions : List Version) (entries : Set) (waiting : PackageLines) (i : ℕ) (line : Option Line) : Type 0 where
  pub waits : IsWaiting entries line
  pub kept : (alternatives : List Spec) (condition : Option Cond) → line ≡ Some (Needs alternatives condition) → IsKeptForAll versions waiting i (specs_under condition)

-- Lines that aren't open give nothing, and are kept by the keys of the versions by which they may give one.
pub record OthersAreIdle (catalogue request : List Line) (chosen entries : Set) (lines : List Reason) (x : OpenLines) : Type 0 where
  pub within : AreWithin x.again x.below (length lines)
  pub each : (i : ℕ) (r : Reason) → slice_get lines i ≡ Some r → IsOpen x.again x.below i
      ⊎ (IsSpentLine (listed catalogue) chosen entries x.closed.items x.spent i (line_named catalogue request (reason_of (listed catalogue) r))
      ⊎ IsWaitingLine (listed catalogue) entries x.waiting i (line_named catalogue request (reason_of (listed catalogue) r)))

-- the next entry, if there is one
abbrev pub IsFound : List Line → List Line → Set → Set → Option Entry → Type 0
IsFound catalogue request chosen entries None = IsComplete catalogue request chosen entries
IsFound catalogue request chosen entries (Some e) = (e.version.0 < length (listed catalogue))
    × IsNext catalogue request chosen entries (reason_of (listed catalogue) e.reason) (nth (listed catalogue) e.version)

-- ---- a listing

-- Lines that aren't open are idle by the chosen versions that were seen.
pub record IsListing (catalogue request : List Line) (x : InstallOrder) (chosen seen : Set) : Type 0 where
  pub holds : Holds catalogue x.chosen chosen (entries_in catalogue x)
  pub lines : AreLines catalogue request (entries_in catalogue x) x.lines.items
  pub idle : OthersAreIdle catalogue request seen (entries_in catalogue x) x.lines.items x.open_lines
  pub numbered : AreNumbered (listed catalogue) x.answers.items

-- ---- the result of a listing

-- The second has these answers besides those of the first, each the next.
pub record Extends (catalogue request : List Line) (chosen : Set) (before after : InstallOrder) : Type 0 where
  pub listing : IsListing catalogue request after chosen chosen
  pub others : List answers.Answer
  pub more : answers_in catalogue after ≡ answers_in catalogue before ++ others
  pub in_order : AreInOrder catalogue request chosen (entries_in catalogue before) others

-- The second has the answers of the turn after those of the first.
pub record TakesTurn (catalogue request : List Line) (chosen : Set) (t : Turn) (before after : InstallOrder) : Type 0 where
  pub listing : IsListing catalogue request after chosen chosen
  pub others : List answers.Answer
  pub more : answers_in catalogue after ≡ answers_in catalogue before ++ others
  pub is_turn : IsOneTurn catalogue request chosen (entries_in catalogue before) t others

-- the request's lines up to line n
abbrev pub lines_to : ℕ → List Reason
lines_to zero = []
lines_to (suc n) = lines_to n ++ reason.ForRequest (suc n) ∷ []

-- lines of a version
abbrev pub lines_for : VersionNo → List ℕ → List Reason
lines_for version numbers = map (λ n. reason.ForVersion version n) numbers
