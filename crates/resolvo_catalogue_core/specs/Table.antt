-- A catalogue's lines as the code keeps them, and the invariants of its maps.
use Rattle.std.specs.Prelude.{◌≡◌, ℕ, ◌≤◌, ◌+◌, sum_by, ◌<◌, ◌==◌, if◌then◌else◌, bytes_eq, false, true, ⊤, List, [], ◌++◌, ◌∷◌, map, length, take, Option, Some, None, slice_get, string_bytes, option_map, option_and_then}
use Rattle.std.specs.BTreeMap.{BTreeMap, get, get_by_text}
use Rattle.std.specs.Ordering.{nat_cmp}
use Rattle.resolvo_text.specs.Line as parsed
use Rattle.resolvo_text.specs.Line.{Version, Line}
use Rattle.resolvo_terms.specs.Terms.{Terms, AreSound}
use Rattle.resolvo_terms.specs.Known.{place_of}
use Rattle.resolvo_terms.specs.TermCounts.{term_count, terms_for_line}
use Rattle.resolvo_catalogue_core.specs.Grammar.{owner_below, MayFollow, IsCatalogueLine}
use Rattle.resolvo_catalogue_core.specs.Listed.{listed, kept_versions, are_kept}
use Rattle.resolvo_catalogue_core.specs.Questions.{IsOnly, AreAll, LineIs, BelongsTo, MarksUnknownOf, Locks, Favours, MarksMany, Excludes, IsFavour, IsOfPackage, IsVersionLine, FavoursAt, number_of}
use Rattle.resolvo_catalogue_core.specs.LinesByVersion.{kept_of}
use Rattle.resolvo_catalogue_core.specs.declared.rule.VersionNo.{VersionNo}
use Rattle.resolvo_catalogue_core.specs.Kept.{nth, kept_line, IsGiven, IsKeptOf}
use Rattle.resolvo_catalogue_core.specs.LineKind.{LineKind}
use Rattle.resolvo_catalogue_core.specs.LineKind as line_kinds
use Rattle.resolvo_catalogue_core.specs.Held.{kind_list}
use Rattle.resolvo_catalogue_core.specs.declared.package.Package.{Package}
use Rattle.resolvo_catalogue_core.specs.declared.version_list.VersionList.{VersionList}
use Rattle.resolvo_catalogue_core.specs.Numbered.{beside, numbers_of, versions_of, AreNumbered, IsNumbered}
use Rattle.resolvo_catalogue_core.specs.Packages.{package_at, package_in}
use Rattle.resolvo_catalogue_core.specs.declared.table.Table.{Table}

-- ---- the lines

abbrev pub line_of : Terms → List Version → LineKind → Line
line_of terms versions line_kinds.Nothing = parsed.Skipped
line_of terms versions (line_kinds.Listed v) = parsed.Listed (nth versions v)
line_of terms versions (line_kinds.Favour v) = parsed.Favour (nth versions v)
line_of terms versions (line_kinds.Many name) = parsed.Many (string_bytes name)
line_of terms versions (line_kinds.Rule r) = kept_line terms versions r

abbrev pub versions_in : Table → List Version
versions_in t = kept_versions t.terms.names t.versions.items

abbrev pub kinds_in : Table → List LineKind
kinds_in t = kind_list t.line_kinds.rules.items t.line_kinds.marked.items t.line_kinds.held

abbrev pub lines_in : Table → List Line
lines_in t = map (line_of t.terms (versions_in t)) (kinds_in t)

-- ---- invariants of the lines

-- A rule has numbers that were given, and the owner's is that of the version above.
abbrev pub IsKindOf : Terms → List Version → Option Version → LineKind → Type 0
IsKindOf terms versions owner line_kinds.Nothing = ⊤
IsKindOf terms versions owner (line_kinds.Listed v) = v.0 < length versions
IsKindOf terms versions owner (line_kinds.Favour v) = v.0 < length versions
IsKindOf terms versions owner (line_kinds.Many name) = ⊤
IsKindOf terms versions owner (line_kinds.Rule r) = IsGiven terms r × IsKeptOf versions owner r

abbrev pub AreKindsOf : Terms → List Version → List Line → List LineKind → Type 0
AreKindsOf terms versions lines kinds = (n : ℕ) (s : LineKind) → slice_get kinds n ≡ Some s → IsKindOf terms versions (owner_below (take n lines)) s

-- ---- the maps

-- the package of a name
abbrev pub package_named : Table → List ℕ → Option Package
package_named t name = package_in t.terms.names t.packages name

-- the line of a package's mark, by the number of its name among these
abbrev pub mark_of : List (List ℕ) → BTreeMap ℕ ℕ → List ℕ → Option ℕ
mark_of names marks name = option_and_then (λ n. get nat_cmp marks n) (place_of names name)

-- The marks are of packages that have one of these names.
abbrev pub AreMarksOf : List (List ℕ) → BTreeMap ℕ ℕ → Type 0
AreMarksOf names marks = (n line : ℕ) → get nat_cmp marks n ≡ Some line → n < length names

-- the number of the package's version
abbrev pub number_in : Option Package → ℕ → Option ℕ
number_in None k = None
number_in (Some p) k = option_map number_of (beside (numbers_of p) (versions_of p) k)

abbrev pub numbers_in : Option Package → List ℕ
numbers_in None = []
numbers_in (Some p) = map number_of (versions_of p)

pub record IsPackage (versions : List Version) (name : List ℕ) (found : Option Package) : Type 0 where
  pub kept : (p : Package) → found ≡ Some p → IsNumbered p
  pub numbers : (k : ℕ) → IsOnly (number_in found k) (λ n. slice_get versions n ≡ Some (record { name = name; number = k }))
  pub all : AreAll (numbers_in found) (IsOfPackage versions name)

-- The list has this version besides those that it had, which were beside these numbers.
pub record AddsBeside (ns : List ℕ) (vs : List VersionNo) (number : ℕ) (version : VersionNo) (after : VersionList) : Type 0 where
  pub kept : AreNumbered after
  pub numbers : (k : ℕ) → option_map number_of (beside after.numbers.items after.versions.items k) ≡ (if number == k then Some version.0 else option_map number_of (beside ns vs k))
  pub all : map number_of after.versions.items ≡ map number_of vs ++ version.0 ∷ []

-- The package has this version besides those that it had.
pub record AddsNumber (before : Option Package) (number : ℕ) (version : VersionNo) (after : Package) : Type 0 where
  pub kept : IsNumbered after
  pub numbers : (k : ℕ) → number_in (Some after) k ≡ (if number == k then Some version.0 else number_in before k)
  pub all : numbers_in (Some after) ≡ numbers_in before ++ version.0 ∷ []

-- The version's package has this version besides those that it had, and no other package is changed.
pub record AddsVersion (before : List ℕ → Option Package) (version : Version) (number : VersionNo) (after : List ℕ → Option Package) : Type 0 where
  pub added : (p : Package) × (after version.name ≡ Some p) × AddsNumber (before version.name) version.number number p
  pub others : (name : List ℕ) → bytes_eq version.name name ≡ false → after name ≡ before name

-- The package at this number has this version besides those that it had, and no other package is changed.
pub record PutsVersion (before : List Package) (at number : ℕ) (version : VersionNo) (after : List Package) : Type 0 where
  pub added : (p : Package) × (package_at after at ≡ Some p) × AddsNumber (package_at before at) number version p
  pub others : (n : ℕ) → (at ≡ n → ⊥) → package_at after n ≡ package_at before n

-- The table keeps these lines, of which these versions are listed.
pub record Keeps (t : Table) (versions : List Version) (lines : List Line) : Type 0 where
  pub listing : listed lines ≡ versions
  pub sound : AreSound t.terms
  pub kinds : AreKindsOf t.terms versions lines (kinds_in t)
  pub packages : (name : List ℕ) → IsPackage versions name (package_named t name)
  pub places : length t.packages.places.items ≤ length t.terms.names
  pub named : are_kept (length t.terms.names) t.versions.items ≡ true
  pub marks : AreMarksOf t.terms.names t.locks × AreMarksOf t.terms.names t.favoured
  pub locks : (name : List ℕ) → IsOnly (mark_of t.terms.names t.locks name) (λ n. LineIs lines n (Locks name))
  pub favoured : (name : List ℕ) → IsOnly (mark_of t.terms.names t.favoured name) (λ n. LineIs lines n (Favours name))
  pub many : (name : List ℕ) → IsOnly (get_by_text t.many name) (λ n. LineIs lines n (MarksMany name))
  pub excluded : (k : ℕ) → IsOnly (get nat_cmp t.excluded k) (IsVersionLine versions lines k Excludes)
  pub unknown : (k : ℕ) → IsOnly (get nat_cmp t.unknown k) (IsVersionLine versions lines k MarksUnknownOf)
  pub owned : (k : ℕ) → AreAll (kept_of t.owned k) (IsVersionLine versions lines k BelongsTo)
  pub as_many : length t.owned ≡ length versions
  pub favour_lines : AreAll (map (λ f. f.0) t.favours.items) (λ n. LineIs lines n IsFavour)
  pub favour_versions : (i : ℕ) (f : ℕ × VersionNo) → slice_get t.favours.items i ≡ Some f → FavoursAt versions lines f

abbrev pub IsTable : Table → Type 0
IsTable t = Keeps t (versions_in t) (lines_in t)

-- No more terms are numbered than the lines need.
abbrev pub HasFew : Table → Type 0
HasFew t = term_count t.terms ≤ sum_by terms_for_line (lines_in t)

-- The second table keeps the line below those of the first, and numbers no more terms for it than it needs.
abbrev pub Adds : Table → Line → Table → Type 0
Adds before line after = IsTable after × (lines_in after ≡ lines_in before ++ line ∷ []) × (term_count after.terms ≤ term_count before.terms + terms_for_line line)

-- What was read is this line, which may follow, and the second table keeps it below those of the first.
abbrev pub AddsRead : {X : Type 0} → Option X → (X → Line) → Table → Table → Type 0
AddsRead {X} read line before after = (x : X) × (read ≡ Some x) × MayFollow (lines_in before) (line x) × Adds before (line x) after

-- What was read is no line that may follow those of the table.
abbrev pub NoneFollows : {X : Type 0} → Option X → (X → Line) → Table → Type 0
NoneFollows {X} read line t = (x : X) → read ≡ Some x → MayFollow (lines_in t) (line x) → ⊥

-- The text is that of a line, which may follow, and the second table keeps it below those of the first.
abbrev pub AddsText : List ℕ → Table → Table → Type 0
AddsText text before after = (line : Line) × IsCatalogueLine (lines_in before) text line × Adds before line after

-- The text is that of no line that may follow those of the table.
abbrev pub NoTextFollows : List ℕ → Table → Type 0
NoTextFollows text t = (line : Line) → IsCatalogueLine (lines_in t) text line → ⊥
