-- The rules of a catalogue as the code keeps them: by numbers of versions and of terms.
use Rattle.std.specs.Prelude.{◌≡◌, ℕ, zero, suc, ◌<◌, ◌≤◌, ◌==◌, if◌then◌else◌, sum_by, Bool, true, false, not, ⊤, List, [], ◌∷◌, Option, Some, None, length, slice_index_or}
use Rattle.resolvo_text.specs.Line as parsed
use Rattle.resolvo_text.specs.Line.{Version, Spec, Line}
use Rattle.resolvo_catalogue_core.specs.declared.obey.LentSpec.{LentSpec}
use Rattle.resolvo_terms.specs.Terms.{Terms, IsSpec, IsWord, IsNeed}
use Rattle.resolvo_terms.specs.TermCounts.{term_count, terms_for_line}
use Rattle.resolvo_terms.specs.Known.{need_at, spec_at, word_text}
use Rattle.resolvo_catalogue_core.specs.Grammar.{line_at, owner_of}
use Rattle.resolvo_catalogue_core.specs.Listed.{listed, kept_versions, are_kept, AreDistinct}
use Rattle.resolvo_catalogue_core.specs.LinesByVersion.{kept_of}
use Rattle.resolvo_catalogue_core.specs.Questions.{IsOwner, AreAll, IsVersionLine, BelongsTo, is_rule}
use Rattle.resolvo_catalogue_core.specs.declared.versions.KeptVersion.{KeptVersion}
use Rattle.resolvo_catalogue_core.specs.declared.rule.VersionNo.{VersionNo}
use Rattle.resolvo_catalogue_core.specs.declared.kept_rule.KeptRule.{KeptRule}
use Rattle.resolvo_catalogue_core.specs.declared.kept_rule.KeptRule.TheVariants as kept

abbrev pub nowhere : Version
nowhere = record { name = []; number = 0 }

-- the version of a number that is in range
abbrev pub nth : List Version → VersionNo → Version
nth versions n = slice_index_or versions n.0 nowhere

-- a SPEC that is lent
abbrev pub lent_spec : LentSpec → Spec
lent_spec s = record { name = s.name.now; span = s.span }

-- the line of a rule
abbrev pub kept_line : Terms → List Version → KeptRule → Line
kept_line t versions (kept.Needs of need) = parsed.Needs (need_at t need).0 (need_at t need).1
kept_line t versions (kept.Limits of v) = parsed.Limits (spec_at t v)
kept_line t versions (kept.Unknown of w) = parsed.Unknown (word_text t w)
kept_line t versions (kept.Lock locked) = parsed.Lock (nth versions locked)
kept_line t versions (kept.Exclude excluded w) = parsed.Exclude (nth versions excluded) (word_text t w)

-- the version that its line belongs to
abbrev pub owner_of_kept : KeptRule → Option VersionNo
owner_of_kept (kept.Needs of need) = Some of
owner_of_kept (kept.Limits of v) = Some of
owner_of_kept (kept.Unknown of w) = Some of
owner_of_kept (kept.Lock locked) = None
owner_of_kept (kept.Exclude excluded w) = None

-- Its numbers were given for what they stand for. So they stand for it whatever else is numbered.
abbrev pub IsGiven : Terms → KeptRule → Type 0
IsGiven t (kept.Needs of need) = IsNeed t need (need_at t need)
IsGiven t (kept.Limits of v) = IsSpec t v (spec_at t v)
IsGiven t (kept.Unknown of w) = IsWord t w (word_text t w)
IsGiven t (kept.Lock locked) = ⊤
IsGiven t (kept.Exclude excluded w) = IsWord t w (word_text t w)

-- The numbers of versions that the rule names are listed, and the owner's is that of the version above.
abbrev pub IsKeptOf : List Version → Option Version → KeptRule → Type 0
IsKeptOf versions owner (kept.Needs of need) = IsOwner versions (Some of) owner
IsKeptOf versions owner (kept.Limits of v) = IsOwner versions (Some of) owner
IsKeptOf versions owner (kept.Unknown of w) = IsOwner versions (Some of) owner
IsKeptOf versions owner (kept.Lock locked) = locked.0 < length versions
IsKeptOf versions owner (kept.Exclude excluded w) = excluded.0 < length versions

-- It is the rule of this line with this owner.
pub record IsKeptLine (t : Terms) (versions : List Version) (r : KeptRule) (owner : Option Version) (line : Line) : Type 0 where
  pub is : kept_line t versions r ≡ line
  pub given : IsGiven t r
  pub of : IsKeptOf versions owner r

-- a lock of another version than this one
abbrev pub is_lock_of_another : KeptRule → ℕ → Bool
is_lock_of_another (kept.Lock locked) n = not (locked.0 == n)
is_lock_of_another (kept.Needs of need) n = false
is_lock_of_another (kept.Limits of v) n = false
is_lock_of_another (kept.Unknown of w) n = false
is_lock_of_another (kept.Exclude excluded w) n = false

-- ---- the lines by numbers

-- The lines of a catalogue, and what is kept of them by numbers.
pub record KeptLines : Type 0 where
  pub terms : Terms
  pub lines : List Line
  -- the listed versions in line order
  pub versions : List KeptVersion
  -- of each line its rule
  pub rules : List (Option KeptRule)
  -- of each version the numbers of its lines
  pub owned : List (List ℕ)

-- the rule of line n, from 1
abbrev pub rule_at : List (Option KeptRule) → ℕ → Option KeptRule
rule_at rules zero = None
rule_at rules (suc n) = slice_index_or rules n None

-- the places of the elements that pass the test, the first of them being the given one
abbrev pub places_from : {X : Type 0} → (X → Bool) → ℕ → List X → List ℕ
places_from test at [] = []
places_from test at (x ∷ xs) = if test x then at ∷ places_from test (suc at) xs else places_from test (suc at) xs

-- What is kept is that of the lines.
pub record AreKept (k : KeptLines) : Type 0 where
  pub versions : kept_versions k.terms.names k.versions ≡ listed k.lines
  pub named : are_kept (length k.terms.names) k.versions ≡ true
  pub distinct : AreDistinct (listed k.lines)
  pub rules : (n : ℕ) (r : KeptRule) → rule_at k.rules n ≡ Some r → (l : Line) × (line_at k.lines n ≡ Some l) × IsKeptLine k.terms (listed k.lines) r (owner_of k.lines n) l
  pub none : (n : ℕ) → rule_at k.rules n ≡ None → (l : Line) → line_at k.lines n ≡ Some l → is_rule l ≡ false
  pub few : term_count k.terms ≤ sum_by terms_for_line k.lines
  pub as_many : length k.owned ≡ length (listed k.lines)
  pub owned : (n : ℕ) → AreAll (kept_of k.owned n) (IsVersionLine (listed k.lines) k.lines n BelongsTo)
