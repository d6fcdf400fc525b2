-- Of each key the first line of a place that has it.
use Rattle.std.specs.Prelude.{◌≡◌, ℕ, Bool, true, false, IfSome, List, Option, Some, None}
use Rattle.std.specs.BTreeMap.{get, get_by_text}
use Rattle.std.specs.Ordering.{nat_cmp}
use Rattle.std.specs.Set.{is_member}
use Rattle.std.specs.Str.{bytes_eq}
use Rattle.resolvo_text.specs.Line.{Line}
use Rattle.resolvo_catalogue_core.specs.declared.rule.VersionNo.{VersionNo}
use Rattle.resolve_refusal.specs.declared.first_lines.FirstLines.{FirstLines}
use Rattle.resolve_refusal.specs.declared.line_index.LineIndex.{LineIndex}
use Rattle.resolve_refusal.specs.Lines.{IsLeast, text_of, IsLineOf}
use Rattle.resolve_refusal.specs.RuleKeys.{HasKey, AreKeysAt}

-- The line is put where there is none yet.
abbrev pub first_or : Option ℕ → Bool → ℕ → Option ℕ
first_or (Some n) here line = Some n
first_or None true line = Some line
first_or None false line = None

-- The line is put at each of its keys that has none yet.
abbrev pub KeepsFirst : (List ℕ → Option ℕ) → List Line → ℕ → (List ℕ → Option ℕ) → (List ℕ → Option ℕ) → Type 0
KeepsFirst groups text line before after = (keys : List (List ℕ)) × AreKeysAt groups text line keys × ((q : List ℕ) → after q ≡ first_or (before q) (is_member bytes_eq keys q) line)

-- They are the first lines of the place with each key.
abbrev pub AreFirstBy : (List ℕ → Option ℕ) → List Line → List Line → Option VersionNo → (List ℕ → Option ℕ) → Type 0
AreFirstBy groups catalogue request place first = (key : List ℕ) → IsLeast (first key) (λ n. IsLineOf catalogue request place n × HasKey groups (text_of catalogue request place) key n)

abbrev pub groups_of : FirstLines → List ℕ → Option ℕ
groups_of f text = get_by_text f.groups text

abbrev pub first_of : FirstLines → List ℕ → Option ℕ
first_of f key = get_by_text f.lines key

abbrev pub AreFirst : List Line → List Line → Option VersionNo → FirstLines → Type 0
AreFirst catalogue request place f = AreFirstBy (groups_of f) catalogue request place (first_of f)

-- The first lines that are kept of some versions are those of these texts.
abbrev pub AreListed : List Line → List Line → (ℕ → Option FirstLines) → Type 0
AreListed catalogue request versions = (n : ℕ) → IfSome (versions n) (AreFirst catalogue request (Some (record { 0 = n })))

-- Where the first lines that were kept are those of these texts, the ones that are kept now are too.
abbrev pub KeepsListed : List Line → List Line → (ℕ → Option FirstLines) → (ℕ → Option FirstLines) → Type 0
KeepsListed catalogue request before after = AreListed catalogue request before → AreListed catalogue request after

-- The first lines that are kept, of the request and of some versions, are those of these texts.
pub record IsIndex (catalogue request : List Line) (x : LineIndex) : Type 0 where
  pub asked : IfSome x.request (AreFirst catalogue request None)
  pub listed : AreListed catalogue request (get nat_cmp x.versions)
