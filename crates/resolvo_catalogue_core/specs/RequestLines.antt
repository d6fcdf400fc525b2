-- A request's lines as the code keeps them, and the invariants of its map and list of wishes.
use Rattle.std.specs.Prelude.{◌≡◌, ℕ, zero, suc, ⊤, List, [], ◌++◌, ◌∷◌, map, Option, Some, None, slice_get}
use Rattle.std.specs.BTreeMap.{get}
use Rattle.std.specs.Ordering.{nat_cmp}
use Rattle.resolvo_text.specs.Line as parsed
use Rattle.resolvo_text.specs.Line.{Version, Line}
use Rattle.resolvo_text.specs.View.{version_of, spec_of, specs_of, list_of, condition_of}
use Rattle.resolvo_text.specs.declared.spec.Version as code
use Rattle.resolvo_catalogue_core.specs.Questions.{IsOnly, AreAll, LineIs, IsVersionLine, Wishes, WishesAt, IsWish}
use Rattle.resolvo_catalogue_core.specs.declared.rule.VersionNo.{VersionNo}
use Rattle.resolvo_catalogue_core.specs.declared.rule.Rule.{Rule}
use Rattle.resolvo_catalogue_core.specs.declared.rule.Rule.TheVariants as rule
use Rattle.resolvo_catalogue_core.specs.declared.request_lines.RequestLine.{RequestLine}
use Rattle.resolvo_catalogue_core.specs.declared.request_lines.RequestLine.TheVariants as ask
use Rattle.resolvo_catalogue_core.specs.declared.request_lines.RequestLines.{RequestLines}

-- the line of a rule that names no version
abbrev pub rule_line : Rule → Line
rule_line (rule.Needs of alternatives condition) = parsed.Needs (specs_of (list_of alternatives)) (condition_of condition)
rule_line (rule.Limits of spec) = parsed.Limits (spec_of spec)
rule_line (rule.Unknown of word) = parsed.Skipped
rule_line (rule.Lock locked) = parsed.Skipped
rule_line (rule.Exclude excluded word) = parsed.Skipped

abbrev pub asked : RequestLine → Line
asked ask.Nothing = parsed.Skipped
asked (ask.Wish v) = parsed.Wish (version_of v)
asked (ask.Rule r) = rule_line r

abbrev pub asked_lines : RequestLines → List Line
asked_lines a = map asked a.asks.items

-- A rule of a request is a need or a limit that belongs to no version.
abbrev pub IsAskedRule : Rule → Type 0
IsAskedRule (rule.Needs of alternatives condition) = of ≡ None
IsAskedRule (rule.Limits of spec) = of ≡ None
IsAskedRule (rule.Unknown of word) = ⊥
IsAskedRule (rule.Lock locked) = ⊥
IsAskedRule (rule.Exclude excluded word) = ⊥

abbrev pub IsAsk : RequestLine → Type 0
IsAsk ask.Nothing = ⊤
IsAsk (ask.Wish v) = ⊤
IsAsk (ask.Rule r) = IsAskedRule r

-- the stored form of line n, from 1
abbrev pub ask_at : List RequestLine → ℕ → Option RequestLine
ask_at asks zero = None
ask_at asks (suc n) = slice_get asks n

abbrev pub rule_asked : RequestLine → Option Rule
rule_asked (ask.Rule r) = Some r
rule_asked ask.Nothing = None
rule_asked (ask.Wish v) = None

abbrev pub wish_asked : RequestLine → Option code.Version
wish_asked (ask.Wish v) = Some v
wish_asked ask.Nothing = None
wish_asked (ask.Rule r) = None

-- These lines are kept of a request over a catalogue that lists these versions.
pub record KeepsAsks (a : RequestLines) (versions : List Version) (lines : List Line) : Type 0 where
  pub asks : (n : ℕ) (x : RequestLine) → slice_get a.asks.items n ≡ Some x → IsAsk x
  pub wished : (k : ℕ) → IsOnly (get nat_cmp a.wished k) (IsVersionLine versions lines k Wishes)
  pub wish_lines : AreAll (map (λ f. f.0) a.wishes.items) (λ n. LineIs lines n IsWish)
  pub wish_versions : (i : ℕ) (f : ℕ × VersionNo) → slice_get a.wishes.items i ≡ Some f → WishesAt versions lines f

abbrev pub AreAsks : List Version → RequestLines → Type 0
AreAsks versions a = KeepsAsks a versions (asked_lines a)

-- The second keeps the line below those of the first.
abbrev pub AddsAsk : List Version → RequestLines → Line → RequestLines → Type 0
AddsAsk versions before line after = AreAsks versions after × (asked_lines after ≡ asked_lines before ++ line ∷ [])
