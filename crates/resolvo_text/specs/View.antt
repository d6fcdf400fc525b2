-- The models of a version, a SPEC, a condition and a line.
use Rattle.std.specs.Prelude.{List, [], ◌∷◌, map, Option}
use Rattle.std.specs.Option.{option_map}
use Rattle.std.specs.String.{string_bytes}
use Rattle.std.specs.Global.{Vec, Box}
use Rattle.resolvo_text.specs.Line as parsed
use Rattle.resolvo_text.specs.Matches as meaning
use Rattle.resolvo_text.specs.declared.spec.Version.{Version}
use Rattle.resolvo_text.specs.declared.spec.Spec as code
use Rattle.resolvo_text.specs.declared.alternatives.Alternatives.{Alternatives}
use Rattle.resolvo_text.specs.declared.alternatives.Alternatives.TheVariants.{One, Several}
use Rattle.resolvo_text.specs.declared.condition.Cond.{Cond, Spec, And', Or'}
use Rattle.resolvo_text.specs.declared.line.Line.{Line}
use Rattle.resolvo_text.specs.declared.line.Line.TheVariants as line

abbrev pub version_of : Version → parsed.Version
version_of v = record { name = string_bytes v.name; number = v.number }

abbrev pub spec_of : code.Spec → parsed.Spec
spec_of s = record { name = string_bytes s.name; span = s.span }

abbrev pub specs_of : List code.Spec → List parsed.Spec
specs_of ss = map spec_of ss

-- the SPECs in order
abbrev pub list_of : Alternatives → List code.Spec
list_of (One s) = s ∷ []
list_of (Several ss) = ss.items

abbrev pub cond_of : Cond → parsed.Cond
cond_of (Spec s) = parsed.Is (spec_of s)
cond_of (And' p a q b) = parsed.And (cond_of a) (cond_of b)
cond_of (Or' p a q b) = parsed.Or (cond_of a) (cond_of b)

abbrev pub condition_of : Option (Box Cond) → Option parsed.Cond
condition_of c = option_map (λ b. cond_of b.value) c

-- the condition that was read so far
abbrev pub before_of : Option Cond → Option parsed.Cond
before_of c = option_map cond_of c

-- a list of versions as a set
abbrev pub set_of : List Version → meaning.Set
set_of versions = map version_of versions

-- lists of SPECs
abbrev pub cases_of : List (Vec code.Spec) → List (List parsed.Spec)
cases_of cs = map (λ c. specs_of c.items) cs

abbrev pub view : Line → parsed.Line
view line.Skipped = parsed.Skipped
view (line.Listed v) = parsed.Listed (version_of v)
view (line.Needs alternatives condition) = parsed.Needs (specs_of (list_of alternatives)) (condition_of condition)
view (line.Limits s) = parsed.Limits (spec_of s)
view (line.Unknown reason) = parsed.Unknown (string_bytes reason)
view (line.Lock v) = parsed.Lock (version_of v)
view (line.Favour v) = parsed.Favour (version_of v)
view (line.Exclude v reason) = parsed.Exclude (version_of v) (string_bytes reason)
view (line.Many name) = parsed.Many (string_bytes name)
view (line.Wish v) = parsed.Wish (version_of v)
