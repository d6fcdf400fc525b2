-- How a report writes the steps of a proof over a provider's ids.
use Rattle.std.specs.Prelude.{◌≡◌, ℕ, ◌+◌, ◌⊎◌, nat_lt, if◌then◌else◌, List, [], map, slice_index_or, Option, Some, None}
use Rattle.resolvo_text.specs.Line.{Version, Line}
use Rattle.resolvo_catalogue_core.specs.Listed.{listed}
use Rattle.resolvo_catalogue.specs.Ids.{Ids, SolvableId}
use Rattle.resolvo_terms.specs.Terms.{NameId}
use Rattle.resolvo_catalogue.specs.Known.{spec_at, alternatives_at}
use Rattle.resolvo_proof.specs.declared.step.ProofStep.{ProofStep}
use Rattle.resolvo_proof.specs.declared.step.ProofStep.TheVariants.{Rule, Derived}
use Rattle.resolvo_proof.specs.declared.step.ProofRule.TheVariants.{Needs, GateOf, Shared, Limit, Outside, Locked, Excluded, Digit, AtLeastOne, Matches}
use Rattle.resolvo_report.specs.Value.{Place, OfRequest, OfVersion, Literal, Step}
use Rattle.resolvo_report.specs.Value as in_report

-- the listed version of a solvable; one of no name where there is none
abbrev pub version_at : List Line → SolvableId → Version
version_at catalogue s = slice_index_or (listed catalogue) s.raw (record { name = []; number = 0 })

-- the place of a parent; that of the root is the request
abbrev pub place_at : List Line → Option SolvableId → Place
place_at catalogue None = OfRequest
place_at catalogue (Some s) = OfVersion (version_at catalogue s)

-- the number of the step at this place, or the greatest number where there are too many
abbrev pub number_of : ℕ → ℕ
number_of place = if nat_lt place 4294967295 then place + 1 else 4294967295

-- The step forbids a version by an exclusion or its unknown needs.
abbrev pub HasWord : Step → Type 0
HasWord step = (line : ℕ) × ((step ≡ in_report.Exclude line) ⊎ (step ≡ in_report.Unknown line))

-- The step writes the proof's step, by the versions, SPECs and places of its ids, and a rule by some line.
abbrev pub IsWritten : List Line → Ids → ProofStep NameId SolvableId → Step → Type 0
IsWritten catalogue ids (Rule (Needs parent r case)) step = (line k : ℕ) × (step ≡ in_report.Need (place_at catalogue parent) line k)
IsWritten catalogue ids (Rule (GateOf s r)) step = (line : ℕ) × (step ≡ in_report.Gate (version_at catalogue s) line)
IsWritten catalogue ids (Rule (Shared r)) step = step ≡ in_report.Shared (alternatives_at ids r)
IsWritten catalogue ids (Rule (Limit parent v None)) step = (line : ℕ) × (step ≡ in_report.Limit (place_at catalogue parent) line)
IsWritten catalogue ids (Rule (Limit parent v (Some s))) step = (line : ℕ) × (step ≡ in_report.LimitBars (place_at catalogue parent) line (version_at catalogue s))
IsWritten catalogue ids (Rule (Outside v s)) step = step ≡ in_report.Outside (spec_at ids v) (version_at catalogue s)
IsWritten catalogue ids (Rule (Locked locked s)) step = (line : ℕ) × (step ≡ in_report.Lock line (version_at catalogue s))
IsWritten catalogue ids (Rule (Excluded s reason)) step = HasWord step
IsWritten catalogue ids (Rule (Digit s place bit)) step = step ≡ in_report.Digit (version_at catalogue s) place bit
IsWritten catalogue ids (Rule (AtLeastOne n s)) step = step ≡ in_report.Any (version_at catalogue s)
IsWritten catalogue ids (Rule (Matches v s)) step = step ≡ in_report.Matches (spec_at ids v) (version_at catalogue s)
IsWritten catalogue ids (Derived literals causes) step = (written : List Literal) × (step ≡ in_report.Derive written (map number_of causes.items))
