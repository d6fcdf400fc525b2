-- The lines that a step names: of a need with its case, of a limit, of a forbidden version. And the
-- literals of a derived clause.
use Rattle.std.specs.Prelude.{◌≡◌, ℕ, ⊤, IsTrue, IfSome, List, map, Option, Some, None, unwrap_or, slice_get}
use Rattle.std.specs.Option.{option_map}
use Rattle.resolvo_text.specs.Line.{Version, Line}
use Rattle.resolvo_text.specs.Line as content
use Rattle.resolvo_text.specs.Spelling.{IsNumber}
use Rattle.resolvo_catalogue_core.specs.Listed.{listed}
use Rattle.resolvo_catalogue_core.specs.declared.rule.VersionNo.{VersionNo}
use Rattle.resolvo_pool_core.specs.declared.id.StringId.{StringId}
use Rattle.resolvo_pool_core.specs.declared.id.VersionSetId.{VersionSetId}
use Rattle.resolvo_pool_core.specs.declared.requirement.Requirement.{Requirement}
use Rattle.resolvo_proof.specs.declared.step.ProofStep.{ProofStep}
use Rattle.resolvo_proof.specs.declared.step.ProofStep.TheVariants.{Rule, Derived}
use Rattle.resolvo_proof.specs.declared.step.ProofRule.TheVariants.{Needs, GateOf, Shared, Limit, Outside, Locked, Excluded, Digit, AtLeastOne, Matches}
use Rattle.resolvo_catalogue.specs.Ids.{Ids, SolvableId}
use Rattle.resolvo_terms.specs.Terms.{NameId}
use Rattle.resolvo_catalogue.specs.Known.{spec_at, alternatives_at, word_text}
use Rattle.resolvo_report.specs.Value.{Literal, Step}
use Rattle.resolvo_report.specs.Value as in_report
use Rattle.resolvo_report.specs.Text.{are_rising, literal_text}
use Rattle.resolve_refusal.specs.RefusedReport.{version_at, place_at, number_of}
use Rattle.resolve_refusal.specs.declared.lines.NeedLine.{NeedLine}
use Rattle.resolve_refusal.specs.declared.lines.WordLine.{WordLine}
use Rattle.resolve_refusal.specs.declared.lines.WordLine.TheVariants as with_word
use Rattle.resolve_refusal.specs.Lines.{IsFirstWith, IsFirstNeed, IsLockLine, IsWordLine}
use Rattle.resolve_refusal.specs.Refusal.{AreLiterals, HaveForm}

-- the version of a solvable by its number
abbrev pub version_no : SolvableId → VersionNo
version_no s = record { 0 = s.raw }

-- The line is the first of the place that equals this one; 0 is none.
abbrev pub IsFirstLine : List Line → List Line → Option VersionNo → Line → ℕ → Type 0
IsFirstLine catalogue request place source line = (found : Option ℕ) × (line ≡ unwrap_or found 0) × IsFirstWith catalogue request place source found

-- The line is the first of the parent's that needs the requirement in this case, with its first such case; or none does.
abbrev pub IsNeedLineOf : List Line → List Line → Ids → Option SolvableId → Requirement → List VersionSetId → Option NeedLine → Type 0
IsNeedLineOf catalogue request ids parent r case found = IsFirstNeed catalogue request (option_map version_no parent) (alternatives_at ids r) (map (spec_at ids) case) found

-- The step names the need by that line and case, where there is one.
abbrev pub NamesNeed : List Line → List Line → Ids → Option SolvableId → Requirement → List VersionSetId → Step → Type 0
NamesNeed catalogue request ids parent r case step = (found : Option NeedLine) × IsNeedLineOf catalogue request ids parent r case found × IfSome found (λ l. IsNumber l.case × (step ≡ in_report.Need (place_at catalogue parent) l.line l.case))

-- The step names a lock by the line that locks another version of the solvable's package; or none does.
abbrev pub NamesLock : List Line → SolvableId → Step → Type 0
NamesLock catalogue s step = (found : Option ℕ) × (step ≡ in_report.Lock (unwrap_or found 0) (version_at catalogue s)) × ((v : Version) → slice_get (listed catalogue) s.raw ≡ Some v → IsLockLine catalogue v found)

-- the rule of the line that forbids a version with a word; an exclusion at line 0 where none does
abbrev pub word_step : Option WordLine → Step
word_step None = in_report.Exclude 0
word_step (Some (with_word.Exclude n)) = in_report.Exclude n
word_step (Some (with_word.Unknown n)) = in_report.Unknown n

-- The step forbids the solvable's version by the first line that does with the reason's word; or
-- none does.
abbrev pub NamesWord : List Line → Ids → SolvableId → StringId → Step → Type 0
NamesWord catalogue ids s reason step = (found : Option WordLine) × (step ≡ word_step found) × ((v : Version) → slice_get (listed catalogue) s.raw ≡ Some v → IsWordLine catalogue v (word_text ids reason) found)

-- The items that a step names beside `IsWritten`. A need, a limit and a word that forbids are named
-- by the first line, a lock by its line. A place is named by a number that has a text, and a
-- derived clause by its literals in the order of their texts.
abbrev pub NamesRule : List Line → List Line → Ids → ProofStep NameId SolvableId → Step → Type 0
NamesRule catalogue request ids (Rule (Needs parent r case)) step = NamesNeed catalogue request ids parent r case.items step
NamesRule catalogue request ids (Rule (GateOf s r)) step = (line : ℕ) × (step ≡ in_report.Gate (version_at catalogue s) line) × IsFirstLine catalogue request (Some (version_no s)) (content.Needs (alternatives_at ids r) None) line
NamesRule catalogue request ids (Rule (Shared r)) step = ⊤
NamesRule catalogue request ids (Rule (Limit parent v None)) step = (line : ℕ) × (step ≡ in_report.Limit (place_at catalogue parent) line) × IsFirstLine catalogue request (option_map version_no parent) (content.Limits (spec_at ids v)) line
NamesRule catalogue request ids (Rule (Limit parent v (Some s))) step = (line : ℕ) × (step ≡ in_report.LimitBars (place_at catalogue parent) line (version_at catalogue s)) × IsFirstLine catalogue request (option_map version_no parent) (content.Limits (spec_at ids v)) line
NamesRule catalogue request ids (Rule (Outside v s)) step = ⊤
NamesRule catalogue request ids (Rule (Locked locked s)) step = NamesLock catalogue s step
NamesRule catalogue request ids (Rule (Excluded s reason)) step = NamesWord catalogue ids s reason step
NamesRule catalogue request ids (Rule (Digit s place bit)) step = IsNumber place
NamesRule catalogue request ids (Rule (AtLeastOne n s)) step = ⊤
NamesRule catalogue request ids (Rule (Matches v s)) step = ⊤
NamesRule catalogue request ids (Derived literals causes) step = (written : List Literal) × (step ≡ in_report.Derive written (map number_of causes.items)) × (HaveForm catalogue ids literals.items → AreLiterals catalogue ids literals.items written) × IsTrue (are_rising (map literal_text written))
