-- Steps in an install report: those by which wishes are left out, and those that these follow from.
use Rattle.std.specs.Prelude.{◌≡◌, ◌⊎◌, ◌<◌, ℕ, suc, true, false, List, ◌++◌, length, Option, Some, None, Contains, slice_get}
use Rattle.std.specs.List.{AllZip}
use Rattle.std.proofs.Common.{Vec, Global}
use Rattle.resolvo_text.specs.Line.{Version, Line}
use Rattle.resolvo_text.specs.Matches.{Set}
use Rattle.resolvo_catalogue_core.specs.Listed.{listed}
use Rattle.resolvo_state.specs.declared.atom.ProofAtom.TheVariants as atom
use Rattle.resolvo_proof.specs.declared.step.ProofLiteral.{ProofLiteral}
use Rattle.resolvo_proof.specs.declared.step.ProofStep.{ProofStep}
use Rattle.resolvo_proof.specs.declared.step.ProofStep.TheVariants.{Derived}
use Rattle.resolvo_catalogue.specs.Ids.{Ids, SolvableId}
use Rattle.resolvo_terms.specs.Terms.{NameId}
use Rattle.resolvo_report.specs.Value.{Step}
use Rattle.resolvo_report.specs.Text.{IsStep}
use Rattle.resolvo_checker.specs.Proof.{is_valid_step, every_line, IsProof}
use Rattle.resolvo_judge.specs.Refusal.{step_forbids}
use Rattle.resolve_refusal.specs.RefusedReport.{version_at}
use Rattle.resolve_refusal.specs.Lines.{IsFree}
use Rattle.resolve_refusal.specs.Refusal.{IsWrittenAs, IsLockStep, IsExclusionStep}

-- The literal is `not` of a version that is the wish or an entry.
abbrev pub DeniesOneOf : List Line → Set → Version → ProofLiteral NameId SolvableId → Type 0
DeniesOneOf catalogue entries wish l = (s : SolvableId) × (l.atom ≡ atom.Solvable s) × (l.positive ≡ false) × ((version_at catalogue s ≡ wish) ⊎ Contains entries (version_at catalogue s))

-- Step k, from 0, is derived, and each of its literals is such a one.
pub record DeniesAt (catalogue : List Line) (steps : List (ProofStep NameId SolvableId)) (entries : Set) (wish : Version) (k : ℕ) : Type 0 where
  pub literals : Vec (ProofLiteral NameId SolvableId) Global
  pub causes : Vec ℕ Global
  pub derived : slice_get steps k ≡ Some (Derived literals causes)
  pub denies : (l : ProofLiteral NameId SolvableId) → Contains literals.items l → DeniesOneOf catalogue entries wish l

-- The steps write those of a proof, one by one. Each has a text, and is allowed after those before
-- it where each line may be rested on. One that denies a wish and entries forbids the wish,
-- whichever steps follow.
pub record AreInstallSteps (catalogue request : List Line) (ids : Ids) (steps : List (ProofStep NameId SolvableId)) (written : List Step) : Type 0 where
  pub each : AllZip (IsWrittenAs catalogue ids request) steps written
  pub few : length written < 4294967296
  pub texts : (n : ℕ) (s : Step) → slice_get written n ≡ Some s → IsStep s
  pub valid : IsProof catalogue request every_line every_line written
  pub forbidden_by : (others : List Step) (entries : Set) (wish : Version) (k : ℕ) → DeniesAt catalogue steps entries wish k → step_forbids catalogue request (written ++ others) entries wish (suc k) ≡ true

-- The step forbids the version by a line that locks another version of its package, else by one
-- that excludes it.
abbrev pub IsForbiddenBefore : List Line → Version → Step → Type 0
IsForbiddenBefore catalogue v step = (line : ℕ) × (IsLockStep catalogue v step line ⊎ IsExclusionStep catalogue v step line)

-- The step forbids the version so. It has a text, is allowed anywhere in an install report, and
-- forbids the version as a wish there.
pub record IsForbidStep (catalogue : List Line) (v : Version) (step : Step) : Type 0 where
  pub forbids : IsForbiddenBefore catalogue v step
  pub text : IsStep step
  pub present : (request : List Line) (earlier : List Step) → is_valid_step catalogue request every_line every_line earlier step ≡ true
  pub leaves_out : (request : List Line) (steps : List Step) (entries : Set) (k : ℕ) → slice_get steps k ≡ Some step → step_forbids catalogue request steps entries v (suc k) ≡ true

-- The version of this number is listed and so forbidden; or it isn't listed, or nothing locks it
-- out or excludes it.
abbrev pub IsForbidStepOf : List Line → ℕ → Option Step → Type 0
IsForbidStepOf catalogue number (Some step) = (v : Version) × (slice_get (listed catalogue) number ≡ Some v) × IsForbidStep catalogue v step
IsForbidStepOf catalogue number None = (v : Version) → slice_get (listed catalogue) number ≡ Some v → IsFree catalogue v
