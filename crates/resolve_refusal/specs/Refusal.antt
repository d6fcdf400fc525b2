-- The refusal of a proof over the provider of a catalogue.
use Rattle.std.specs.Prelude.{◌≡◌, ◌↔◌, ◌⊎◌, ℕ, suc, Bool, true, false, ◌<◌, ⊤, IsTrue, List, map, None, Some, Contains, slice_get}
use Rattle.std.proofs.Common.{Vec, Global}
use Rattle.resolvo_text.specs.Line.{Version, Spec, Line, Needs, Limits}
use Rattle.resolvo_text.specs.Spelling.{is_name}
use Rattle.resolvo_text.specs.Spelling as form
use Rattle.resolvo_catalogue_core.specs.Listed.{listed}
use Rattle.resolvo_catalogue_core.specs.Questions.{ReadRequest, LineIs, LocksAnother, Excludes, MarksUnknownOf}
use Rattle.resolvo_catalogue_core.specs.Sets.{is_many}
use Rattle.resolvo_pool_core.specs.declared.id.VersionSetId.{VersionSetId}
use Rattle.resolvo_pool_core.specs.declared.requirement.Requirement.{Requirement}
use Rattle.resolvo_sat.specs.RuleClauses.{Atom, IsExact}
use Rattle.resolvo_state.specs.declared.atom.ProofAtom.{ProofAtom}
use Rattle.resolvo_state.specs.declared.atom.ProofAtom.TheVariants as atom
use Rattle.resolvo_proof.specs.declared.step.ProofLiteral.{ProofLiteral}
use Rattle.resolvo_proof.specs.declared.step.ProofStep.{ProofStep}
use Rattle.resolvo_proof.specs.declared.step.ProofStep.TheVariants.{Rule, Derived}
use Rattle.resolvo_proof.specs.declared.step.ProofRule.TheVariants.{Needs as NeedsRule, GateOf, Shared, Limit, Outside, Locked, Excluded, Digit, AtLeastOne, Matches as MatchesRule}
use Rattle.resolvo_proof.specs.Proof.{IsProof, EndsEmpty}
use Rattle.resolvo_proof.specs.Steps.{literal_in}
use Rattle.resolvo_proof.specs.Members.{HaveOneSign}
use Rattle.resolvo_proof.specs.Places.{HaveOnePlace}
use Rattle.resolvo_catalogue.specs.Ids.{Ids, SolvableId, IsPackage, IsSpec, AreAlternatives}
use Rattle.resolvo_terms.specs.Terms.{NameId}
use Rattle.resolvo_catalogue.specs.Known.{name_text, spec_at, alternatives_at, word_text}
use Rattle.resolvo_catalogue.specs.Provider.{Provider, packages_of}
use Rattle.resolvo_catalogue.specs.Over.{IsOver, AreAsked}
use Rattle.resolvo_catalogue.specs.KeptSets.{root_of}
use Rattle.resolvo_catalogue.specs.declared.provider.RequestIds.{RequestIds}
use Rattle.resolvo_report.specs.Value.{Place, OfVersion, Literal, Step}
use Rattle.resolvo_report.specs.Value as in_report
use Rattle.resolvo_report.specs.Text.{IsAtom}
use Rattle.resolvo_report.specs.Text as form_of
use Rattle.resolvo_checker.specs.StepClauses.{line_of}
use Rattle.resolve_refusal.specs.RefusedReport.{version_at, place_at}
use Rattle.resolve_refusal.specs.Lines.{NeedsIn, NeedsAs, ExcludesAt, MarksUnknownAt, ForbidsAs}

-- ---- ids that the provider knows

module _ (catalogue : List Line) (ids : Ids) where
  abbrev pub IsVersion : SolvableId → Type 0
  IsVersion s = (v : Version) × (slice_get (listed catalogue) s.raw ≡ Some v)

  abbrev pub IsRequirement : Requirement → Type 0
  IsRequirement r = (alternatives : List Spec) × AreAlternatives ids r alternatives

  abbrev pub IsName : NameId → Type 0
  IsName n = (name : List ℕ) × IsPackage ids n name

  -- The id is that of a name, a SPEC or alternatives that a line can spell.
  abbrev pub IsSpelledName : NameId → Type 0
  IsSpelledName n = (name : List ℕ) × IsPackage ids n name × IsTrue (is_name name)

  abbrev pub IsSpelledSet : VersionSetId → Type 0
  IsSpelledSet v = (s : Spec) × IsSpec ids v s × form.IsSpec s

  abbrev pub IsSpelledRequirement : Requirement → Type 0
  IsSpelledRequirement r = (alternatives : List Spec) × AreAlternatives ids r alternatives × form_of.AreAlternatives alternatives

  -- the package, version or SPEC of the atom is the catalogue's, and a digit is one of the first 32
  abbrev pub IsKnownAtom : ProofAtom NameId SolvableId → Type 0
  IsKnownAtom (atom.Solvable s) = IsVersion s
  IsKnownAtom (atom.AtLeastOne n) = IsSpelledName n
  IsKnownAtom (atom.Gate r) = IsSpelledRequirement r
  IsKnownAtom (atom.Outside v) = IsSpelledSet v
  IsKnownAtom (atom.Matches v) = IsSpelledSet v × (is_many catalogue (spec_at ids v).name ≡ true)
  IsKnownAtom (atom.Bit n bit) = IsSpelledName n × (bit < 32) × (is_many catalogue (name_text ids n) ≡ false)

  -- The step's SPEC can be spelled, and so can the atoms of its literals. The rules give the names
  -- of other steps.
  abbrev pub IsKnownStep : ProofStep NameId SolvableId → Type 0
  IsKnownStep (Rule (NeedsRule parent r case)) = ⊤
  IsKnownStep (Rule (GateOf s r)) = ⊤
  IsKnownStep (Rule (Shared r)) = ⊤
  IsKnownStep (Rule (Limit parent v barred)) = ⊤
  IsKnownStep (Rule (Outside v s)) = IsSpelledSet v
  IsKnownStep (Rule (Locked locked s)) = ⊤
  IsKnownStep (Rule (Excluded s reason)) = ⊤
  IsKnownStep (Rule (Digit s place bit)) = ⊤
  IsKnownStep (Rule (AtLeastOne n s)) = ⊤
  IsKnownStep (Rule (MatchesRule v s)) = IsSpelledSet v
  IsKnownStep (Derived literals causes) = (l : ProofLiteral NameId SolvableId) → Contains literals.items l → IsKnownAtom l.atom

-- ---- how steps are written

-- The step forbids the version by this line, which locks another version of its package.
abbrev pub IsLockStep : List Line → Version → Step → ℕ → Type 0
IsLockStep catalogue v step line = (step ≡ in_report.Lock line v) × LineIs catalogue line (LocksAnother v)

-- It does by this line, which excludes the version, and no line locks another one.
abbrev pub IsExclusionStep : List Line → Version → Step → ℕ → Type 0
IsExclusionStep catalogue v step line = (step ≡ in_report.Exclude line) × ((m : ℕ) → LineIs catalogue m (LocksAnother v) → ⊥) × LineIs catalogue line (Excludes v)

-- The step forbids the version by a line that locks another version of its package, excludes it, or
-- marks its needs as unknown.
abbrev pub IsForbiddenBy : List Line → Version → Step → Type 0
IsForbiddenBy catalogue v step = (line : ℕ) × (IsLockStep catalogue v step line ⊎ (((step ≡ in_report.Exclude line) × LineIs catalogue line (Excludes v)) ⊎ ((step ≡ in_report.Unknown line) × LineIs catalogue line (MarksUnknownOf v))))

-- It forbids the version with this word, by the first line that does: one that excludes it, or one
-- that marks its needs as unknown.
abbrev pub IsForbiddenAs : List Line → Version → List ℕ → Step → Type 0
IsForbiddenAs catalogue v word step = (line : ℕ) × (((step ≡ in_report.Exclude line) × ExcludesAt catalogue v word line) ⊎ ((step ≡ in_report.Unknown line) × MarksUnknownAt catalogue v word line)) × ((m : ℕ) → m < line → ForbidsAs catalogue v word m → ⊥)

module _ (catalogue : List Line) where
  -- line n of the place has this content
  abbrev pub IsPlaceLine : List Line → Place → Line → ℕ → Type 0
  IsPlaceLine request place source n = line_of catalogue request place n ≡ Some source

  -- The line has it, and none of the place before it does.
  pub record IsFirst (request : List Line) (place : Place) (source : Line) (n : ℕ) : Type 0 where
    pub parsed : IsPlaceLine request place source n
    pub first : (m : ℕ) → m < n → IsPlaceLine request place source m → ⊥

  -- line n of the place has the property
  abbrev pub IsOfPlace : List Line → Place → (Line → Type 0) → ℕ → Type 0
  IsOfPlace request place P n = (l : Line) × IsPlaceLine request place l n × P l

  -- The line needs these alternatives in this case, which is its case k and none before; and no line of the place before
  -- it does.
  pub record IsFirstNeed (request : List Line) (place : Place) (alternatives case : List Spec) (n k : ℕ) : Type 0 where
    pub parsed : IsOfPlace request place (NeedsAs alternatives case k) n
    pub first : (m : ℕ) → m < n → IsOfPlace request place (NeedsIn alternatives case) m → ⊥

  -- The step names the first line of its rule, a need the first of its cases too. A package is
  -- locked by one line at most. An exclusion and an unknown mark of one version are one rule where
  -- their words are the same.
  abbrev pub NamesFirstLine : List Line → Step → Type 0
  NamesFirstLine request (in_report.Need place line k) = (alternatives case : List Spec) × IsFirstNeed request place alternatives case line k
  NamesFirstLine request (in_report.Gate v line) = (alternatives : List Spec) × IsFirst request (OfVersion v) (Needs alternatives None) line
  NamesFirstLine request (in_report.Shared alternatives) = ⊤
  NamesFirstLine request (in_report.LimitBars place line v) = (s : Spec) × IsFirst request place (Limits s) line
  NamesFirstLine request (in_report.Limit place line) = (s : Spec) × IsFirst request place (Limits s) line
  NamesFirstLine request (in_report.Outside s v) = ⊤
  NamesFirstLine request (in_report.Matches s v) = ⊤
  NamesFirstLine request (in_report.Lock line v) = LineIs catalogue line (LocksAnother v)
  NamesFirstLine request (in_report.Exclude line) = (v : Version) × (word : List ℕ) × IsForbiddenAs catalogue v word (in_report.Exclude line)
  NamesFirstLine request (in_report.Unknown line) = (v : Version) × (word : List ℕ) × IsForbiddenAs catalogue v word (in_report.Unknown line)
  NamesFirstLine request (in_report.Digit v place bit) = ⊤
  NamesFirstLine request (in_report.Any v) = ⊤
  NamesFirstLine request (in_report.Derive literals causes) = ⊤

module _ (catalogue : List Line) (ids : Ids) where
  -- the atom in the words of a report
  abbrev pub atom_at : ProofAtom NameId SolvableId → in_report.Atom
  atom_at (atom.Solvable s) = in_report.Chosen (version_at catalogue s)
  atom_at (atom.AtLeastOne n) = in_report.AnyOf (name_text ids n)
  atom_at (atom.Gate r) = in_report.SharedBy (alternatives_at ids r)
  atom_at (atom.Outside v) = in_report.OutsideOf (spec_at ids v)
  atom_at (atom.Matches v) = in_report.MatchesOf (spec_at ids v)
  atom_at (atom.Bit n bit) = in_report.BitOf bit (name_text ids n)

  abbrev pub literal_at : ProofLiteral NameId SolvableId → Literal
  literal_at l = record { atom = atom_at l.atom; positive = l.positive }

  -- Each literal's atom has a text.
  abbrev pub HaveForm : List (ProofLiteral NameId SolvableId) → Type 0
  HaveForm literals = (l : ProofLiteral NameId SolvableId) → Contains literals l → IsAtom (atom_at l.atom)

  -- the same literals, in any order and number
  abbrev pub AreLiterals : List (ProofLiteral NameId SolvableId) → List Literal → Type 0
  AreLiterals literals written = (l : Literal) → Contains written l ↔ ((k : ProofLiteral NameId SolvableId) × Contains literals k × (l ≡ literal_at k))

  -- The step writes the proof's step: a rule by its first line, a need by its first such case too.
  -- A lock is written by the line that locks another version, a forbidden version with a word by
  -- that word. A derived clause is written by its literals and the numbers of its causes.
  abbrev pub IsWrittenAs : List Line → ProofStep NameId SolvableId → Step → Type 0
  IsWrittenAs request (Rule (NeedsRule parent r case)) step = (line k : ℕ) × (step ≡ in_report.Need (place_at catalogue parent) line k) × IsFirstNeed catalogue request (place_at catalogue parent) (alternatives_at ids r) (map (spec_at ids) case.items) line k
  IsWrittenAs request (Rule (GateOf s r)) step = (line : ℕ) × (step ≡ in_report.Gate (version_at catalogue s) line) × IsFirst catalogue request (OfVersion (version_at catalogue s)) (Needs (alternatives_at ids r) None) line
  IsWrittenAs request (Rule (Shared r)) step = step ≡ in_report.Shared (alternatives_at ids r)
  IsWrittenAs request (Rule (Limit parent v None)) step = (line : ℕ) × (step ≡ in_report.Limit (place_at catalogue parent) line) × IsFirst catalogue request (place_at catalogue parent) (Limits (spec_at ids v)) line
  IsWrittenAs request (Rule (Limit parent v (Some s))) step = (line : ℕ) × (step ≡ in_report.LimitBars (place_at catalogue parent) line (version_at catalogue s)) × IsFirst catalogue request (place_at catalogue parent) (Limits (spec_at ids v)) line
  IsWrittenAs request (Rule (Outside v s)) step = step ≡ in_report.Outside (spec_at ids v) (version_at catalogue s)
  IsWrittenAs request (Rule (Locked locked s)) step = (line : ℕ) × IsLockStep catalogue (version_at catalogue s) step line
  IsWrittenAs request (Rule (Excluded s reason)) step = IsForbiddenAs catalogue (version_at catalogue s) (word_text ids reason) step
  IsWrittenAs request (Rule (Digit s place bit)) step = step ≡ in_report.Digit (version_at catalogue s) place bit
  IsWrittenAs request (Rule (AtLeastOne n s)) step = step ≡ in_report.Any (version_at catalogue s)
  IsWrittenAs request (Rule (MatchesRule v s)) step = step ≡ in_report.Matches (spec_at ids v) (version_at catalogue s)
  IsWrittenAs request (Derived literals causes) step = (written : List Literal) × (step ≡ in_report.Derive written (map suc causes.items)) × AreLiterals literals.items written

-- ---- reports

-- Over a provider of the catalogue, with the request's ids, the steps are a proof whose ids have
-- texts.
pub record IsProofOver (catalogue : List Line) (source : ReadRequest) (provider : Provider) (steps : List (ProofStep NameId SolvableId)) : Type 0 where
  pub over : IsOver catalogue provider
  pub ids : RequestIds
  pub asked : AreAsked provider.ids source ids
  pub same_atom : Atom NameId SolvableId → Atom NameId SolvableId → Bool
  pub exact_atom : IsExact same_atom
  pub same : SolvableId → SolvableId → Bool
  pub exact : IsExact same
  pub proof : IsProof same_atom same (packages_of provider) (root_of ids) steps
  pub known : (n : ℕ) (s : ProofStep NameId SolvableId) → slice_get steps n ≡ Some s → IsKnownStep catalogue provider.ids s
  -- no derived clause has a literal beside its opposite, and no solvable has two places
  pub one_sign : (n : ℕ) (literals : Vec (ProofLiteral NameId SolvableId) Global) (causes : Vec ℕ Global) → slice_get steps n ≡ Some (Derived literals causes) → HaveOneSign (map literal_in literals.items)
  pub one_place : HaveOnePlace steps

-- They are a proof, and end with the empty clause.
pub record Refutes (catalogue : List Line) (source : ReadRequest) (provider : Provider) (steps : List (ProofStep NameId SolvableId)) : Type 0 where
  pub proves : IsProofOver catalogue source provider steps
  pub empty : EndsEmpty steps
