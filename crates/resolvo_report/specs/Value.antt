-- The models of a report and its lines.
use Rattle.std.specs.Prelude.{ℕ, Bool, List}
use Rattle.resolvo_text.specs.Line.{Version, Spec}

-- the owner of a step's or an entry's line
pub data Place : Type 0 where
  OfRequest : Place
  OfVersion : Version → Place

-- A version is chosen, some version of a package is, one of these SPECs must be met, the versions that a SPEC
-- doesn't match are forbidden, a version that a SPEC matches is chosen, or a binary digit of the place of a
-- package's chosen version.
pub data Atom : Type 0 where
  Chosen : Version → Atom
  AnyOf : List ℕ → Atom
  SharedBy : List Spec → Atom
  OutsideOf : Spec → Atom
  MatchesOf : Spec → Atom
  BitOf : ℕ → List ℕ → Atom

-- an atom, or its negation
pub record Literal : Type 0 where
  pub atom : Atom
  pub positive : Bool

-- Need has a place, a line and a case, LimitBars a place, a line and a version, Digit a version, its place
-- and a bit, Derive a clause and the numbers of earlier steps.
pub data Step : Type 0 where
  Need : Place → ℕ → ℕ → Step
  Gate : Version → ℕ → Step
  Shared : List Spec → Step
  LimitBars : Place → ℕ → Version → Step
  Limit : Place → ℕ → Step
  Outside : Spec → Version → Step
  Matches : Spec → Version → Step
  Lock : ℕ → Version → Step
  Exclude : ℕ → Step
  Unknown : ℕ → Step
  Digit : Version → ℕ → ℕ → Step
  Any : Version → Step
  Derive : List Literal → List ℕ → Step

-- an entry of a place's line, an entry of a wish's line, a wish that is left out by a step
pub data AnswerLine : Type 0 where
  Entry : Version → Place → ℕ → AnswerLine
  Wished : Version → ℕ → AnswerLine
  LeftOut : Version → ℕ → ℕ → AnswerLine

-- Refused has the named lines of the catalogue and of the request, the steps, and the message's lines.
pub data Report : Type 0 where
  Install : List AnswerLine → List Step → Report
  Refused : List ℕ → List ℕ → List Step → List (List ℕ) → Report

-- one line of a report
pub data ReportLine : Type 0 where
  InstallHead : ReportLine
  RefusedHead : ReportLine
  Answer : AnswerLine → ReportLine
  CatalogueLine : ℕ → ReportLine
  RequestLine : ℕ → ReportLine
  Numbered : ℕ → Step → ReportLine
  Message : List ℕ → ReportLine
