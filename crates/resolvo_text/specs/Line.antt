-- The lines of a catalogue and of a request.
use Rattle.std.specs.Prelude.{ℕ, List, Option}
use Rattle.resolvo_text.specs.declared.spec.Span.{Span}

-- a version of a package
pub record Version : Type 0 where
  pub name : List ℕ
  pub number : ℕ

-- a package, and which of its versions
pub record Spec : Type 0 where
  pub name : List ℕ
  pub span : Span

-- A condition on a set of versions: a SPEC is met, both conditions hold, or one of them does.
pub data Cond : Type 0 where
  Is : Spec → Cond
  And : Cond → Cond → Cond
  Or : Cond → Cond → Cond

-- Listed is a line `version`. Unknown and Exclude end in a word of reason. Many names a package, of which
-- versions may be side by side.
pub data Line : Type 0 where
  Skipped : Line
  Listed : Version → Line
  Needs : List Spec → Option Cond → Line
  Limits : Spec → Line
  Unknown : List ℕ → Line
  Lock : Version → Line
  Favour : Version → Line
  Exclude : Version → List ℕ → Line
  Many : List ℕ → Line
  Wish : Version → Line
