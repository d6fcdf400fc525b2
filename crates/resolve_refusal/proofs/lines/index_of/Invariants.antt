use Rattle.std.proofs.Common.{◌≡◌, ◌<◌, ℕ, Some}
use Rattle.std.specs.Prelude.{slice_get}
use Rattle.resolvo_text.specs.View.{specs_of, cases_of}
use Rattle.resolve_refusal.proofs.lines.index_of.Given as goal

-- none of the cases so far
abbrev pub invariant-loop-index : goal.invariant-loop-index
invariant-loop-index l = (j : ℕ) → j < l.index → slice_get (cases_of l.cases) j ≡ Some (specs_of l.case) → ⊥
