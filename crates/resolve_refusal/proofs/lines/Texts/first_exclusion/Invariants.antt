use Rattle.std.proofs.Common.{◌≡◌, ◌<◌, ◌+◌, ℕ, Some}
use Rattle.std.specs.Prelude.{slice_get}
use Rattle.resolvo_text.specs.Line.{Version}
use Rattle.resolvo_catalogue_core.specs.Listed.{listed}
use Rattle.resolve_refusal.specs.Lines.{ExcludesAt}
use Rattle.resolve_refusal.proofs.lines.Texts.first_exclusion.Given as goal

-- none of the lines so far
abbrev pub invariant-loop-above : goal.invariant-loop-above
invariant-loop-above l = (k : ℕ) → k < l.above → (v : Version) → slice_get (listed l.fn.self.catalogue.now) l.fn.version.0 ≡ Some v → ExcludesAt l.fn.self.catalogue.now v l.word (k + 1) → ⊥
