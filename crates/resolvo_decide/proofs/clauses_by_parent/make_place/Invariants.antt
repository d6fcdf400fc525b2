use Rattle.std.proofs.Common.{◌≡◌, ℕ, ◌+◌, ◌-◌, length}
use Rattle.std.specs.Prelude.{slice_index_or}
use Rattle.resolvo_decide.proofs.clauses_by_parent.make_place.Given as goal

-- the parents that were there have the same last links
abbrev pub invariant-loop-last : goal.invariant-loop-last
invariant-loop-last l = (v : ℕ) → slice_index_or l.last.items v 0 ≡ slice_index_or l.initial.last.items v 0

abbrev pub decreases-loop-last : goal.decreases-loop-last
decreases-loop-last l = l.index + 1 - length l.last.items
