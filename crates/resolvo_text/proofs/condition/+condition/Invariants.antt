use Rattle.std.proofs.Common.{◌≡◌, ℕ, ◌+◌, ◌*◌, ◌≤◌}
use Rattle.resolvo_text.specs.Parse.{words_in, parts_at, part_at, joined_at}
use Rattle.resolvo_text.specs.View.{before_of}
use Rattle.resolvo_text.proofs.ConditionLemmas.{rank}
use Rattle.resolvo_text.proofs.condition.+condition.Given as goal

abbrev pub decreases-atom_at : goal.decreases-atom_at
decreases-atom_at l = 5 * l.depth

abbrev pub decreases-part_at : goal.decreases-part_at
decreases-part_at l = 5 * l.depth + rank l.joint

abbrev pub decreases-joined_at : goal.decreases-joined_at
decreases-joined_at l = 5 * l.depth + rank l.joint + 1

abbrev pub invariant-joined_at-loop-before : goal.invariant-joined_at-loop-before
invariant-joined_at-loop-before l = (n : ℕ) × (l.room ≤ n)
    × (parts_at l.joint (part_at l.joint l.depth) n (before_of l.before) l.room (words_in l.rest) ≡ joined_at l.fn.joint l.fn.depth l.fn.room (words_in l.fn.words))
    × (l.room ≤ l.fn.room)

abbrev pub decreases-joined_at-loop-before : goal.decreases-joined_at-loop-before
decreases-joined_at-loop-before l = l.room
