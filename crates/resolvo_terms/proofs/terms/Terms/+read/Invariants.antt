use Rattle.std.proofs.Common.{◌+◌, ◌*◌, ◌≤◌}
use Rattle.resolvo_text.specs.Parse.{words_in, part_at, joined_at}
use Rattle.resolvo_text.proofs.ConditionLemmas.{rank}
use Rattle.resolvo_terms.specs.Terms.{Grows}
use Rattle.resolvo_terms.specs.TermCounts.{term_count}
use Rattle.resolvo_terms.proofs.PartLemmas.{HasParts}
use Rattle.resolvo_terms.proofs.terms.Terms.+read.Given as goal

abbrev pub decreases-atom_at : goal.decreases-atom_at
decreases-atom_at l = 5 * l.depth

abbrev pub decreases-part_at : goal.decreases-part_at
decreases-part_at l = 5 * l.depth + rank l.joint

abbrev pub decreases-joined_at : goal.decreases-joined_at
decreases-joined_at l = 5 * l.depth + rank l.joint + 1

abbrev pub invariant-joined_at-loop-part : goal.invariant-joined_at-loop-part
invariant-joined_at-loop-part l = record {
  read : HasParts l.joint (part_at l.joint l.depth) l.self (term_count l.initial.self) l.before l.room (words_in l.rest) (joined_at l.fn.joint l.fn.depth l.fn.room (words_in l.fn.words));
  grows : Grows l.initial.self l.self;
  room : l.room ≤ l.fn.room;
}

abbrev pub decreases-joined_at-loop-part : goal.decreases-joined_at-loop-part
decreases-joined_at-loop-part l = l.room
