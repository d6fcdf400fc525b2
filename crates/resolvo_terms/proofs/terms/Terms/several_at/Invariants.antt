use Rattle.std.proofs.Common.{◌≤◌, ℕ, length}
use Rattle.resolvo_text.specs.Line.{Spec}
use Rattle.resolvo_text.specs.Parse.{words_in, with_first, alternatives_at}
use Rattle.resolvo_terms.specs.Terms.{Grows, IsSpec}
use Rattle.resolvo_terms.specs.TermCounts.{term_count}
use Rattle.resolvo_terms.proofs.ReadLemmas.{HasRead}
use Rattle.resolvo_terms.proofs.terms.Terms.several_at.Given as goal

abbrev pub invariant-loop-members : goal.invariant-loop-members
invariant-loop-members l = record {
  read : (most : ℕ) (s : Spec) → length (words_in l.fn.words) ≤ most → IsSpec l.initial.self l.fn.first s
      → HasRead l.self (term_count l.initial.self) l.members.items (words_in l.rest) (with_first s (alternatives_at most (words_in l.fn.words)));
  grows : Grows l.initial.self l.self;
  some : 1 ≤ length l.members.items;
}

abbrev pub decreases-loop-members : goal.decreases-loop-members
decreases-loop-members l = length l.rest
