use Rattle.std.proofs.Common.{◌≡◌, ℕ, ◌≤◌, length}
use Rattle.resolvo_text.specs.View.{spec_of, specs_of}
use Rattle.resolvo_text.specs.Parse.{words_in, with_first, alternatives_at}
use Rattle.resolvo_text.proofs.AlternativeLemmas.{with_prefix}
use Rattle.resolvo_text.proofs.parse.several_at.Given as goal

abbrev pub invariant-loop-specs : goal.invariant-loop-specs
invariant-loop-specs l = (most : ℕ) → length (words_in l.fn.words) ≤ most → (n : ℕ) × (length (words_in l.rest) ≤ n)
    × (with_prefix (specs_of l.specs.items) (alternatives_at n (words_in l.rest)) ≡ with_first (spec_of l.fn.first) (alternatives_at most (words_in l.fn.words)))

abbrev pub decreases-loop-specs : goal.decreases-loop-specs
decreases-loop-specs l = length l.rest
