use Rattle.std.proofs.Common.{◌≡◌, ℕ, ◌≤◌, true}
use Rattle.resolvo_text.specs.Matches.{Set}
use Rattle.resolvo_catalogue_core.specs.Rules.{keeps_in_request}
use Rattle.resolvo_judge.specs.Chosen.{Holds}
use Rattle.resolvo_judge.proofs.end_rules.keeps_request.Given as goal

abbrev pub invariant-loop-index : goal.invariant-loop-index
invariant-loop-index l = (set : Set) → Holds l.fn.chosen set → (n : ℕ) → n ≤ l.index → keeps_in_request l.fn.request.lines n set ≡ true
