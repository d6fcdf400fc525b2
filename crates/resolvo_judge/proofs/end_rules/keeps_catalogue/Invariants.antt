use Rattle.std.proofs.Common.{◌≡◌, ℕ, ◌≤◌, true}
use Rattle.resolvo_text.specs.Matches.{Set}
use Rattle.resolvo_catalogue_core.specs.Rules.{keeps}
use Rattle.resolvo_judge.specs.Chosen.{Holds}
use Rattle.resolvo_judge.proofs.end_rules.keeps_catalogue.Given as goal

abbrev pub invariant-loop-index : goal.invariant-loop-index
invariant-loop-index l = (set : Set) → Holds l.fn.chosen set → (n : ℕ) → n ≤ l.index → keeps l.fn.catalogue n set ≡ true
