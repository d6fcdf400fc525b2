use Rattle.std.proofs.Common.{◌≡◌, false, take}
use Rattle.resolvo_text.specs.Matches.{Set, is_met_by_one}
use Rattle.resolvo_text.specs.View.{specs_of}
use Rattle.resolvo_judge.specs.Chosen.{Holds}
use Rattle.resolvo_judge.proofs.chosen.Chosen.is_met_by_one.Given as goal

abbrev pub invariant-loop-spec : goal.invariant-loop-spec
invariant-loop-spec l = (set : Set) → Holds l.fn.self set → is_met_by_one (specs_of (take l.spec-index l.alternatives)) set ≡ false
