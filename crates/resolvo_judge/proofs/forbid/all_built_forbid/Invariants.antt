use Rattle.std.proofs.Common.{◌≡◌, true, take}
use Rattle.resolvo_text.specs.Matches.{Set}
use Rattle.resolvo_text.specs.View.{version_of}
use Rattle.resolvo_checker.specs.Built.{literals_in}
use Rattle.resolvo_judge.specs.Chosen.{Holds}
use Rattle.resolvo_judge.specs.Forbids.{built_forbid}
use Rattle.resolvo_judge.proofs.forbid.all_built_forbid.Given as goal

abbrev pub invariant-loop-built : goal.invariant-loop-built
invariant-loop-built l = (set : Set) → Holds l.fn.chosen set → built_forbid (take l.fn.forbidden.above set) (version_of l.fn.forbidden.wish) (literals_in l.fn.versions (take l.built-index l.clause)) ≡ true
