use Rattle.std.proofs.Common.{◌≡◌, ◌++◌, take}
use Rattle.resolvo_text.specs.View.{specs_of}
use Rattle.resolvo_catalogue_core.specs.Listed.{listed}
use Rattle.resolvo_checker.specs.StepClauses.{some_match}
use Rattle.resolvo_checker.specs.Built.{literals_in, somes}
use Rattle.resolvo_checker.proofs.clause_parts.push_matches.Given as goal

abbrev pub invariant-loop-spec : goal.invariant-loop-spec
invariant-loop-spec l = literals_in (listed l.catalogue) l.out.items ≡ literals_in (listed l.catalogue) l.fn.out.items ++ somes (some_match l.catalogue (specs_of (take l.spec-index l.alternatives)))
