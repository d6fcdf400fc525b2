use Rattle.std.proofs.Common.{◌≡◌, take}
use Rattle.resolvo_encoder.specs.Conditions.{sets_case, case_of, AreSets}
use Rattle.resolvo_turn.proofs.fire_conditions.sets_of.Given as goal

-- the version sets so far
abbrev pub invariant-loop-conjunct : goal.invariant-loop-conjunct
invariant-loop-conjunct g l = record {
  same : l.answers ≡ l.initial.answers;
  sets : AreSets g.A.SolvableId.PartialEq.eq (g.A.PackageSource.packages l.initial.answers) l.sets.items;
  case : sets_case l.sets.items ≡ case_of (take l.conjunct-index l.conjuncts);
}
