use Rattle.std.proofs.Common.{◌≡◌, take}
use Rattle.resolvo_encoder.specs.Conditions.{case_of, AreConjuncts}
use Rattle.resolvo_turn.proofs.defer_conditions.conjuncts_of.Given as goal

-- the version sets so far
abbrev pub invariant-loop-version_set : goal.invariant-loop-version_set
invariant-loop-version_set g l = record {
  same : l.answers ≡ l.initial.answers;
  matches : AreConjuncts g.A.SolvableId.PartialEq.eq (g.A.PackageSource.packages l.initial.answers) l.conjuncts.items;
  case : case_of l.conjuncts.items ≡ take l.version_set-index l.case;
}
