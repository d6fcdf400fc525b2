use Rattle.std.proofs.Common.{◌≡◌, true, take}
use Rattle.std.specs.Prelude.{Contains}
use Rattle.resolvo_pool_core.specs.declared.requirement.Requirement.{Requirement}
use Rattle.resolvo_proof.specs.Offered.{was_offered, offered_by}
use Rattle.resolvo.specs.Conflicts.{IsRightOffer}
use Rattle.resolvo.proofs.conflict.offers_for.Given as goal

-- the requirements so far have offers, which are right
abbrev pub invariant-loop-requirement : goal.invariant-loop-requirement
invariant-loop-requirement g l = record {
  same : l.answers ≡ l.initial.answers;
  recorded : (r : Requirement) → Contains (take l.requirement-index l.requirement-items) r → was_offered l.offers r ≡ true;
  right : (r : Requirement) → was_offered l.offers r ≡ true → IsRightOffer g.A.SolvableId.PartialEq.eq (g.A.PackageSource.packages l.initial.answers) (g.A.PackageSource.orders l.initial.answers) r (offered_by l.offers r);
}
