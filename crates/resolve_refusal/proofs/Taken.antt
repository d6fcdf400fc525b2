-- The rules of a proof, taken apart.
use Rattle.std.proofs.Common.{◌≡◌, Bool, true}
use Rattle.resolvo_pool_core.specs.declared.id.VersionSetId.{VersionSetId}
use Rattle.resolvo_pool_core.specs.RuleKeeping.{Packages, Rules, is_match, is_many, is_outside}
use Rattle.resolvo_sat.specs.RuleClauses.{Rule, IsRule}

module _ {N S : Type 0} (same : S → S → Bool) (p : Packages N S) (root : Rules) where
  -- the solvable is outside the version set
  pub out_is : (v : VersionSetId) (s : S) → IsRule same p root (Rule.is_out v s) → is_outside same p v s ≡ true
  out_is v s (parent, has, out) = out

  -- the solvable matches the version set, whose package is marked `many`
  pub match_is : (v : VersionSetId) (s : S) → IsRule same p root (Rule.matches v s) → (is_match same p v s ≡ true) × (is_many p (p.set_package v) ≡ true)
  match_is v s (of, matches, many) = (matches, many)
