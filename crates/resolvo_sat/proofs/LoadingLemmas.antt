-- From single parents to all that is encoded.
use Rattle.std.proofs.Common.{◌⊎◌, inl, inr, Bool, List, Option}
use Rattle.resolvo_pool_core.specs.declared.id.VersionSetId.{VersionSetId}
use Rattle.resolvo_pool_core.specs.declared.requirement.ConditionalRequirement.{ConditionalRequirement}
use Rattle.resolvo_pool_core.specs.RuleKeeping.{Packages, Rules}
use Rattle.resolvo_sat.specs.RuleClauses.{Rule}
use Rattle.resolvo_sat.specs.SearchEnd.{IsNeedEncoded}
use Rattle.resolvo_sat.specs.Loads.{Deferred, IsParentEncoded}

module _ {N S : Type 0} (same : S → S → Bool) (p : Packages N S) (root : Rules) where
  need_grows : (rules more : Rule N S → Type 0) (parent : Option S) (need : ConditionalRequirement) (case : List VersionSetId) → ((r : Rule N S) → rules r → more r) → IsNeedEncoded same p rules parent need case → IsNeedEncoded same p more parent need case
  need_grows rules more parent need case f (inl r) = inl (f _ r)
  need_grows rules more parent need case f (inr (inl (s, is, g, r))) = inr (inl (s, is, f _ g, f _ r))
  need_grows rules more parent need case f (inr (inr x)) = inr (inr x)

  -- more rules, and cases that wait no longer once they have clauses, leave a parent encoded
  pub parent_grows : (rules more : Rule N S → Type 0) (waiting left : Deferred S → Type 0) (parent : Option S) → ((r : Rule N S) → rules r → more r)
      → ((d : Deferred S) → waiting d → IsNeedEncoded same p more d.parent d.need d.case ⊎ left d) → IsParentEncoded same p rules root waiting parent → IsParentEncoded same p more root left parent
  parent_grows rules more waiting left parent f g e = record {
    need = λ need case n a. elim (e.need need case n a) [ inl x ↦ inl (need_grows rules more parent need case f x) | inr w ↦ g _ w ];
    limit = λ v s a o. elim (e.limit v s a o) [ inl r ↦ inl (f _ r) | inr (r, q) ↦ inr (f _ r, f _ q) ];
    forbid = λ v s a b. (let (w, r) = e.forbid v s a b in (w, f _ r));
    unknown = λ s is u. (let (w, r) = e.unknown s is u in (w, f _ r));
  }
