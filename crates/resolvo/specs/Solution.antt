-- A problem's solution, or that it has none.
use Rattle.std.specs.Prelude.{◌≡◌, Bool, true, List, []}
use Rattle.resolvo_pool_core.specs.RuleKeeping.{Packages, Rules, is_in, IsRuleKeeping, IsReached}

module _ {N S : Type 0} (same : S → S → Bool) (p : Packages N S) (root : Rules) where
  -- The solvables keep all rules, and are those that the root reaches: by a requirement of its own,
  -- or of a solvable that it reaches.
  pub record IsSolution (chosen : List S) : Type 0 where
    pub keeping : IsRuleKeeping same p root chosen
    pub reached : (s : S) → is_in same p chosen s ≡ true → IsReached same p root [] chosen s
    pub inside : (s : S) → IsReached same p root [] chosen s → is_in same p chosen s ≡ true

  -- no solvables keep all rules
  abbrev pub IsUnsolvable : Type 0
  IsUnsolvable = (chosen : List S) → IsRuleKeeping same p root chosen → ⊥
