-- The left-out wishes in the judge's state, by their steps.
use Rattle.std.specs.Prelude.{◌≡◌, ℕ, nat_eq, List, [], ◌∷◌, ◌++◌, map, Option, Some, None, if◌then◌else◌}
use Rattle.std.specs.Global.{Vec}
use Rattle.std.specs.BTreeMap.{get}
use Rattle.std.specs.Ordering.{nat_cmp}
use Rattle.resolvo_text.specs.Line.{Version}
use Rattle.resolvo_text.specs.View.{version_of}
use Rattle.resolvo_judge.specs.declared.forbidden_wishes.Forbidden as code
use Rattle.resolvo_judge.specs.declared.forbidden_wishes.ForbiddenWishes.{ForbiddenWishes}

-- a left-out wish, the step that forbids it, and the number of entries above its line
pub record ForbiddenWish : Type 0 where
  pub wish : Version
  pub step : ℕ
  pub above : ℕ

abbrev pub forbidden_of : code.Forbidden → ForbiddenWish
forbidden_of b = record { wish = version_of b.wish; step = b.step; above = b.above }

-- those that the step must forbid, in order
abbrev pub named_by : List ForbiddenWish → ℕ → List ForbiddenWish
named_by [] n = []
named_by (b ∷ bs) n = if nat_eq b.step n then b ∷ named_by bs n else named_by bs n

abbrev pub wishes_kept : Option (Vec code.Forbidden) → List ForbiddenWish
wishes_kept None = []
wishes_kept (Some v) = map forbidden_of v.items

-- These are the wishes.
pub record HoldsWishes (kept : ForbiddenWishes) (wishes : List ForbiddenWish) : Type 0 where
  pub by_step : (n : ℕ) → wishes_kept (get nat_cmp kept.by_step n) ≡ named_by wishes n
  pub steps : kept.steps.items ≡ map (λ b. b.step) wishes

-- The wish is added to those of its step.
abbrev pub AddsWish : (ℕ → Option (Vec code.Forbidden)) → ForbiddenWish → (ℕ → Option (Vec code.Forbidden)) → Type 0
AddsWish before b after = (n : ℕ) → wishes_kept (after n) ≡ (if nat_eq b.step n then wishes_kept (before n) ++ b ∷ [] else wishes_kept (before n))
