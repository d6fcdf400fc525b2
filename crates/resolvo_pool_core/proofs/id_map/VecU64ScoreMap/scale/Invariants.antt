use Rattle.std.proofs.Common.{◌≡◌, ℕ, ◌*◌, ◌/◌, get_or, cond, ltb}
use Rattle.resolvo_pool_core.proofs.id_map.VecU64ScoreMap.scale.Given as goal

abbrev pub invariant-loop-score : goal.invariant-loop-score
invariant-loop-score g l = (k : ℕ) → get_or l.score-items k 0 ≡ cond (ltb k l.score-index) (get_or l.initial.score-items k 0 * l.per_million / 1000000) (get_or l.initial.score-items k 0)
