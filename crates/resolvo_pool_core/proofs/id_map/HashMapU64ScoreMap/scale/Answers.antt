use Rattle.std.proofs.Common.{rules, ◌≡◌, ℕ, ◌*◌, ◌/◌, None, Some, refl}
use Rattle.std.specs.Prelude.{Option}
use Rattle.std.specs.Option.{unwrap_or, option_map}
use Rattle.std.proofs.lemmas.Map.Made.{map_same_pairs, lookup-map_values}
use Rattle.resolvo_pool_core.proofs.id_map.HashMapU64ScoreMap.scale.Goals as goal

-- nothing scaled is nothing
unwrap_or-scaled : (p : ℕ) (o : Option ℕ) → unwrap_or (option_map (λ v. v * p / 1000000) o) 0 ≡ unwrap_or o 0 * p / 1000000
unwrap_or-scaled p None = search rules
unwrap_or-scaled p (Some v) = refl

pub returns : goal.returns
returns g c =
    let p = c.args.per_million in
    let e = map_same_pairs _ (λ v. v * p / 1000000) _ (λ k v b w f' t. search rules) _ _ c.retain.ensures.filtered in
    λ q. rw (e, lookup-map_values (λ v. v * p / 1000000) (g.K.PartialEq.eq q) c.args.self.now.entries) (unwrap_or-scaled p _)
