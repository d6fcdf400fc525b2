use Rattle.std.proofs.Common.{◌≡◌, ℕ, true, false, List, [], ◌∷◌, ◌++◌, cond, is_ok, refl, ◌∙◌, ap}
use Rattle.resolvo_store_core.specs.Links.{named_at}
use Rattle.resolvo_store_core.proofs.LinkLemmas.{more_linked, named_at-push}
use Rattle.resolvo_store_core.proofs.watch_map.WatchMap.reserve_lists.Goals as goal

pub invariant_of-self : goal.invariant_of-self
invariant_of-self c = record { linked = more_linked _ _ _ c.loop-self.self.linked (λ i. ap (λ (fs : List ℕ). named_at fs i) c.push.ensures.items ∙ go (is_ok c.push.result) i); few = c.loop-self.self.few }
  where
    go : (b : _) (i : ℕ) → named_at (cond b (c.loop-self.self.firsts.items ++ 0 ∷ []) c.loop-self.self.firsts.items) i ≡ named_at c.loop-self.self.firsts.items i
    go true i = named_at-push c.loop-self.self.firsts.items i
    go false i = refl
