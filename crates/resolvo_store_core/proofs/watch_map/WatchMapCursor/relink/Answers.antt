use Rattle.std.proofs.Common.{◌≡◌, ℕ, List, Some, sym, ◌∙◌, ap, subst}
use Rattle.std.specs.Prelude.{slice_get}
use Rattle.resolvo_pool_core.specs.declared.id.ClauseId.{ClauseId}
use Rattle.resolvo_store_core.specs.Links.{clause_of, IsPlaced}
use Rattle.resolvo_store_core.specs.Watches.{watchers, MovesIn}
use Rattle.resolvo_store_core.proofs.Watched.{differs_sym}
use Rattle.resolvo_store_core.proofs.WatchLemmas.{clause_here, not_at_end, out_same, still_at, moved_between}
use Rattle.resolvo_store_core.proofs.watch_map.WatchMapCursor.relink.Goals as goal

pub unreachable-requires : goal.unreachable-requires
unreachable-requires c = not_at_end c.args.map.now c.args.self.now c.requires.at c.requires.in_list c.in-None.is

pub returns-clause-moved : goal.returns-clause-moved
returns-clause-moved c =
    let a = c.args.map.now in
    let k = c.args.self.now in
    let mid = c.reserve.new.self in
    let same = c.in_ok-reserve.ensures.same in
    let at = still_at a _ _ k c.in_ok-reserve.ensures.links c.requires.at in
    let here : slice_get (watchers mid k.literal) k.place ≡ Some (clause_of c.in-Some.link) = clause_here mid k c.in-Some.link at c.in-Some.is in
    let was_in : slice_get (watchers a k.literal) k.place ≡ Some (clause_of c.in-Some.link) = ap (λ (xs : List ClauseId). slice_get xs k.place) (sym (same k.literal)) ∙ here in
    subst (λ (x : ClauseId). MovesIn x k.literal k.place c.args.to (watchers a) (watchers c.link_first.new.self)) (sym c.clause_at.ensures)
    (moved_between (clause_of c.in-Some.link) k.literal c.args.to k.place (watchers a) (watchers c.take_out-self.new.self) (watchers c.link_first.new.self) c.requires.apart was_in
    (out_same k.literal k.place (watchers a) (watchers mid) (watchers c.take_out-self.new.self) same c.take_out-self.ensures.taken) c.link_first.ensures.put)

pub returns-clause-at : goal.returns-clause-at
returns-clause-at c =
    let k = c.args.self.now in
    subst (λ (xs : List ℕ). IsPlaced xs k.place c.take_out-self.result k.before) (sym (c.link_first.ensures.others k.literal (differs_sym k.literal c.args.to c.requires.apart))) c.take_out-self.ensures.at
