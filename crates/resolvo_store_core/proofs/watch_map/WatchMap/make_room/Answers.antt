use Rattle.std.proofs.Common.{◌≡◌, ◌+◌, Some, None, take, sym, ◌∙◌, subst}
use Rattle.resolvo_store_core.specs.Signed.{Signed}
use Rattle.resolvo_store_core.specs.declared.watch_map.WatchMap.{WatchMap}
use Rattle.resolvo_store_core.specs.Watches.{HasPlace, HasRoom, watchers, SameLists}
use Rattle.resolvo_store_core.proofs.Rooms.{room_one_more}
use Rattle.resolvo_store_core.proofs.watch_map.WatchMap.make_room.Goals.{in-Some+in_ok-reserve, in_default}
use Rattle.resolvo_store_core.proofs.watch_map.WatchMap.make_room.Goals as goal

pub loop-target-preserved : goal.loop-target-preserved
loop-target-preserved c =
    let moves = c.args.moves.now in
    let i = c.loop-target.target-index in
    let inv = c.loop-target.invariant in
    elim c.match-target.branch [
      | in-Some+in_ok-reserve w ↦ subst (λ (m : WatchMap). SameLists (watchers c.args.self.now) (watchers m) × HasRoom m (take (i + 1) moves)) (sym w.self-is) (
        λ l. w.in_ok-reserve.ensures.same l ∙ inv.0 l,
        room_one_more i c.loop-target.self w.reserve.new.self moves c.target-item.result c.loop-target-test.true c.target-item.is inv.1 w.in_ok-reserve.ensures.others
            (λ l e. let both : Some w.in-Some.literal ≡ Some l = sym w.in-Some.is ∙ e in let same : w.in-Some.literal ≡ l = cc in subst (λ (m : Signed). HasPlace w.reserve.new.self m) same w.in_ok-reserve.ensures.room),
      )
      | in_default w ↦ subst (λ (m : WatchMap). SameLists (watchers c.args.self.now) (watchers m) × HasRoom m (take (i + 1) moves)) (sym w.self-is) (
        inv.0,
        room_one_more i c.loop-target.self c.loop-target.self moves c.target-item.result c.loop-target-test.true c.target-item.is inv.1 (λ l h. h)
            (λ l e. let both : None ≡ Some l = sym w.in_default.is ∙ e in absurd cc),
      )
    ]
