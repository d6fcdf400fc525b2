use Rattle.std.proofs.Common.{◌≡◌, Some, refl, sym, ◌∙◌, subst}
use Rattle.std.specs.Option.{IsSome}
use Rattle.resolvo_store_core.specs.Watches.{watchers}
use Rattle.resolvo_store_core.proofs.Watched.{pair_of_watcher}
use Rattle.resolvo_sat.proofs.watch_lists.WatchLists.pair.Goals as goal

pub unwrap-requires : goal.unwrap-requires
unwrap-requires c =
    let found = pair_of_watcher c.args.self.now.watched.items (watchers c.args.self.now.watches) c.args.cursor.literal c.args.cursor.place c.args.clause c.requires.fit c.requires.present in
    let is : c.pair_of.result ≡ Some found.0 = c.pair_of.ensures ∙ found.1 in
    subst IsSome (sym is) refl
