use Rattle.std.proofs.Common.{◌≡◌, Some, refl, sym, ◌∙◌, subst}
use Rattle.std.specs.Option.{IsSome}
use Rattle.resolvo_store_core.specs.Watches.{watchers}
use Rattle.resolvo_store_core.proofs.Watched.{pair_of_watcher}
use Rattle.resolvo_store_core.proofs.ClauseLists.{some_within}
use Rattle.resolvo_store_core.proofs.watch_map.WatchMapCursor.watched_literals.Goals as goal

pub unwrap-requires : goal.unwrap-requires
unwrap-requires c =
    let found = pair_of_watcher c.args.clauses.now (watchers c.args.map.now) c.args.self.now.literal c.args.self.now.place c.in-Some.clause c.requires.fit (sym c.in-Some.ensures.clause) in
    let is : c.pair_of.result ≡ Some found.0 = c.pair_of.ensures ∙ found.1 in
    subst IsSome (sym is) refl

pub unreachable-requires : goal.unreachable-requires
unreachable-requires c = some_within (watchers c.args.map.now c.args.self.now.literal) c.args.self.now.place c.requires.in_list (sym c.in-None.ensures.clause)
