use Rattle.std.proofs.Common.{◌≡◌, ◌<◌, Option, false, length, Some, ap, ◌∙◌, subst, arith}
use Rattle.std.specs.Prelude.{slice_set}
use Rattle.resolvo_store_core.specs.Signed.{Signed}
use Rattle.resolvo_store_core.specs.Pairs.{moved_pair, watches}
use Rattle.resolvo_store_core.specs.declared.watched_literals.WatchedLiterals.{WatchedLiterals}
use Rattle.resolvo_store_core.specs.Watches.{watchers, pair_at}
use Rattle.resolvo_store_core.proofs.ClauseLists.{clause_within}
use Rattle.resolvo_store_core.proofs.Watched.{pair_in_range}
use Rattle.resolvo_store_core.proofs.WatchLemmas.{apart_from, updated}
use Rattle.resolvo_store_core.proofs.watch_map.WatchMapCursor.update.Goals as goal

pub relink-requires-clause-apart : goal.relink-requires-clause-apart
relink-requires-clause-apart c =
    let a = c.args.map.now in
    let k = c.args.self.now in
    let found = clause_within (watchers a k.literal) k.place c.requires.in_list in
    apart_from found.0 k.literal c.args.to k.place c.args.clauses.now (watchers a) c.requires.fit found.1 (c.requires.free found.0 found.1)

pub bounds-clauses-to_index : goal.bounds-clauses-to_index
bounds-clauses-to_index c =
    let clause = c.in_ok-clause.clause in
    let has : pair_at c.args.clauses.now clause.0 ≡ Some c.watched_literals-watched.result = c.watched_literals-watched.ensures clause c.in_ok-clause.ensures.moved.was_in in
    let h : clause.0 < length c.args.clauses.now = pair_in_range c.args.clauses.now clause.0 c.watched_literals-watched.result has in
    let e = c.to_index.ensures.index in
    omega arith

pub returns-clause-moved : goal.returns-clause-moved
returns-clause-moved c =
    let a = c.args.map.now in
    let k = c.args.self.now in
    let clause = c.in_ok-clause.clause in
    let watched = c.watched_literals-watched.result in
    let was_in = c.in_ok-clause.ensures.moved.was_in in
    let has : pair_at c.args.clauses.now clause.0 ≡ Some watched = c.watched_literals-watched.ensures clause was_in in
    let is : c.moved.result ≡ moved_pair watched k.literal c.args.to = c.moved.ensures ∙ ap (λ (l : Signed). moved_pair watched l c.args.to) c.relink.ensures.literal in
    updated clause watched k.literal c.args.to k.place c.args.clauses.now _ (watchers a) (watchers c.relink.new.map) c.requires.fit has (subst (λ (o : Option WatchedLiterals). watches o c.args.to ≡ false) has (c.requires.free clause was_in)) c.in_ok-clause.ensures.moved
    (ap (λ (p : WatchedLiterals). slice_set c.args.clauses.now c.to_index.result (Some p)) is ∙ ap (λ n. slice_set c.args.clauses.now n (Some (moved_pair watched k.literal c.args.to))) c.to_index.ensures.index)
