use Rattle.std.proofs.Common.{◌≡◌, ◌<◌, Option, false, length, Some, ap, sym, ◌∙◌, subst, arith}
use Rattle.std.specs.Prelude.{slice_set}
use Rattle.resolvo_pool_core.specs.declared.id.ClauseId.{ClauseId}
use Rattle.resolvo_store_core.specs.Signed.{Signed, same_literal}
use Rattle.resolvo_store_core.specs.Pairs.{moved_pair, watches}
use Rattle.resolvo_store_core.specs.declared.watched_literals.WatchedLiterals.{WatchedLiterals}
use Rattle.resolvo_store_core.specs.Watches.{watchers, MovesIn}
use Rattle.resolvo_store_core.proofs.ClauseLists.{in_range_from}
use Rattle.resolvo_store_core.proofs.Watched.{pair_in_range, moved_differ}
use Rattle.resolvo_store_core.proofs.WatchLemmas.{apart_from, updated}
use Rattle.resolvo_store_core.proofs.watch_map.WatchMapCursor.update_pair.Goals as goal

pub relink-requires : goal.relink-requires
relink-requires c =
    let a = c.args.map.now in
    let k = c.args.self.now in
    record {
      at = c.requires.at;
      in_list = in_range_from (watchers a k.literal) k.place c.args.clause c.requires.present;
      apart = apart_from c.args.clause k.literal c.args.to k.place c.args.clauses.now (watchers a) c.requires.fit c.requires.present (subst (λ (o : Option WatchedLiterals). watches o c.args.to ≡ false) (sym c.requires.pair) c.requires.free);
    }

pub bounds-clauses-to_index : goal.bounds-clauses-to_index
bounds-clauses-to_index c =
    let h : c.args.clause.0 < length c.args.clauses.now = pair_in_range c.args.clauses.now c.args.clause.0 c.args.watched c.requires.pair in
    let e = c.to_index.ensures.index in
    omega arith

pub of-requires : goal.of-requires
of-requires c =
    let is : c.moved.result ≡ moved_pair c.args.watched c.args.self.now.literal c.args.to = c.moved.ensures ∙ ap (λ (l : Signed). moved_pair c.args.watched l c.args.to) c.relink.ensures.literal in
    subst (λ (p : WatchedLiterals). same_literal p.first p.second ≡ false) (sym is) (moved_differ c.args.watched c.args.self.now.literal c.args.to c.requires.free)

pub returns-clause-moved : goal.returns-clause-moved
returns-clause-moved c =
    let a = c.args.map.now in
    let k = c.args.self.now in
    let watched = c.args.watched in
    let is : c.moved.result ≡ moved_pair watched k.literal c.args.to = c.moved.ensures ∙ ap (λ (l : Signed). moved_pair watched l c.args.to) c.relink.ensures.literal in
    let was_in = c.in_ok-relink.ensures.moved.was_in in
    let both : Some c.in_ok-relink.field-0 ≡ Some c.args.clause = sym was_in ∙ c.requires.present in
    let same : c.in_ok-relink.field-0 ≡ c.args.clause = cc in
    let lists : MovesIn c.args.clause k.literal k.place c.args.to (watchers a) (watchers c.relink.new.map) = subst (λ (x : ClauseId). MovesIn x k.literal k.place c.args.to (watchers a) (watchers c.relink.new.map)) same c.in_ok-relink.ensures.moved in
    updated c.args.clause watched k.literal c.args.to k.place c.args.clauses.now _ (watchers a) (watchers c.relink.new.map) c.requires.fit c.requires.pair c.requires.free lists
    (ap (λ (p : Option WatchedLiterals). slice_set c.args.clauses.now c.to_index.result p) (c.of.ensures ∙ ap (λ (p : WatchedLiterals). Some p) is) ∙ ap (λ n. slice_set c.args.clauses.now n (Some (moved_pair watched k.literal c.args.to))) c.to_index.ensures.index)
