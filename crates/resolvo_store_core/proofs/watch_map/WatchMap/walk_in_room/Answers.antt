use Rattle.std.proofs.Common.{◌≡◌, ℕ, ◌+◌, ◌<◌, ◌∷◌, ◌++◌, [], List, Option, Some, None, cond, is_ok, length, sym, ◌∙◌, ap, subst, arith}
use Rattle.resolvo_store_core.specs.Signed.{Signed}
use Rattle.resolvo_store_core.specs.Watches.{watchers, pair_at, Moves, HasRoom}
use Rattle.resolvo_store_core.specs.Walk.{IsWalking, new_watch, first_target, pairs_after, lists_after}
use Rattle.resolvo_store_core.proofs.ClauseLists.{in_range_from}
use Rattle.resolvo_store_core.proofs.Rooms.{first_has_room, rest_has_room}
use Rattle.resolvo_store_core.proofs.Walks.{walking_keeps, walking_moves, shorter, met_all, moved_all, lists_all, new_watch_free, new_watch_is, ok_gives}
use Rattle.resolvo_store_core.proofs.watch_map.WatchMap.walk_in_room.Goals as goal

pub update-requires-clause-free : goal.update-requires-clause-free
update-requires-clause-free c = λ d at. new_watch_free (pair_at c.loop-clause.clauses d.0) c.first_of-target.result.0 c.in-Some-target.to (sym c.in-Some-target.is ∙ c.target.ensures d at)

pub loop-clause-smaller-in-Some-target : goal.loop-clause-smaller-in-Some-target
loop-clause-smaller-in-Some-target c =
    let place = c.loop-clause.cursor.place in
    let on : c.update.new.self.place ≡ place = c.update.ensures.place in
    let is : length (watchers c.loop-clause.self c.loop-clause.cursor.literal) ≡ length (watchers c.loop-clause.self c.args.literal) = ap (λ (l : Signed). length (watchers c.loop-clause.self l)) c.loop-clause.invariant.literal in
    let is' : length (watchers c.update.new.map c.loop-clause.cursor.literal) ≡ length (watchers c.update.new.map c.args.literal) = ap (λ (l : Signed). length (watchers c.update.new.map l)) c.loop-clause.invariant.literal in
    let less : length (watchers c.update.new.map c.loop-clause.cursor.literal) + 1 ≡ length (watchers c.loop-clause.self c.loop-clause.cursor.literal) = shorter c.loop-clause.cursor.literal c.in-Some-target.to place c.loop-clause.clauses c.update.new.clauses (watchers c.loop-clause.self) (watchers c.update.new.map) (ok_gives _ c.update.result c.unwrap-in-Some-target.result c.update.ensures.moved c.unwrap-in-Some-target.ensures) in
    let within : place < length (watchers c.loop-clause.self c.loop-clause.cursor.literal) = in_range_from (watchers c.loop-clause.self c.loop-clause.cursor.literal) place c.in-Some.clause (sym c.in-Some.ensures.clause) in
    omega arith

pub unwrap-requires-in-Some-target : goal.unwrap-requires-in-Some-target
unwrap-requires-in-Some-target c = c.update.ensures.succeeds (first_has_room c.loop-clause.self c.loop-clause.rest.now c.in-Some-target.to c.loop-clause.invariant.room (new_watch_is (pair_at c.loop-clause.clauses c.in-Some.clause.0) _ c.in-Some-target.to (sym c.in-Some-target.is ∙ c.target.ensures c.in-Some.clause (sym c.in-Some.ensures.clause)) ∙ c.first_of-target.ensures.first))

pub loop-clause-preserved-in-Some-target : goal.loop-clause-preserved-in-Some-target
loop-clause-preserved-in-Some-target c =
    let from = c.loop-clause.cursor.literal in
    let inv = c.loop-clause.invariant in
    let at = sym c.in-Some.ensures.clause in
    let goes : Some c.in-Some-target.to ≡ new_watch (pair_at c.loop-clause.clauses c.in-Some.clause.0) (first_target c.loop-clause.rest.now) = sym c.in-Some-target.is ∙ c.target.ensures c.in-Some.clause at ∙ ap (new_watch (pair_at c.loop-clause.clauses c.in-Some.clause.0)) c.first_of-target.ensures.first in
    let pushed : c.push.new.self.items ≡ c.loop-clause.met.items ++ c.in-Some.clause ∷ [] = c.push.ensures.items ∙ ap (λ r. cond (is_ok r) (c.loop-clause.met.items ++ c.in-Some.clause ∷ []) c.loop-clause.met.items) c.unwrap.ensures in
    let moved : Moves from c.loop-clause.cursor.place c.in-Some-target.to c.loop-clause.clauses c.update.new.clauses (watchers c.loop-clause.self) (watchers c.update.new.map) = ok_gives _ c.update.result c.unwrap-in-Some-target.result c.update.ensures.moved c.unwrap-in-Some-target.ensures in
    let enough = inv.met_room in
    let wider = c.push.ensures.capacity in
    record {
      walking = subst (λ (l : Signed). IsWalking l c.push.new.self.items c.args.moves.now c.args.clauses.now (watchers c.args.self.now) c.update.new.self.place c.first_of-target.result.1.now c.update.new.clauses (watchers c.update.new.map)) (sym c.update.ensures.literal)
          (subst (λ (p : ℕ). IsWalking from c.push.new.self.items c.args.moves.now c.args.clauses.now (watchers c.args.self.now) p c.first_of-target.result.1.now c.update.new.clauses (watchers c.update.new.map)) (sym c.update.ensures.place)
          (subst (λ (r : List (Option Signed)). IsWalking from c.push.new.self.items c.args.moves.now c.args.clauses.now (watchers c.args.self.now) c.loop-clause.cursor.place r c.update.new.clauses (watchers c.update.new.map)) (sym c.first_of-target.ensures.rest)
          (walking_moves from c.in-Some-target.to c.loop-clause.met.items c.push.new.self.items c.args.moves.now c.args.clauses.now (watchers c.args.self.now) c.loop-clause.cursor.place c.loop-clause.rest.now c.loop-clause.clauses c.update.new.clauses (watchers c.loop-clause.self) (watchers c.update.new.map) c.in-Some.clause
          inv.walking at pushed goes moved)));
      at = c.update.ensures.at;
      literal = c.update.ensures.literal ∙ inv.literal;
      room = subst (λ (r : List (Option Signed)). HasRoom c.update.new.map r) (sym c.first_of-target.ensures.rest) (rest_has_room c.loop-clause.self c.update.new.map c.loop-clause.rest.now c.update.ensures.room inv.room);
      met_room = omega arith;
    }

pub loop-clause-smaller : goal.loop-clause-smaller
loop-clause-smaller c =
    let place = c.loop-clause.cursor.place in
    let within : place < length (watchers c.loop-clause.self c.loop-clause.cursor.literal) = in_range_from (watchers c.loop-clause.self c.loop-clause.cursor.literal) place c.in-Some.clause (sym c.in-Some.ensures.clause) in
    let is : length (watchers c.loop-clause.self c.loop-clause.cursor.literal) ≡ length (watchers c.loop-clause.self c.args.literal) = ap (λ (l : Signed). length (watchers c.loop-clause.self l)) c.loop-clause.invariant.literal in
    let on : c.next.new.self.place ≡ place + 1 = c.next.ensures.place in
    omega arith

pub loop-clause-preserved : goal.loop-clause-preserved
loop-clause-preserved c =
    let from = c.loop-clause.cursor.literal in
    let inv = c.loop-clause.invariant in
    let at = sym c.in-Some.ensures.clause in
    let stays : None ≡ new_watch (pair_at c.loop-clause.clauses c.in-Some.clause.0) (first_target c.loop-clause.rest.now) = sym c.in-None.is ∙ c.target.ensures c.in-Some.clause at ∙ ap (new_watch (pair_at c.loop-clause.clauses c.in-Some.clause.0)) c.first_of-target.ensures.first in
    let pushed : c.push.new.self.items ≡ c.loop-clause.met.items ++ c.in-Some.clause ∷ [] = c.push.ensures.items ∙ ap (λ r. cond (is_ok r) (c.loop-clause.met.items ++ c.in-Some.clause ∷ []) c.loop-clause.met.items) c.unwrap.ensures in
    let enough = inv.met_room in
    let wider = c.push.ensures.capacity in
    record {
      walking = subst (λ (l : Signed). IsWalking l c.push.new.self.items c.args.moves.now c.args.clauses.now (watchers c.args.self.now) c.next.new.self.place c.first_of-target.result.1.now c.loop-clause.clauses (watchers c.loop-clause.self)) (sym c.next.ensures.literal) (
          subst (λ (p : ℕ). IsWalking from c.push.new.self.items c.args.moves.now c.args.clauses.now (watchers c.args.self.now) p c.first_of-target.result.1.now c.loop-clause.clauses (watchers c.loop-clause.self)) (sym c.next.ensures.place) (
          subst (λ (r : List (Option Signed)). IsWalking from c.push.new.self.items c.args.moves.now c.args.clauses.now (watchers c.args.self.now) (c.loop-clause.cursor.place + 1) r c.loop-clause.clauses (watchers c.loop-clause.self)) (sym c.first_of-target.ensures.rest)
          (walking_keeps from c.loop-clause.met.items c.push.new.self.items c.args.moves.now c.args.clauses.now (watchers c.args.self.now) c.loop-clause.cursor.place c.loop-clause.rest.now c.loop-clause.clauses (watchers c.loop-clause.self) c.in-Some.clause
          inv.walking at pushed stays)
          ));
      at = c.next.ensures.at;
      literal = c.next.ensures.literal ∙ inv.literal;
      room = subst (λ (r : List (Option Signed)). HasRoom c.loop-clause.self r) (sym c.first_of-target.ensures.rest) (rest_has_room c.loop-clause.self c.loop-clause.self c.loop-clause.rest.now (λ l h. h) inv.room);
      met_room = omega arith;
    }

pub returns-clause-met : goal.returns-clause-met
returns-clause-met c =
    let inv = c.loop-clause.invariant in
    met_all _ c.loop-clause.met.items c.args.moves.now c.args.clauses.now (watchers c.args.self.now) _ _ _ _ inv.walking (sym c.in_default.ensures.clause) ∙ ap (watchers c.args.self.now) inv.literal

pub returns-clause-moved : goal.returns-clause-moved
returns-clause-moved c =
    let inv = c.loop-clause.invariant in
    moved_all _ c.loop-clause.met.items c.args.moves.now c.args.clauses.now (watchers c.args.self.now) _ _ _ _ inv.walking (sym c.in_default.ensures.clause) ∙ ap (λ (l : Signed). pairs_after l c.args.clauses.now c.loop-clause.met.items c.args.moves.now) inv.literal

pub returns-clause-lists : goal.returns-clause-lists
returns-clause-lists c = λ l.
    let inv = c.loop-clause.invariant in
    lists_all _ c.loop-clause.met.items c.args.moves.now c.args.clauses.now (watchers c.args.self.now) _ _ _ _ inv.walking (sym c.in_default.ensures.clause) l
    ∙ ap (λ (from : Signed). lists_after from c.args.clauses.now c.loop-clause.met.items c.args.moves.now (watchers c.args.self.now) l) inv.literal
