use Rattle.std.proofs.Common.{◌≡◌, ◌+◌, ◌<◌, true, length, refl, sym, ◌∙◌, ap, subst, arith}
use Rattle.resolvo_store_core.specs.Signed.{Signed, negation, has}
use Rattle.resolvo_store_core.specs.Watches.{watchers}
use Rattle.resolvo_store_core.proofs.Walks.{shorter}
use Rattle.resolvo_sat.specs.declared.watch_lists.WatchLists.{WatchLists}
use Rattle.resolvo_sat.specs.Entries.{made_true}
use Rattle.resolvo_sat.specs.State.{history}
use Rattle.resolvo_sat.specs.Propagation.{IsMeeting, Keeps, Replaces}
use Rattle.resolvo_sat.proofs.ExtendLemmas.{extends_nothing, still_true}
use Rattle.resolvo_sat.proofs.VisitLemmas.{got_in_range}
use Rattle.resolvo_sat.proofs.StartLemmas.{kept_nothing, proceeds_kept, visit_keeps, visit_moves, visit_breaks}
use Rattle.resolvo_sat.proofs.state.SatState.visit_new.Goals as goal

pub loop-clause-init : goal.loop-clause-init
loop-clause-init c = record {
  proceeds = proceeds_kept c.args.self.now c.args.self.now c.args.watching.now c.args.watching.now c.requires.ready (extends_nothing c.args.self.now c.requires.ready.state) refl (kept_nothing c.args.watching.now);
  at = c.cursor-cursor.ensures.at;
  literal = c.cursor-cursor.ensures.literal;
}

pub visit_clause-requires-clause-known : goal.visit_clause-requires-clause-known
visit_clause-requires-clause-known c = subst (λ (l : Signed). has (made_true (history c.loop-clause.self)) (negation l) ≡ true) (sym c.loop-clause.invariant.literal)
    (still_true c.args.self.now c.loop-clause.self (negation c.args.literal) c.loop-clause.invariant.proceeds.extends c.requires.known)

pub next-requires-clause-in_list : goal.next-requires-clause-in_list
next-requires-clause-in_list c =
    let l = c.loop-clause.cursor.literal in
    let w = c.loop-clause.watching.watches in
    let k : Keeps l c.pair-watched.result c.loop-clause.self c.visit_clause.new.self c.loop-clause.watching c.visit_clause.new.watching = subst (IsMeeting l c.loop-clause.cursor.place c.in-Some.clause.0 c.pair-watched.result c.loop-clause.self c.loop-clause.watching c.visit_clause.new.self c.visit_clause.new.watching) c.in-Kept.is c.in_ok-visit_clause.ensures.met in
    let within : c.loop-clause.cursor.place < length (watchers w l) = got_in_range (watchers w l) c.loop-clause.cursor.place c.in-Some.clause (sym c.in-Some.ensures.clause) in
    let same : length (watchers c.visit_clause.new.watching.watches c.visit_clause.new.cursor.literal) ≡ length (watchers w l) =
    ap (λ (x : WatchLists). length (watchers x.watches c.visit_clause.new.cursor.literal)) k.same_watching ∙ ap (λ (m : Signed). length (watchers w m)) c.in_ok-visit_clause.ensures.literal in
    let place : c.visit_clause.new.cursor.place ≡ c.loop-clause.cursor.place = c.in_ok-visit_clause.ensures.place in
    omega arith

pub loop-clause-smaller-in-Kept : goal.loop-clause-smaller-in-Kept
loop-clause-smaller-in-Kept c =
    let l = c.loop-clause.cursor.literal in
    let w = c.loop-clause.watching.watches in
    let k : Keeps l c.pair-watched.result c.loop-clause.self c.visit_clause.new.self c.loop-clause.watching c.visit_clause.new.watching = subst (IsMeeting l c.loop-clause.cursor.place c.in-Some.clause.0 c.pair-watched.result c.loop-clause.self c.loop-clause.watching c.visit_clause.new.self c.visit_clause.new.watching) c.in-Kept.is c.in_ok-visit_clause.ensures.met in
    let place : c.next.new.self.place ≡ c.loop-clause.cursor.place + 1 = c.next.ensures.place ∙ ap (λ p. p + 1) c.in_ok-visit_clause.ensures.place in
    let same : length (watchers c.visit_clause.new.watching.watches c.args.literal) ≡ length (watchers w c.args.literal) = ap (λ (x : WatchLists). length (watchers x.watches c.args.literal)) k.same_watching in
    let is : length (watchers w l) ≡ length (watchers w c.args.literal) = ap (λ (m : Signed). length (watchers w m)) c.loop-clause.invariant.literal in
    let within : c.loop-clause.cursor.place < length (watchers w l) = got_in_range (watchers w l) c.loop-clause.cursor.place c.in-Some.clause (sym c.in-Some.ensures.clause) in
    omega arith

pub loop-clause-preserved-in-Kept : goal.loop-clause-preserved-in-Kept
loop-clause-preserved-in-Kept c =
    let l = c.loop-clause.cursor.literal in
    record {
      proceeds = visit_keeps c.args.self.now c.loop-clause.self c.visit_clause.new.self c.args.watching.now c.loop-clause.watching c.visit_clause.new.watching l c.pair-watched.result c.loop-clause.invariant.proceeds
          (subst (IsMeeting l c.loop-clause.cursor.place c.in-Some.clause.0 c.pair-watched.result c.loop-clause.self c.loop-clause.watching c.visit_clause.new.self c.visit_clause.new.watching) c.in-Kept.is c.in_ok-visit_clause.ensures.met);
      at = c.next.ensures.at;
      literal = c.next.ensures.literal ∙ c.in_ok-visit_clause.ensures.literal ∙ c.loop-clause.invariant.literal;
    }

pub loop-clause-smaller : goal.loop-clause-smaller
loop-clause-smaller c =
    let l = c.loop-clause.cursor.literal in
    let w = c.loop-clause.watching.watches in
    let r : Replaces l c.loop-clause.cursor.place c.in-Some.clause.0 c.loop-clause.self c.visit_clause.new.self c.loop-clause.watching c.visit_clause.new.watching = subst (IsMeeting l c.loop-clause.cursor.place c.in-Some.clause.0 c.pair-watched.result c.loop-clause.self c.loop-clause.watching c.visit_clause.new.self c.visit_clause.new.watching) c.in-Moved.is c.in_ok-visit_clause.ensures.met in
    let a : length (watchers c.visit_clause.new.watching.watches l) + 1 ≡ length (watchers w l) = shorter l r.to c.loop-clause.cursor.place c.loop-clause.watching.watched.items c.visit_clause.new.watching.watched.items (watchers w) (watchers c.visit_clause.new.watching.watches) r.moves in
    let is : length (watchers w l) ≡ length (watchers w c.args.literal) = ap (λ (m : Signed). length (watchers w m)) c.loop-clause.invariant.literal in
    let is' : length (watchers c.visit_clause.new.watching.watches l) ≡ length (watchers c.visit_clause.new.watching.watches c.args.literal) = ap (λ (m : Signed). length (watchers c.visit_clause.new.watching.watches m)) c.loop-clause.invariant.literal in
    let place : c.visit_clause.new.cursor.place ≡ c.loop-clause.cursor.place = c.in_ok-visit_clause.ensures.place in
    let within : c.loop-clause.cursor.place < length (watchers w l) = got_in_range (watchers w l) c.loop-clause.cursor.place c.in-Some.clause (sym c.in-Some.ensures.clause) in
    omega arith

pub loop-clause-preserved : goal.loop-clause-preserved
loop-clause-preserved c =
    let l = c.loop-clause.cursor.literal in
    let known : has (made_true (history c.loop-clause.self)) (negation l) ≡ true = subst (λ (m : Signed). has (made_true (history c.loop-clause.self)) (negation m) ≡ true) (sym c.loop-clause.invariant.literal)
    (still_true c.args.self.now c.loop-clause.self (negation c.args.literal) c.loop-clause.invariant.proceeds.extends c.requires.known) in
    record {
      proceeds = visit_moves c.args.self.now c.loop-clause.self c.visit_clause.new.self c.args.watching.now c.loop-clause.watching c.visit_clause.new.watching l c.loop-clause.cursor.place c.in-Some.clause c.loop-clause.invariant.proceeds (sym c.in-Some.ensures.clause) known
          (subst (IsMeeting l c.loop-clause.cursor.place c.in-Some.clause.0 c.pair-watched.result c.loop-clause.self c.loop-clause.watching c.visit_clause.new.self c.visit_clause.new.watching) c.in-Moved.is c.in_ok-visit_clause.ensures.met);
      at = c.in_ok-visit_clause.ensures.at;
      literal = c.in_ok-visit_clause.ensures.literal ∙ c.loop-clause.invariant.literal;
    }

pub returns-in-Falsified-clause-visited : goal.returns-in-Falsified-clause-visited
returns-in-Falsified-clause-visited c =
    let l = c.loop-clause.cursor.literal in
    visit_breaks c.args.self.now c.loop-clause.self c.visit_clause.new.self c.args.watching.now c.loop-clause.watching c.visit_clause.new.watching c.in-Some.clause.0 c.pair-watched.result c.loop-clause.invariant.proceeds c.pair-watched.ensures
    (subst (IsMeeting l c.loop-clause.cursor.place c.in-Some.clause.0 c.pair-watched.result c.loop-clause.self c.loop-clause.watching c.visit_clause.new.self c.visit_clause.new.watching) c.in-Falsified.is c.in_ok-visit_clause.ensures.met)
