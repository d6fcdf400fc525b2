use Rattle.std.proofs.Common.{◌≡◌, ℕ, ◌+◌, ◌<◌, true, None, length, sym, ◌∙◌, ap, subst, arith}
use Rattle.std.specs.Prelude.{slice_get}
use Rattle.resolvo_store_core.specs.Signed.{Signed, negation, has}
use Rattle.resolvo_store_core.specs.Watches.{watchers}
use Rattle.resolvo_store_core.proofs.Walks.{shorter}
use Rattle.resolvo_sat.specs.declared.watch_lists.WatchLists.{WatchLists}
use Rattle.resolvo_sat.specs.Entries.{made_true}
use Rattle.resolvo_sat.specs.State.{history}
use Rattle.resolvo_sat.specs.Propagation.{IsMeeting, IsVisiting, Keeps, Replaces}
use Rattle.resolvo_sat.proofs.VisitLemmas.{got_in_range, fallen_now, visiting_starts, visiting_keeps, visiting_moves, visiting_ends, visiting_breaks}
use Rattle.resolvo_sat.proofs.state.SatState.propagate_literal.Goals as goal

pub loop-clause-init : goal.loop-clause-init
loop-clause-init c = record {
  visiting = subst (λ (p : ℕ). IsVisiting c.args.self.now.qhead c.args.literal p c.args.self.now c.args.self.now c.args.watching.now c.args.watching.now) (sym c.cursor-cursor.ensures.place)
      (visiting_starts c.args.self.now.qhead c.args.self.now c.args.watching.now c.args.literal c.requires.state c.requires.fits c.requires.fell c.requires.walked);
  at = c.cursor-cursor.ensures.at;
  literal = c.cursor-cursor.ensures.literal;
}

pub visit_clause-requires-clause-known : goal.visit_clause-requires-clause-known
visit_clause-requires-clause-known c = subst (λ (l : Signed). has (made_true (history c.loop-clause.self)) (negation l) ≡ true) (sym c.loop-clause.invariant.literal)
    (fallen_now c.args.self.now.qhead c.args.literal c.loop-clause.cursor.place c.args.self.now c.loop-clause.self c.args.watching.now c.loop-clause.watching c.loop-clause.invariant.visiting)

pub next-requires-clause-in_list : goal.next-requires-clause-in_list
next-requires-clause-in_list c =
    let l = c.loop-clause.cursor.literal in
    let w = c.loop-clause.watching.watches in
    let k : Keeps l c.pair-watched.result c.loop-clause.self c.visit_clause.new.self c.loop-clause.watching c.visit_clause.new.watching = subst (IsMeeting l c.loop-clause.cursor.place c.in-Some.clause.0 c.pair-watched.result c.loop-clause.self c.loop-clause.watching c.visit_clause.new.self c.visit_clause.new.watching) c.in-Kept.is c.in_ok-visit_clause.ensures.met in
    let within : c.loop-clause.cursor.place < length (watchers w l) = got_in_range (watchers w l) c.loop-clause.cursor.place c.in-Some.clause (sym c.in-Some.ensures.clause) in
    let same : length (watchers c.visit_clause.new.watching.watches c.visit_clause.new.cursor.literal) ≡ length (watchers w l) =
    ap (λ (x : WatchLists). length (watchers x.watches c.visit_clause.new.cursor.literal)) k.same_watching ∙ ap (λ (m : Signed). length (watchers w m)) c.in_ok-visit_clause.ensures.literal in
    let place : c.visit_clause.new.cursor.place ≡ c.loop-clause.cursor.place = c.in_ok-visit_clause.ensures.place in
    omega arith

pub loop-clause-smaller-in-Kept : goal.loop-clause-smaller-in-Kept
loop-clause-smaller-in-Kept c =
    let l = c.loop-clause.cursor.literal in
    let w = c.loop-clause.watching.watches in
    let k : Keeps l c.pair-watched.result c.loop-clause.self c.visit_clause.new.self c.loop-clause.watching c.visit_clause.new.watching = subst (IsMeeting l c.loop-clause.cursor.place c.in-Some.clause.0 c.pair-watched.result c.loop-clause.self c.loop-clause.watching c.visit_clause.new.self c.visit_clause.new.watching) c.in-Kept.is c.in_ok-visit_clause.ensures.met in
    let place : c.next.new.self.place ≡ c.loop-clause.cursor.place + 1 = c.next.ensures.place ∙ ap (λ p. p + 1) c.in_ok-visit_clause.ensures.place in
    let same : length (watchers c.visit_clause.new.watching.watches c.args.literal) ≡ length (watchers w c.args.literal) = ap (λ (x : WatchLists). length (watchers x.watches c.args.literal)) k.same_watching in
    let is : length (watchers w l) ≡ length (watchers w c.args.literal) = ap (λ (m : Signed). length (watchers w m)) c.loop-clause.invariant.literal in
    let within : c.loop-clause.cursor.place < length (watchers w l) = got_in_range (watchers w l) c.loop-clause.cursor.place c.in-Some.clause (sym c.in-Some.ensures.clause) in
    omega arith

pub loop-clause-preserved-in-Kept : goal.loop-clause-preserved-in-Kept
loop-clause-preserved-in-Kept c =
    let l = c.loop-clause.cursor.literal in
    let inv = c.loop-clause.invariant in
    let place : c.next.new.self.place ≡ c.loop-clause.cursor.place + 1 = c.next.ensures.place ∙ ap (λ p. p + 1) c.in_ok-visit_clause.ensures.place in
    let visiting : IsVisiting c.args.self.now.qhead l c.loop-clause.cursor.place c.args.self.now c.loop-clause.self c.args.watching.now c.loop-clause.watching = subst (λ (m : Signed). IsVisiting c.args.self.now.qhead m c.loop-clause.cursor.place c.args.self.now c.loop-clause.self c.args.watching.now c.loop-clause.watching) (sym inv.literal) inv.visiting in
    record {
      visiting = subst (λ (m : Signed). IsVisiting c.args.self.now.qhead m c.next.new.self.place c.args.self.now c.visit_clause.new.self c.args.watching.now c.visit_clause.new.watching) inv.literal
          (subst (λ (p : ℕ). IsVisiting c.args.self.now.qhead l p c.args.self.now c.visit_clause.new.self c.args.watching.now c.visit_clause.new.watching) (sym place)
          (visiting_keeps c.args.self.now.qhead l c.loop-clause.cursor.place c.in-Some.clause c.pair-watched.result c.args.self.now c.loop-clause.self c.visit_clause.new.self c.args.watching.now c.loop-clause.watching c.visit_clause.new.watching visiting (sym c.in-Some.ensures.clause)
          c.pair-watched.ensures
          (subst (IsMeeting l c.loop-clause.cursor.place c.in-Some.clause.0 c.pair-watched.result c.loop-clause.self c.loop-clause.watching c.visit_clause.new.self c.visit_clause.new.watching) c.in-Kept.is c.in_ok-visit_clause.ensures.met)));
      at = c.next.ensures.at;
      literal = c.next.ensures.literal ∙ c.in_ok-visit_clause.ensures.literal ∙ inv.literal;
    }

pub loop-clause-smaller : goal.loop-clause-smaller
loop-clause-smaller c =
    let l = c.loop-clause.cursor.literal in
    let w = c.loop-clause.watching.watches in
    let r : Replaces l c.loop-clause.cursor.place c.in-Some.clause.0 c.loop-clause.self c.visit_clause.new.self c.loop-clause.watching c.visit_clause.new.watching = subst (IsMeeting l c.loop-clause.cursor.place c.in-Some.clause.0 c.pair-watched.result c.loop-clause.self c.loop-clause.watching c.visit_clause.new.self c.visit_clause.new.watching) c.in-Moved.is c.in_ok-visit_clause.ensures.met in
    let a : length (watchers c.visit_clause.new.watching.watches l) + 1 ≡ length (watchers w l) = shorter l r.to c.loop-clause.cursor.place c.loop-clause.watching.watched.items c.visit_clause.new.watching.watched.items (watchers w) (watchers c.visit_clause.new.watching.watches) r.moves in
    let is : length (watchers w l) ≡ length (watchers w c.args.literal) = ap (λ (m : Signed). length (watchers w m)) c.loop-clause.invariant.literal in
    let is' : length (watchers c.visit_clause.new.watching.watches l) ≡ length (watchers c.visit_clause.new.watching.watches c.args.literal) = ap (λ (m : Signed). length (watchers c.visit_clause.new.watching.watches m)) c.loop-clause.invariant.literal in
    let place : c.visit_clause.new.cursor.place ≡ c.loop-clause.cursor.place = c.in_ok-visit_clause.ensures.place in
    let within : c.loop-clause.cursor.place < length (watchers w l) = got_in_range (watchers w l) c.loop-clause.cursor.place c.in-Some.clause (sym c.in-Some.ensures.clause) in
    omega arith

pub loop-clause-preserved : goal.loop-clause-preserved
loop-clause-preserved c =
    let l = c.loop-clause.cursor.literal in
    let inv = c.loop-clause.invariant in
    let visiting : IsVisiting c.args.self.now.qhead l c.loop-clause.cursor.place c.args.self.now c.loop-clause.self c.args.watching.now c.loop-clause.watching = subst (λ (m : Signed). IsVisiting c.args.self.now.qhead m c.loop-clause.cursor.place c.args.self.now c.loop-clause.self c.args.watching.now c.loop-clause.watching) (sym inv.literal) inv.visiting in
    record {
      visiting = subst (λ (m : Signed). IsVisiting c.args.self.now.qhead m c.visit_clause.new.cursor.place c.args.self.now c.visit_clause.new.self c.args.watching.now c.visit_clause.new.watching) inv.literal
          (subst (λ (p : ℕ). IsVisiting c.args.self.now.qhead l p c.args.self.now c.visit_clause.new.self c.args.watching.now c.visit_clause.new.watching) (sym c.in_ok-visit_clause.ensures.place)
          (visiting_moves c.args.self.now.qhead l c.loop-clause.cursor.place c.in-Some.clause c.args.self.now c.loop-clause.self c.visit_clause.new.self c.args.watching.now c.loop-clause.watching c.visit_clause.new.watching visiting (sym c.in-Some.ensures.clause)
          (subst (IsMeeting l c.loop-clause.cursor.place c.in-Some.clause.0 c.pair-watched.result c.loop-clause.self c.loop-clause.watching c.visit_clause.new.self c.visit_clause.new.watching) c.in-Moved.is c.in_ok-visit_clause.ensures.met)));
      at = c.in_ok-visit_clause.ensures.at;
      literal = c.in_ok-visit_clause.ensures.literal ∙ inv.literal;
    }

pub returns-in-Falsified-clause-propagate_literal : goal.returns-in-Falsified-clause-propagate_literal
returns-in-Falsified-clause-propagate_literal c =
    let l = c.loop-clause.cursor.literal in
    let inv = c.loop-clause.invariant in
    let visiting : IsVisiting c.args.self.now.qhead l c.loop-clause.cursor.place c.args.self.now c.loop-clause.self c.args.watching.now c.loop-clause.watching = subst (λ (m : Signed). IsVisiting c.args.self.now.qhead m c.loop-clause.cursor.place c.args.self.now c.loop-clause.self c.args.watching.now c.loop-clause.watching) (sym inv.literal) inv.visiting in
    visiting_breaks l c.loop-clause.cursor.place c.in-Some.clause.0 c.pair-watched.result c.args.self.now c.loop-clause.self c.visit_clause.new.self c.args.watching.now c.loop-clause.watching c.visit_clause.new.watching c.requires.fell.in_range c.requires.done visiting c.pair-watched.ensures
    (subst (IsMeeting l c.loop-clause.cursor.place c.in-Some.clause.0 c.pair-watched.result c.loop-clause.self c.loop-clause.watching c.visit_clause.new.self c.visit_clause.new.watching) c.in-Falsified.is c.in_ok-visit_clause.ensures.met)

pub returns-clause-propagate_literal : goal.returns-clause-propagate_literal
returns-clause-propagate_literal c =
    let inv = c.loop-clause.invariant in
    let none = sym c.in_default.ensures.clause in
    visiting_ends c.args.self.now.qhead c.args.literal c.loop-clause.cursor.place c.args.self.now c.loop-clause.self c.args.watching.now c.loop-clause.watching inv.visiting (subst (λ (m : Signed). slice_get (watchers c.loop-clause.watching.watches m) c.loop-clause.cursor.place ≡ None) inv.literal none)
