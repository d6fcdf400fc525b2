use Rattle.std.proofs.Common.{◌-◌, None, refl, arith}
use Rattle.std.proofs.lemmas.Result.{err_from_is_err_and}
use Rattle.resolvo_text.specs.declared.condition.Joint.TheVariants.{Or}
use Rattle.resolvo_text.specs.Parse.{words_in, part_at, joined_at}
use Rattle.resolvo_text.proofs.ConditionLemmas.{lone, too_deep, group_fails, group_unclosed, group_closed, from_none, skipped_by, fails_so}
use Rattle.resolvo_terms.specs.TermCounts.{term_count}
use Rattle.resolvo_terms.proofs.GrowLemmas.{grows_own, grows_on, condition_of_stays, condition_within}
use Rattle.resolvo_terms.proofs.PartLemmas.{part_of_read, before_within, more_parts, all_parts}
use Rattle.resolvo_terms.proofs.terms.Terms.+read.Goals as goal

pub atom_at-returns-then-not-opens-clause-words : goal.atom_at-returns-then-not-opens-clause-words
atom_at-returns-then-not-opens-clause-words t c =
    rw (lone c.args.depth c.args.room (words_in c.args.words.now) _ _ c.skip-opens.ensures.words c.if-not-opens.true) c.lone_at.ensures.words

pub atom_at-returns-then-depth-eq0-clause-words : goal.atom_at-returns-then-depth-eq0-clause-words
atom_at-returns-then-depth-eq0-clause-words t c = too_deep c.args.depth c.args.room (words_in c.args.words.now) _ _ c.skip-opens.ensures.words c.if-not-opens.false c.if-depth-eq0.true

pub atom_at-returns-in_err-condition-clause-words : goal.atom_at-returns-in_err-condition-clause-words
atom_at-returns-in_err-condition-clause-words t c =
    let p = err_from_is_err_and c.from_residual.result c.from_residual.ensures.1 in
    rw (p.1, p.2) (group_fails c.in_err-condition.field-0.0 c.args.depth c.args.room (words_in c.args.words.now) _ _ c.skip-opens.ensures.words c.if-not-opens.false (omega arith) c.in_err-condition.ensures.words)

pub atom_at-returns-then-not-closes-clause-words : goal.atom_at-returns-then-not-closes-clause-words
atom_at-returns-then-not-closes-clause-words t c =
    let r = part_of_read c.args.self.now c.joined_at.new.self c.in_ok-condition.condition c.in_ok-condition.left c.in_ok-condition.after (λ b. words_in b.now) (joined_at Or (c.args.depth - 1) c.args.room (words_in c.skip-opens.result.1.now)) c.in_ok-condition.ensures.words in
    group_unclosed c.args.depth c.args.room (words_in c.args.words.now) _ _ r.0 c.in_ok-condition.left (words_in c.in_ok-condition.after.now) _ _ c.skip-opens.ensures.words c.if-not-opens.false (omega arith) r.1 c.skip-closes.ensures.words c.if-not-closes.true

pub atom_at-returns-clause-words : goal.atom_at-returns-clause-words
atom_at-returns-clause-words t c =
    let r = part_of_read c.args.self.now c.joined_at.new.self c.in_ok-condition.condition c.in_ok-condition.left c.in_ok-condition.after (λ b. words_in b.now) (joined_at Or (c.args.depth - 1) c.args.room (words_in c.skip-opens.result.1.now)) c.in_ok-condition.ensures.words in
    rw (group_closed c.args.depth c.args.room (words_in c.args.words.now) _ _ r.0 c.in_ok-condition.left (words_in c.in_ok-condition.after.now) _ _ c.skip-opens.ensures.words c.if-not-opens.false (omega arith) r.1 c.skip-closes.ensures.words c.if-not-closes.false) (r.2, refl, refl, r.3)

pub joined_at-loop-part-init : goal.joined_at-loop-part-init
joined_at-loop-part-init t c = record {
  read = record { cond = None; most = c.args.room; fits = omega arith; is = tt; so_far = from_none c.args.joint c.args.depth c.args.room (words_in c.args.words.now); few = omega arith };
  grows = grows_own c.args.self.now;
  room = omega arith;
}

pub joined_at-returns-in_err-part-clause-words : goal.joined_at-returns-in_err-part-clause-words
joined_at-returns-in_err-part-clause-words t c =
    let h = c.loop-part.invariant.read in
    let p = err_from_is_err_and c.from_residual.result c.from_residual.ensures.1 in
    rw (p.1, p.2) (fails_so c.args.joint (part_at c.args.joint c.args.depth) c.in_err-part.field-0.0 h.most c.loop-part.room h.cond (words_in c.loop-part.rest.now) _ c.in_err-part.ensures.words h.so_far)

pub joined_at-joined-requires-clause-before : goal.joined_at-joined-requires-clause-before
joined_at-joined-requires-clause-before t c =
    let h = c.loop-part.invariant.read in
    before_within c.part_at.new.self c.loop-part.before h.cond (condition_of_stays c.loop-part.self c.part_at.new.self c.in_ok-part.ensures.grows c.loop-part.before h.cond h.is)

pub joined_at-joined-requires-clause-right : goal.joined_at-joined-requires-clause-right
joined_at-joined-requires-clause-right t c =
    let r = part_of_read c.loop-part.self c.part_at.new.self c.in_ok-part.part c.in_ok-part.left c.in_ok-part.after (λ b. words_in b.now) (part_at c.args.joint c.args.depth c.loop-part.room (words_in c.loop-part.rest.now)) c.in_ok-part.ensures.words in
    condition_within c.part_at.new.self c.in_ok-part.part r.0 r.2

pub joined_at-returns-then-not-more-clause-words : goal.joined_at-returns-then-not-more-clause-words
joined_at-returns-then-not-more-clause-words t c =
    let t = c.loop-part.self in
    let u = c.part_at.new.self in
    let w = c.joined.new.self in
    let reader = part_at c.args.joint c.args.depth in
    let h = c.loop-part.invariant.read in
    let before = c.loop-part.before in
    let r = part_of_read t u c.in_ok-part.part c.in_ok-part.left c.in_ok-part.after (λ b. words_in b.now) (reader c.loop-part.room (words_in c.loop-part.rest.now)) c.in_ok-part.ensures.words in
    let joins = c.in_ok-whole.ensures.condition h.cond r.0 (condition_of_stays t u c.in_ok-part.ensures.grows before h.cond h.is) r.2 in
    let skipped = skipped_by (words_in c.in_ok-part.after.now) _ _ c.word.ensures c.skip-more.ensures.words in
    let a = all_parts c.args.joint reader t u w (term_count c.args.self.now) before c.loop-part.room (words_in c.loop-part.rest.now) _ h
    r.0 c.in_ok-part.left (words_in c.in_ok-part.after.now) c.in_ok-part.ensures.fewer r.1 r.3 c.in_ok-whole.whole joins
    c.skip-more.result.0 (words_in c.skip-more.result.1.now) skipped c.if-not-more.true in
    rw a.0 (a.1, refl, refl, a.2)

pub joined_at-loop-part-preserved : goal.joined_at-loop-part-preserved
joined_at-loop-part-preserved t c =
    let t = c.loop-part.self in
    let u = c.part_at.new.self in
    let w = c.joined.new.self in
    let reader = part_at c.args.joint c.args.depth in
    let inv = c.loop-part.invariant in
    let h = inv.read in
    let before = c.loop-part.before in
    let r = part_of_read t u c.in_ok-part.part c.in_ok-part.left c.in_ok-part.after (λ b. words_in b.now) (reader c.loop-part.room (words_in c.loop-part.rest.now)) c.in_ok-part.ensures.words in
    let joins = c.in_ok-whole.ensures.condition h.cond r.0 (condition_of_stays t u c.in_ok-part.ensures.grows before h.cond h.is) r.2 in
    let skipped = skipped_by (words_in c.in_ok-part.after.now) _ _ c.word.ensures c.skip-more.ensures.words in
    record {
      read = more_parts c.args.joint reader t u w (term_count c.args.self.now) before c.loop-part.room (words_in c.loop-part.rest.now) _ h
          r.0 c.in_ok-part.left (words_in c.in_ok-part.after.now) c.in_ok-part.ensures.fewer r.1 r.3 c.in_ok-whole.whole joins
          c.skip-more.result.0 (words_in c.skip-more.result.1.now) skipped c.if-not-more.false;
      grows = grows_on _ _ _ inv.grows (grows_on _ _ _ c.in_ok-part.ensures.grows c.in_ok-whole.ensures.grows);
      room = omega (arith, c.in_ok-part.ensures.fewer, inv.room);
    }
