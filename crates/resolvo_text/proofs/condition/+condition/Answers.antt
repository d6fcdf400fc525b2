use Rattle.std.proofs.Common.{◌≡◌, Some, sym, ap, ◌∙◌, arith}
use Rattle.std.proofs.lemmas.Result.{err_from_is_err_and}
use Rattle.std.proofs.lemmas.Option.{same_Some}
use Rattle.resolvo_text.specs.Line as parsed
use Rattle.resolvo_text.specs.View.{before_of, cond_of}
use Rattle.resolvo_text.specs.Parse.{words_in, joined, parts_at, part_at}
use Rattle.resolvo_text.proofs.ConditionLemmas.{lone, too_deep, group_fails, group_unclosed, group_closed, from_none, skipped_by, goes_on, ends, fails_so}
use Rattle.resolvo_text.proofs.condition.+condition.Goals as goal

pub atom_at-returns-then-not-opens-clause-words : goal.atom_at-returns-then-not-opens-clause-words
atom_at-returns-then-not-opens-clause-words t c =
    rw (lone c.args.depth c.args.room (words_in c.args.words.now) _ _ c.skip-opens.ensures.words c.if-not-opens.true) c.lone_at.ensures.words

pub atom_at-returns-then-depth-eq0-clause-words : goal.atom_at-returns-then-depth-eq0-clause-words
atom_at-returns-then-depth-eq0-clause-words t c = too_deep c.args.depth c.args.room (words_in c.args.words.now) _ _ c.skip-opens.ensures.words c.if-not-opens.false c.if-depth-eq0.true

pub atom_at-returns-in_err-condition-clause-words : goal.atom_at-returns-in_err-condition-clause-words
atom_at-returns-in_err-condition-clause-words t c =
    let p = err_from_is_err_and c.from_residual.result c.from_residual.ensures.1 in
    rw (p.1, p.2) (group_fails c.in_err-condition.field-0.0 c.args.depth c.args.room (words_in c.args.words.now) _ _ c.skip-opens.ensures.words c.if-not-opens.false (omega arith) c.in_err-condition.ensures.words)

pub atom_at-returns-then-not-closes-clause-words : goal.atom_at-returns-then-not-closes-clause-words
atom_at-returns-then-not-closes-clause-words t c =
    group_unclosed c.args.depth c.args.room (words_in c.args.words.now) _ _ _ _ _ _ _ c.skip-opens.ensures.words c.if-not-opens.false (omega arith) c.in_ok-condition.ensures.words c.skip-closes.ensures.words c.if-not-closes.true

pub atom_at-returns-clause-words : goal.atom_at-returns-clause-words
atom_at-returns-clause-words t c =
    group_closed c.args.depth c.args.room (words_in c.args.words.now) _ _ _ _ _ _ _ c.skip-opens.ensures.words c.if-not-opens.false (omega arith) c.in_ok-condition.ensures.words c.skip-closes.ensures.words c.if-not-closes.false

pub joined_at-loop-before-init : goal.joined_at-loop-before-init
joined_at-loop-before-init t c = (c.args.room, omega arith, from_none c.args.joint c.args.depth c.args.room (words_in c.args.words.now), omega arith)

pub joined_at-returns-in_err-part-clause-words : goal.joined_at-returns-in_err-part-clause-words
joined_at-returns-in_err-part-clause-words t c =
    let inv = c.loop-before.invariant in
    let p = err_from_is_err_and c.from_residual.result c.from_residual.ensures.1 in
    rw (p.1, p.2) (fails_so c.args.joint (part_at c.args.joint c.args.depth) c.in_err-part.field-0.0 inv.0 c.loop-before.room (before_of c.loop-before.before) (words_in c.loop-before.rest.now) _ c.in_err-part.ensures.words inv.2)

pub joined_at-returns-then-not-more-clause-words : goal.joined_at-returns-then-not-more-clause-words
joined_at-returns-then-not-more-clause-words t c =
    let inv = c.loop-before.invariant in
    let whole : joined c.args.joint (before_of c.loop-before.before) (cond_of c.in_ok-part.part) ≡ cond_of c.in_ok-whole.whole = same_Some _ _ c.in_ok-whole.ensures in
    let skipped = skipped_by (words_in c.in_ok-part.after.now) _ _ c.word.ensures c.skip-more.ensures.words in
    let total = ends c.args.joint (part_at c.args.joint c.args.depth) inv.0 c.loop-before.room (before_of c.loop-before.before) (words_in c.loop-before.rest.now) (cond_of c.in_ok-part.part) c.in_ok-part.left (words_in c.in_ok-part.after.now) c.skip-more.result.0 (words_in c.skip-more.result.1.now) _ inv.1 c.in_ok-part.ensures.fewer c.in_ok-part.ensures.words skipped c.if-not-more.true inv.2 in
    total ∙ ap (λ (w : parsed.Cond). Some (w, c.in_ok-part.left, words_in c.skip-more.result.1.now)) whole

pub joined_at-loop-before-preserved : goal.joined_at-loop-before-preserved
joined_at-loop-before-preserved t c =
    let inv = c.loop-before.invariant in
    let whole : joined c.args.joint (before_of c.loop-before.before) (cond_of c.in_ok-part.part) ≡ cond_of c.in_ok-whole.whole = same_Some _ _ c.in_ok-whole.ensures in
    let skipped = skipped_by (words_in c.in_ok-part.after.now) _ _ c.word.ensures c.skip-more.ensures.words in
    let on = goes_on c.args.joint (part_at c.args.joint c.args.depth) inv.0 c.loop-before.room (before_of c.loop-before.before) (words_in c.loop-before.rest.now) (cond_of c.in_ok-part.part) c.in_ok-part.left (words_in c.in_ok-part.after.now) c.skip-more.result.0 (words_in c.skip-more.result.1.now) _ inv.1 c.in_ok-part.ensures.fewer c.in_ok-part.ensures.words skipped c.if-not-more.false inv.2 in
    (on.0, on.1, ap (λ (w : parsed.Cond). parts_at c.args.joint (part_at c.args.joint c.args.depth) on.0 (Some w) c.in_ok-part.left (words_in c.skip-more.result.1.now)) (sym whole) ∙ on.2, omega (arith, c.in_ok-part.ensures.fewer, inv.3))
