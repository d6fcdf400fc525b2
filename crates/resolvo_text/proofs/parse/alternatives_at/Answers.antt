use Rattle.std.proofs.Common.{[], length, sym, subst, ◌∙◌, arith}
use Rattle.resolvo_text.specs.View.{spec_of}
use Rattle.resolvo_text.specs.Parse.{Fails, words_in}
use Rattle.std.proofs.lemmas.Result.{err_from_is_err_and}
use Rattle.resolvo_text.proofs.AlternativeLemmas.{at_start, goes_on, ends, fails_so}
use Rattle.resolvo_text.proofs.parse.alternatives_at.Goals as goal

pub returns-in_err-first : goal.returns-in_err-first
returns-in_err-first c =
    let words = words_in c.args.words.now in
    let p = err_from_is_err_and c.from_residual.result c.from_residual.ensures.1 in
    rw (p.1, p.2) (fails_so c.in_err-first.field-0.0 [] (length words) words _ c.in_err-first.ensures.words (at_start _))

pub returns-then-not-more : goal.returns-then-not-more
returns-then-not-more c =
    let words = words_in c.args.words.now in
    ends [] (length words) words (spec_of c.in_ok-first.first) (words_in c.in_ok-first.after.now) c.skip-more.result.0 (words_in c.skip-more.result.1.now) _ (omega arith) c.in_ok-first.ensures.words (sym c.skip-more.ensures.words) c.if-not-more.true (at_start _)

pub returns-in_err-specs : goal.returns-in_err-specs
returns-in_err-specs c =
    let words = words_in c.args.words.now in
    let on = goes_on [] (length words) words (spec_of c.in_ok-first.first) (words_in c.in_ok-first.after.now) c.skip-more.result.0 (words_in c.skip-more.result.1.now) _ (omega arith) c.in_ok-first.ensures.words (sym c.skip-more.ensures.words) c.if-not-more.false (at_start _) in
    let p = err_from_is_err_and c.from_residual-in_err-specs.result c.from_residual-in_err-specs.ensures.1 in
    rw (p.1, p.2) (subst (Fails c.in_err-specs.field-0.0) on.2 (c.in_err-specs.ensures on.0 on.1))

pub returns : goal.returns
returns c =
    let words = words_in c.args.words.now in
    let on = goes_on [] (length words) words (spec_of c.in_ok-first.first) (words_in c.in_ok-first.after.now) c.skip-more.result.0 (words_in c.skip-more.result.1.now) _ (omega arith) c.in_ok-first.ensures.words (sym c.skip-more.ensures.words) c.if-not-more.false (at_start _) in
    sym on.2 ∙ c.in_ok-specs.ensures on.0 on.1
