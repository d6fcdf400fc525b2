use Rattle.std.proofs.Common.{◌≡◌, ◌∙◌, [], length, Some, refl, sym, subst, arith}
use Rattle.std.specs.Prelude.{IfOk, slice_get}
use Rattle.std.specs.Global.{Vec}
use Rattle.std.proofs.lemmas.Result.{err_from_is_err_and}
use Rattle.resolvo_pool_core.specs.declared.id.VersionSetId.{VersionSetId}
use Rattle.resolvo_text.specs.Parse.{Fails, words_in, spec_at, with_first, alternatives_at}
use Rattle.resolvo_text.proofs.AlternativeLemmas.{at_start, goes_on, ends, fails_so}
use Rattle.resolvo_terms.specs.TermCounts.{term_count}
use Rattle.resolvo_terms.proofs.GrowLemmas.{specs_stay}
use Rattle.resolvo_terms.proofs.ReadLemmas.{spec_of_read, members_read}
use Rattle.resolvo_terms.proofs.terms.Terms.alternatives_at.Goals as goal

pub returns-in_err-first-clause-words : goal.returns-in_err-first-clause-words
returns-in_err-first-clause-words c =
    let words = words_in c.args.words.now in
    let p = err_from_is_err_and c.from_residual.result c.from_residual.ensures.1 in
    rw (p.1, p.2) (fails_so c.in_err-first.field-0.0 [] (length words) words _ c.in_err-first.ensures.words (at_start _))

pub returns-then-not-more-clause-words : goal.returns-then-not-more-clause-words
returns-then-not-more-clause-words c =
    let words = words_in c.args.words.now in
    let r = spec_of_read c.spec_at.new.self c.in_ok-first.first c.in_ok-first.after (λ b. words_in b.now) (spec_at words) c.in_ok-first.ensures.words in
    let e = ends [] (length words) words r.0 (words_in c.in_ok-first.after.now) c.skip-more.result.0 (words_in c.skip-more.result.1.now) _ (omega arith) r.1 (sym c.skip-more.ensures.words) c.if-not-more.true (at_start _) in
    rw e ((r.2, tt), refl, omega (arith, c.in_ok-first.ensures.few))

pub returns-in_err-members-clause-words : goal.returns-in_err-members-clause-words
returns-in_err-members-clause-words c =
    let words = words_in c.args.words.now in
    let r = spec_of_read c.spec_at.new.self c.in_ok-first.first c.in_ok-first.after (λ b. words_in b.now) (spec_at words) c.in_ok-first.ensures.words in
    let on = goes_on [] (length words) words r.0 (words_in c.in_ok-first.after.now) c.skip-more.result.0 (words_in c.skip-more.result.1.now) _ (omega arith) r.1 (sym c.skip-more.ensures.words) c.if-not-more.false (at_start _) in
    let p = err_from_is_err_and c.from_residual-in_err-members.result c.from_residual-in_err-members.ensures.1 in
    rw (p.1, p.2) (subst (Fails c.in_err-members.field-0.0) on.2 (c.in_err-members.ensures.words on.0 r.0 on.1 r.2))

pub returns-clause-words : goal.returns-clause-words
returns-clause-words c =
    let words = words_in c.args.words.now in
    let first = c.spec_at.new.self in
    let mid = c.several_at.new.self in
    let new = c.union.new.self in
    let members = c.in_ok-members.members.items in
    let r = spec_of_read first c.in_ok-first.first c.in_ok-first.after (λ b. words_in b.now) (spec_at words) c.in_ok-first.ensures.words in
    let on = goes_on [] (length words) words r.0 (words_in c.in_ok-first.after.now) c.skip-more.result.0 (words_in c.skip-more.result.1.now) _ (omega arith) r.1 (sym c.skip-more.ensures.words) c.if-not-more.false (at_start _) in
    let m = members_read mid (term_count first) c.in_ok-members.members (λ (v : Vec VersionSetId). v.items) c.in_ok-members.rest (λ b. words_in b.now) (with_first r.0 (alternatives_at on.0 (words_in c.skip-more.result.1.now))) (c.in_ok-members.ensures.words on.0 r.0 on.1 r.2) in
    let total = sym on.2 ∙ m.1 in
    let there = subst (λ x. IfOk x (λ u. slice_get new.unions u.0 ≡ Some members)) c.in_ok-union.ensures.given c.union.ensures.union in
    rw total ((members, there, specs_stay mid new c.union.ensures.grows members m.0 m.2), refl, omega (arith, m.3, c.union.ensures.few, c.in_ok-first.ensures.few))
