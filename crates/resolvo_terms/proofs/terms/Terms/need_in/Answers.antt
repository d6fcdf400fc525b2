use Rattle.std.proofs.Common.{length, refl, arith}
use Rattle.std.proofs.lemmas.Result.{err_from_is_err_and}
use Rattle.resolvo_text.specs.Parse.{words_in, alternatives_at, condition_in}
use Rattle.resolvo_terms.specs.TermCounts.{term_count}
use Rattle.resolvo_terms.proofs.GrowLemmas.{alternatives_stay}
use Rattle.resolvo_terms.proofs.ReadLemmas.{alternatives_read, need_of, no_alternatives, no_condition}
use Rattle.resolvo_terms.proofs.PartLemmas.{condition_read}
use Rattle.resolvo_terms.proofs.terms.Terms.need_in.Goals as goal

pub returns-in_err-requirement-clause-need : goal.returns-in_err-requirement-clause-need
returns-in_err-requirement-clause-need c =
    let p = err_from_is_err_and c.from_residual.result c.from_residual.ensures.1 in
    rw (p.1, p.2) (no_alternatives c.in_err-requirement.field-0.0 (words_in c.args.words.now) c.in_err-requirement.ensures.words)

pub returns-in_err-condition-clause-need : goal.returns-in_err-condition-clause-need
returns-in_err-condition-clause-need c =
    let words = words_in c.args.words.now in
    let a = alternatives_read c.alternatives_at.new.self (term_count c.args.self.now) c.in_ok-requirement.requirement c.in_ok-requirement.words (λ b. words_in b.now) (alternatives_at (length words) words) c.in_ok-requirement.ensures.words in
    let p = err_from_is_err_and c.from_residual-in_err-condition.result c.from_residual-in_err-condition.ensures.1 in
    rw (p.1, p.2) (no_condition c.in_err-condition.field-0.0 words (a.0, words_in c.in_ok-requirement.words.now) a.1 c.in_err-condition.ensures.condition)

pub returns-clause-need : goal.returns-clause-need
returns-clause-need c =
    let words = words_in c.args.words.now in
    let mid = c.alternatives_at.new.self in
    let new = c.condition_in.new.self in
    let rest = words_in c.in_ok-requirement.words.now in
    let a = alternatives_read mid (term_count c.args.self.now) c.in_ok-requirement.requirement c.in_ok-requirement.words (λ b. words_in b.now) (alternatives_at (length words) words) c.in_ok-requirement.ensures.words in
    let found = condition_read new (term_count mid) c.in_ok-condition.condition (condition_in rest) c.in_ok-condition.ensures.condition in
    let line = need_of words (a.0, rest) found.0 a.1 found.1 in
    rw line ((a.0, found.0), refl, (alternatives_stay mid new c.in_ok-condition.ensures.grows c.in_ok-requirement.requirement a.0 a.2, found.2), omega (arith, a.3, found.3))
