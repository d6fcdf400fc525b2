use Rattle.std.proofs.Common.{◌≡◌, Some, refl, subst, arith}
use Rattle.std.specs.Prelude.{IfOk, slice_get}
use Rattle.std.proofs.lemmas.Result.{err_from_is_err_and}
use Rattle.resolvo_pool_core.specs.declared.condition.Condition.TheVariants.{Requirement}
use Rattle.resolvo_text.specs.Parse.{words_in, spec_at}
use Rattle.resolvo_terms.proofs.GrowLemmas.{spec_stays}
use Rattle.resolvo_terms.proofs.ReadLemmas.{spec_of_read}
use Rattle.resolvo_terms.proofs.PartLemmas.{no_room, no_lone, lone_of}
use Rattle.resolvo_terms.proofs.terms.Terms.lone_at.Goals as goal

pub returns-then-room-eq0-clause-words : goal.returns-then-room-eq0-clause-words
returns-then-room-eq0-clause-words c = no_room c.args.room (words_in c.args.words.now) c.if-room-eq0.true

pub returns-in_err-spec-clause-words : goal.returns-in_err-spec-clause-words
returns-in_err-spec-clause-words c =
    let p = err_from_is_err_and c.from_residual.result c.from_residual.ensures.1 in
    rw (p.1, p.2) (no_lone c.in_err-spec.field-0.0 c.args.room (words_in c.args.words.now) (omega arith) c.in_err-spec.ensures.words)

pub returns-clause-words : goal.returns-clause-words
returns-clause-words c =
    let words = words_in c.args.words.now in
    let mid = c.spec_at.new.self in
    let new = c.intern_condition.new.self in
    let v = c.in_ok-spec.spec in
    let r = spec_of_read mid v c.in_ok-spec.rest (λ b. words_in b.now) (spec_at words) c.in_ok-spec.ensures.words in
    let there = subst (λ x. IfOk x (λ i. slice_get new.conditions i.0 ≡ Some (Requirement v))) c.in_ok-condition.ensures.given c.intern_condition.ensures.condition in
    rw (lone_of c.args.room words r.0 (words_in c.in_ok-spec.rest.now) (omega arith) r.1) ((v, there, spec_stays mid new c.intern_condition.ensures.grows v r.0 r.2), refl, refl, omega (arith, c.in_ok-spec.ensures.few, c.intern_condition.ensures.few))
