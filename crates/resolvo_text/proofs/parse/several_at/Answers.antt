use Rattle.std.proofs.Common.{◌≡◌, List, ◌∷◌, [], ◌++◌, Some, sym, ap, ◌∙◌}
use Rattle.resolvo_text.specs.Line as parsed
use Rattle.resolvo_text.specs.declared.spec.Spec as code
use Rattle.resolvo_text.specs.View.{specs_of, spec_of}
use Rattle.resolvo_text.specs.Parse.{words_in, alternatives_at}
use Rattle.std.proofs.lemmas.List.{map_push}
use Rattle.std.proofs.lemmas.Result.{err_from_is_err_and}
use Rattle.resolvo_text.proofs.AlternativeLemmas.{with_prefix, goes_on, ends, fails_so}
use Rattle.resolvo_text.proofs.parse.several_at.Goals as goal

pub loop-specs-init : goal.loop-specs-init
loop-specs-init c = λ most fits.
    let pushed : specs_of c.push.new.self.items ≡ spec_of c.args.first ∷ [] = ap specs_of (c.in_ok-push.ensures.items ∙ ap (λ (ss : List code.Spec). ss ++ c.args.first ∷ []) c.in_ok-specs.ensures.items) in
    (most, fits, ap (λ (ss : List parsed.Spec). with_prefix ss (alternatives_at most (words_in c.args.words.now))) pushed)

pub returns-in_err-spec : goal.returns-in_err-spec
returns-in_err-spec c = λ most fits.
    let inv = c.loop-specs.invariant most fits in
    let p = err_from_is_err_and c.from_residual-in_err-spec.result c.from_residual-in_err-spec.ensures.1 in
    rw (p.1, p.2) (fails_so c.in_err-spec.field-0.0 (specs_of c.loop-specs.specs.items) inv.0 (words_in c.loop-specs.rest.now) _ c.in_err-spec.ensures.words inv.2)

pub returns-then-not-more : goal.returns-then-not-more
returns-then-not-more c = λ most fits.
    let inv = c.loop-specs.invariant most fits in
    let total = ends (specs_of c.loop-specs.specs.items) inv.0 (words_in c.loop-specs.rest.now) (spec_of c.in_ok-spec.spec) (words_in c.in_ok-spec.after.now) c.skip-more.result.0 (words_in c.skip-more.result.1.now) _ inv.1 c.in_ok-spec.ensures.words (sym c.skip-more.ensures.words) c.if-not-more.true inv.2 in
    let pushed : specs_of c.push-in-loop-specs.new.self.items ≡ specs_of c.loop-specs.specs.items ++ spec_of c.in_ok-spec.spec ∷ [] = ap specs_of c.in_ok-push-2.ensures.items ∙ map_push spec_of c.loop-specs.specs.items c.in_ok-spec.spec in
    total ∙ ap (λ (ss : List parsed.Spec). Some (ss, words_in c.skip-more.result.1.now)) (sym pushed)

pub loop-specs-preserved : goal.loop-specs-preserved
loop-specs-preserved c = λ most fits.
    let inv = c.loop-specs.invariant most fits in
    let on = goes_on (specs_of c.loop-specs.specs.items) inv.0 (words_in c.loop-specs.rest.now) (spec_of c.in_ok-spec.spec) (words_in c.in_ok-spec.after.now) c.skip-more.result.0 (words_in c.skip-more.result.1.now) _ inv.1 c.in_ok-spec.ensures.words (sym c.skip-more.ensures.words) c.if-not-more.false inv.2 in
    let pushed : specs_of c.push-in-loop-specs.new.self.items ≡ specs_of c.loop-specs.specs.items ++ spec_of c.in_ok-spec.spec ∷ [] = ap specs_of c.in_ok-push-2.ensures.items ∙ map_push spec_of c.loop-specs.specs.items c.in_ok-spec.spec in
    (on.0, on.1, ap (λ (ss : List parsed.Spec). with_prefix ss (alternatives_at on.0 (words_in c.skip-more.result.1.now))) pushed ∙ on.2)
