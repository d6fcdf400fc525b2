use Rattle.std.proofs.Common.{◌≡◌, ◌∙◌, ◌∷◌, ◌++◌, [], List, length, refl, sym, ap, subst, arith}
use Rattle.std.proofs.lemmas.List.{length_push}
use Rattle.std.proofs.lemmas.Result.{err_from_is_err_and}
use Rattle.resolvo_pool_core.specs.declared.id.VersionSetId.{VersionSetId}
use Rattle.resolvo_text.specs.Parse.{words_in, spec_at, with_first, alternatives_at}
use Rattle.resolvo_text.proofs.AlternativeLemmas.{fails_so}
use Rattle.resolvo_terms.specs.TermCounts.{term_count}
use Rattle.resolvo_terms.proofs.GrowLemmas.{grows_own, grows_on}
use Rattle.resolvo_terms.proofs.ReadLemmas.{HasRead, one_read, more_read, all_read, spec_of_read}
use Rattle.resolvo_terms.proofs.terms.Terms.several_at.Goals as goal

pub loop-members-init : goal.loop-members-init
loop-members-init c =
    let pushed : c.push.new.self.items ≡ c.args.first ∷ [] = c.in_ok-push.ensures.items ∙ ap (λ (vs : List VersionSetId). vs ++ c.args.first ∷ []) c.in_ok-members.ensures.items in
    record {
      read = λ most s fits is.
          let total = with_first s (alternatives_at most (words_in c.args.words.now)) in
          subst (λ (vs : List VersionSetId). HasRead c.args.self.now (term_count c.args.self.now) vs (words_in c.args.words.now) total) (sym pushed) (one_read c.args.self.now c.args.first s (words_in c.args.words.now) most fits is);
      grows = grows_own c.args.self.now;
      some = omega (arith, ap (λ (vs : List VersionSetId). length vs) pushed);
    }

pub returns-in_err-spec-clause-words : goal.returns-in_err-spec-clause-words
returns-in_err-spec-clause-words c = λ most s fits is.
    let h = c.loop-members.invariant.read most s fits is in
    let p = err_from_is_err_and c.from_residual-in_err-spec.result c.from_residual-in_err-spec.ensures.1 in
    rw (p.1, p.2) (fails_so c.in_err-spec.field-0.0 h.specs h.most (words_in c.loop-members.rest.now) _ c.in_err-spec.ensures.words h.so_far)

pub returns-then-not-more-clause-words : goal.returns-then-not-more-clause-words
returns-then-not-more-clause-words c = λ most s fits is.
    let u = c.spec_at.new.self in
    let h = c.loop-members.invariant.read most s fits is in
    let r = spec_of_read u c.in_ok-spec.spec c.in_ok-spec.after (λ b. words_in b.now) (spec_at (words_in c.loop-members.rest.now)) c.in_ok-spec.ensures.words in
    let a = all_read c.loop-members.self u c.in_ok-spec.ensures.grows (term_count c.args.self.now) c.loop-members.members.items (words_in c.loop-members.rest.now) _ h c.in_ok-spec.spec r.0 (words_in c.in_ok-spec.after.now) r.2 r.1 c.in_ok-spec.ensures.few
    c.skip-more.result.0 (words_in c.skip-more.result.1.now) (sym c.skip-more.ensures.words) c.if-not-more.true in
    rw (a.0, c.in_ok-push-2.ensures.items) (a.1, refl, a.2)

pub returns-then-not-more-clause-several : goal.returns-then-not-more-clause-several
returns-then-not-more-clause-several c = λ v one.
    let pushed = ap (λ (vs : List VersionSetId). length vs) (sym c.in_ok-push-2.ensures.items ∙ one) in
    omega (arith, c.loop-members.invariant.some, length_push c.loop-members.members.items c.in_ok-spec.spec, pushed)

pub loop-members-preserved : goal.loop-members-preserved
loop-members-preserved c = record {
  read = λ most s fits is.
      let u = c.spec_at.new.self in
      let h = c.loop-members.invariant.read most s fits is in
      let r = spec_of_read u c.in_ok-spec.spec c.in_ok-spec.after (λ b. words_in b.now) (spec_at (words_in c.loop-members.rest.now)) c.in_ok-spec.ensures.words in
      let total = with_first s (alternatives_at most (words_in c.args.words.now)) in
      subst (λ (vs : List VersionSetId). HasRead u (term_count c.args.self.now) vs (words_in c.skip-more.result.1.now) total) (sym c.in_ok-push-2.ensures.items)
      (more_read c.loop-members.self u c.in_ok-spec.ensures.grows (term_count c.args.self.now) c.loop-members.members.items (words_in c.loop-members.rest.now) total h c.in_ok-spec.spec r.0 (words_in c.in_ok-spec.after.now) r.2 r.1 c.in_ok-spec.ensures.few
      c.skip-more.result.0 (words_in c.skip-more.result.1.now) (sym c.skip-more.ensures.words) c.if-not-more.false);
  grows = grows_on _ _ _ c.loop-members.invariant.grows c.in_ok-spec.ensures.grows;
  some = omega (arith, c.loop-members.invariant.some, length_push c.loop-members.members.items c.in_ok-spec.spec, ap (λ (vs : List VersionSetId). length vs) c.in_ok-push-2.ensures.items);
}
