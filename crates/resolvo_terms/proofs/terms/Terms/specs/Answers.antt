use Rattle.std.proofs.Common.{[], ◌∷◌, arith}
use Rattle.std.proofs.lemmas.List.{map_more}
use Rattle.resolvo_text.specs.View.{spec_of}
use Rattle.resolvo_terms.specs.Terms.{IsSpec}
use Rattle.resolvo_terms.proofs.GrowLemmas.{specs_stay, grows_on, each_more}
use Rattle.resolvo_terms.proofs.terms.Terms.specs.Goals as goal

pub loop-spec-preserved : goal.loop-spec-preserved
loop-spec-preserved c =
    let inv = c.loop-spec.invariant in
    let i = c.loop-spec.spec-index in
    let b = c.spec.new.self in
    let before = specs_stay c.loop-spec.self b c.in_ok-spec.ensures.grows c.loop-spec.ids.items _ inv.0 in (
      rw (map_more spec_of c.args.specs.now i c.spec-item.result c.loop-spec-test.true, ← c.spec-item.is, c.in_ok-push.ensures.items)
          (each_more (IsSpec b) c.loop-spec.ids.items (c.in_ok-spec.field-0 ∷ []) _ (spec_of c.spec-item.result ∷ []) before (c.in_ok-spec.ensures.spec, tt)),
      grows_on _ _ _ inv.1 c.in_ok-spec.ensures.grows,
      omega (arith, inv.2, c.in_ok-spec.ensures.few),
      omega (arith, c.loop-spec-test.true),
    )
