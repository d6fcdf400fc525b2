use Rattle.std.proofs.Common.{◌≡◌, ◌+◌, ◌∷◌, ◌++◌, [], ◌∙◌, List, true, take, subst, sym, ap}
use Rattle.std.specs.Prelude.{Contains}
use Rattle.std.proofs.lemmas.Bool.{both_ways}
use Rattle.std.proofs.lemmas.List.{take_more, take_all}
use Rattle.resolvo_sat.proofs.Lists.{contains_none, map_contains}
use Rattle.resolvo_packages.specs.declared.package_source.Offered.{Offered}
use Rattle.resolvo_encoder.proofs.FireLemmas.{none_more}
use Rattle.resolvo_encoder.proofs.conditions.is_offered.Goals as goal

pub loop-one-init : goal.loop-one-init
loop-one-init g c = λ o h. absurd (contains_none o h)

pub loop-one-preserved : goal.loop-one-preserved
loop-one-preserved g c =
    let more : take (c.loop-one.one-index + 1) c.args.offered.now ≡ take c.loop-one.one-index c.args.offered.now ++ c.one-item.result ∷ [] =
    take_more c.args.offered.now c.loop-one.one-index c.one-item.result c.loop-one-test.true ∙ ap (λ (x : Offered _ _). take c.loop-one.one-index c.args.offered.now ++ x ∷ []) (sym c.one-item.is) in
    none_more (λ (o : Offered _ _). o.solvable ≡ c.args.solvable → ⊥) (take c.loop-one.one-index c.args.offered.now) c.one-item.result (take (c.loop-one.one-index + 1) c.args.offered.now) more c.loop-one.invariant
    (λ is. (
    let same : g.S.PartialEq.eq c.one-item.result.solvable c.args.solvable ≡ true = subst (λ x. g.S.PartialEq.eq c.one-item.result.solvable x ≡ true) is (g.met.S.Eq.laws.refl c.one-item.result.solvable) in
    both_ways _ (sym c.eq.ensures ∙ c.if-eq.false) same))

pub returns-clause-other : goal.returns-clause-other
returns-clause-other g c = λ h present.
    let (o, inside, is) = map_contains (λ (x : Offered _ _). x.solvable) c.args.solvable c.args.offered.now present in
    c.loop-one.invariant o (subst (λ (xs : List (Offered _ _)). Contains xs o) (sym (take_all c.loop-one.one-index c.args.offered.now c.loop-one-test.false)) inside) (sym is)
