use Rattle.std.proofs.Common.{◌≡◌, ◌+◌, ◌∷◌, ◌++◌, [], ◌∙◌, List, take, subst, sym, ap}
use Rattle.std.proofs.lemmas.List.{take_more, take_all}
use Rattle.resolvo_sat.specs.RuleClauses.{IsExact}
use Rattle.resolvo_packages.specs.declared.package_source.Offered.{Offered}
use Rattle.resolvo_encoder.specs.AtLeastOneClauses.{AddsAtLeastOne}
use Rattle.resolvo_encoder.proofs.CaseLiterals.{adds_none, adds_then}
use Rattle.resolvo_encoder.proofs.encoder.Encoder.add_at_least_ones.Goals as goal

pub loop-one-init : goal.loop-one-init
loop-one-init g c =
    let exact : IsExact g.S.PartialEq.eq = record { one = g.met.S.Exact.exact; own = g.met.S.Eq.laws.refl } in
    adds_none g.S.PartialEq.eq exact c.args.self.now c.requires

pub loop-one-preserved : goal.loop-one-preserved
loop-one-preserved g c =
    let exact : IsExact g.S.PartialEq.eq = record { one = g.met.S.Exact.exact; own = g.met.S.Eq.laws.refl } in
    let more : take (c.loop-one.one-index + 1) c.args.list.now ≡ take c.loop-one.one-index c.args.list.now ++ c.one-item.result ∷ [] =
    take_more c.args.list.now c.loop-one.one-index c.one-item.result c.loop-one-test.true ∙ ap (λ (x : Offered _ _). take c.loop-one.one-index c.args.list.now ++ x ∷ []) (sym c.one-item.is) in
    subst (λ (xs : List (Offered _ _)). AddsAtLeastOne g.S.PartialEq.eq xs c.args.self.now c.add_at_least_one.new.self) (sym more)
    (adds_then g.S.PartialEq.eq exact (take c.loop-one.one-index c.args.list.now) (c.one-item.result ∷ []) c.args.self.now c.loop-one.self c.add_at_least_one.new.self c.loop-one.invariant c.in_ok-add_at_least_one.ensures.added)

pub add_at_least_one-requires : goal.add_at_least_one-requires
add_at_least_one-requires g c = c.loop-one.invariant.built

pub returns-clause-added : goal.returns-clause-added
returns-clause-added g c = subst (λ (xs : List (Offered _ _)). AddsAtLeastOne g.S.PartialEq.eq xs c.args.self.now c.loop-one.self) (take_all c.loop-one.one-index c.args.list.now c.loop-one-test.false) c.loop-one.invariant
