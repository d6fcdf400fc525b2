use Rattle.std.proofs.Common.{◌≡◌, ◌+◌, ◌∷◌, ◌++◌, [], ◌∙◌, List, take, subst, sym, ap, is_ok}
use Rattle.std.proofs.ResultArms.{chosen}
use Rattle.std.proofs.lemmas.List.{take_more}
use Rattle.resolvo_store_core.specs.declared.lists.Candidate.{Candidate}
use Rattle.resolvo_packages.specs.declared.package_source.Offered.{Offered}
use Rattle.resolvo_encoder.specs.Steps.{RegistersAll}
use Rattle.resolvo_encoder.proofs.CarryLemmas.{registers_none, registers_more}
use Rattle.resolvo_encoder.proofs.register.register_all.Goals as goal

pub loop-one-init : goal.loop-one-init
loop-one-init g c = subst (λ (xs : List (Candidate _)). RegistersAll [] xs c.args.registry.now c.args.coding.now c.args.registry.now c.args.coding.now) (sym c.in_ok-candidates.ensures.items)
    (registers_none c.args.registry.now c.args.coding.now c.requires.coding c.requires.tied)

pub loop-one-preserved : goal.loop-one-preserved
loop-one-preserved g c =
    let more : take (c.loop-one.one-index + 1) c.args.offered.now ≡ take c.loop-one.one-index c.args.offered.now ++ c.one-item.result ∷ [] =
    take_more c.args.offered.now c.loop-one.one-index c.one-item.result c.loop-one-test.true ∙ ap (λ (x : Offered _ _). take c.loop-one.one-index c.args.offered.now ++ x ∷ []) (sym c.one-item.is) in
    let pushed : c.push.new.self.items ≡ c.loop-one.candidates.items ++ c.in_ok-candidate.candidate ∷ [] = chosen _ _ _ _ c.push.ensures.items (ap is_ok c.in_ok-push.was) in
    subst (λ (xs : List (Offered _ _)). RegistersAll xs c.push.new.self.items c.args.registry.now c.args.coding.now c.register_one.new.registry c.register_one.new.coding) (sym more)
    (subst (λ (ys : List (Candidate _)). RegistersAll (take c.loop-one.one-index c.args.offered.now ++ c.one-item.result ∷ []) ys c.args.registry.now c.args.coding.now c.register_one.new.registry c.register_one.new.coding) (sym pushed)
    (registers_more (take c.loop-one.one-index c.args.offered.now) c.loop-one.candidates.items c.one-item.result c.in_ok-candidate.candidate c.args.registry.now c.loop-one.registry c.register_one.new.registry c.args.coding.now c.loop-one.coding c.register_one.new.coding
    c.loop-one.invariant c.in_ok-candidate.ensures.registered))

pub register_one-requires : goal.register_one-requires
register_one-requires g c = record { coding = c.loop-one.invariant.coding; tied = c.loop-one.invariant.tied }
