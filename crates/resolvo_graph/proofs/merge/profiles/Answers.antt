use Rattle.std.proofs.Common.{◌≡◌, ap, ◌∙◌, take, subst, arith}
use Rattle.std.specs.List.{AllZip}
use Rattle.std.proofs.lemmas.List.{take_all}
use Rattle.resolvo_graph.specs.Merge.{IsProfile, versions_from}
use Rattle.resolvo_graph.proofs.MergeLemmas.{profile_more, profile_named, profile_same}
use Rattle.resolvo_graph.proofs.merge.profiles.Goals as goal
use Rattle.resolvo_graph.proofs.merge.profiles.Goals.{in-Some+in_ok-profile_of+in_ok-push, in_default}

pub loop-index-preserved : goal.loop-index-preserved
loop-index-preserved g c =
    elim c.match-solvable.branch [
      | in-Some+in_ok-profile_of+in_ok-push w ↦ profile_more _ c.nodes-node-items.result.now c.loop-index.found.items c.match-solvable.found.items c.loop-index.index c.node-item.result c.solvable.result w.in-Some.solvable w.in_ok-profile_of.field-0 c.loop-index.invariant c.loop-index-test.true c.node-item.is c.solvable.ensures w.in-Some.is (profile_named c.args.graph.now (g.I.Interner.name_of_solvable c.args.interner.now) _ w.solvable_name-name.result w.in_ok-profile_of.field-0 w.solvable_name-name.ensures w.in_ok-profile_of.ensures.profile) (ap (λ v. v.items) w.found-is ∙ w.in_ok-push.ensures.items)
      | in_default w ↦ profile_same _ c.nodes-node-items.result.now c.loop-index.found.items c.match-solvable.found.items c.loop-index.index c.node-item.result c.solvable.result c.loop-index.invariant c.loop-index-test.true c.node-item.is c.solvable.ensures w.in_default.is (ap (λ v. v.items) w.found-is)
    ]

pub returns-clause-profiles : goal.returns-clause-profiles
returns-clause-profiles g c =
    let all : take c.loop-index.index c.nodes-node-items.result.now ≡ c.args.graph.now.nodes = take_all c.loop-index.index c.nodes-node-items.result.now (omega arith) ∙ c.nodes-node-items.ensures in
    subst (λ ns. AllZip (IsProfile c.args.graph.now (g.I.Interner.name_of_solvable c.args.interner.now)) (versions_from 0 ns) c.loop-index.found.items) all c.loop-index.invariant
