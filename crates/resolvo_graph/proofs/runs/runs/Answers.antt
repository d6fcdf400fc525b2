use Rattle.std.proofs.Common.{◌≡◌, ◌++◌, ◌+◌, ◌∷◌, [], take, sym, ap, ◌∙◌, refl}
use Rattle.std.proofs.lemmas.List.{take_more}
use Rattle.resolvo_graph.specs.Runs.{runs_of, with_last}
use Rattle.resolvo_graph.proofs.RunLemmas.{runs_of-last, with_last_edge}
use Rattle.resolvo_graph.proofs.ListLemmas.{whole}
use Rattle.resolvo_graph.proofs.runs.runs.Goals as goal
use Rattle.resolvo_graph.proofs.runs.runs.Goals.{in-Some+in_ok-add_target, in_default}

pub loop-edge-preserved : goal.loop-edge-preserved
loop-edge-preserved g c =
    let i = c.loop-edge.edge-index in
    let e = c.edge-item.result in
    let one : take (i + 1) c.args.edges.now ≡ take i c.args.edges.now ++ e ∷ [] = take_more c.args.edges.now i e c.loop-edge-test.true ∙ ap (λ x. take i c.args.edges.now ++ x ∷ []) (sym c.edge-item.is) in
    let more : runs_of (take (i + 1) c.args.edges.now) ≡ with_last_edge (runs_of (take i c.args.edges.now)) c.requirement.result e.target =
    ap runs_of one ∙ runs_of-last (take i c.args.edges.now) e ∙ ap (λ o. with_last_edge (runs_of (take i c.args.edges.now)) o e.target) (sym c.requirement.ensures) in
    elim c.match-requirement.branch [
      | in-Some+in_ok-add_target w ↦ ap (λ v. v.items) w.found-is ∙ w.in_ok-add_target.ensures.put ∙ ap (λ rs. with_last rs w.in-Some.requirement e.target) c.loop-edge.invariant ∙ ap (λ o. with_last_edge (runs_of (take i c.args.edges.now)) o e.target) (sym w.in-Some.is) ∙ sym more
      | in_default w ↦ ap (λ v. v.items) w.found-is ∙ c.loop-edge.invariant ∙ ap (λ o. with_last_edge (runs_of (take i c.args.edges.now)) o e.target) (sym w.in_default.is) ∙ sym more
    ]

pub returns-clause-runs : goal.returns-clause-runs
returns-clause-runs g c = whole runs_of c.args.edges.now c.args.edges.now c.loop-edge.edge-index c.loop-edge.found.items c.loop-edge-test.false refl c.loop-edge.invariant
