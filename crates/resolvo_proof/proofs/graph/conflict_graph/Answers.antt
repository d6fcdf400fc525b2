use Rattle.std.proofs.Common.{ℕ, List, ap, sym, subst, ◌∙◌}
use Rattle.resolvo_graph.specs.Removal.{without_unused_unresolved}
use Rattle.resolvo_proof.specs.Offered.{offered_by}
use Rattle.resolvo_proof.specs.Order.{rules_at}
use Rattle.resolvo_proof.specs.LinkRules.{all_links, each_limit_once}
use Rattle.resolvo_proof.specs.Draw.{drawn, conflict_drawing}
use Rattle.resolvo_proof.specs.Truth.{IsTrueConflictGraph}
use Rattle.resolvo_proof.proofs.TruthEdges.{conflict_true}
use Rattle.resolvo_proof.proofs.graph.conflict_graph.Goals as goal

pub returns-clause-graph : goal.returns-clause-graph
unfolding conflict_drawing
returns-clause-graph g c =
    let same = g.I.SolvableId.PartialEq.eq in
    let links_at_order = λ (order : List ℕ). all_links g.I.NameId.PartialEq.eq (g.I.Interner.name_of_solvable c.args.interner.now) (offered_by c.args.offers.now) (rules_at c.args.steps.now order) in
    c.remove_unused_unresolved.ensures
    ∙ ap without_unused_unresolved (
    c.in_ok-graph.ensures.graph
    ∙ ap (drawn same) (c.as_slice-3.ensures.value ∙ c.in_ok-links-2.ensures.links ∙ ap (each_limit_once same) (c.as_slice-2.ensures.value ∙ c.in_ok-links.ensures.links ∙ ap links_at_order (c.as_slice.ensures.value ∙ c.in_ok-order.ensures.order))))

pub returns-clause-truth : goal.returns-clause-truth
returns-clause-truth g c =
    let same = g.I.SolvableId.PartialEq.eq in
    let name_of = g.I.Interner.name_of_solvable c.args.interner.now in
    let offered = offered_by c.args.offers.now in
    subst (IsTrueConflictGraph same name_of offered c.args.steps.now) (sym (returns-clause-graph g c))
    (conflict_true g.I.NameId.PartialEq.eq (record { one = λ x y h. g.met.I.NameId.Exact.exact x y h; own = g.met.I.NameId.Eq.laws.refl }) same (record { one = λ x y h. g.met.I.SolvableId.Exact.exact x y h; own = g.met.I.SolvableId.Eq.laws.refl }) name_of offered c.args.steps.now)
