use Rattle.std.proofs.Common.{◌≡◌, ◌<◌, ℕ, true, length, refl, ap, sym, subst, ◌∙◌}
use Rattle.std.specs.List.{list_any, position_or_len}
use Rattle.indexmap.specs.IndexSet.{insert_key}
use Rattle.resolvo_proof.specs.Tests.{same_node}
use Rattle.resolvo_proof.proofs.TestLemmas.{node_test, one_test}
use Rattle.resolvo_proof.proofs.GraphLemmas.{position_inserted, has_inserted, position_within, own_test}
use Rattle.resolvo_proof.proofs.graph.put_node.Goals as goal

pub returns-clause-agrees : goal.returns-clause-agrees
returns-clause-agrees g c = node_test _ g.S.PartialEq.eq refl (λ t. refl) refl (λ w. refl) (λ s. refl) (λ s t. refl) (λ s. refl) (λ s w. refl) refl (λ t. refl) refl (λ w. refl) (λ v. refl) (λ v t. refl) (λ v. refl) (λ v w. refl)

pub returns-in_err-index-clause-agrees : goal.returns-in_err-index-clause-agrees
returns-in_err-index-clause-agrees g c = node_test _ g.S.PartialEq.eq refl (λ t. refl) refl (λ w. refl) (λ s. refl) (λ s t. refl) (λ s. refl) (λ s w. refl) refl (λ t. refl) refl (λ w. refl) (λ v. refl) (λ v t. refl) (λ v. refl) (λ v w. refl)

pub returns-clause-put : goal.returns-clause-put
returns-clause-put g c = c.in_ok-index.ensures.put ∙ ap (λ eq. record c.args.graph.now { nodes = insert_key eq c.args.graph.now.nodes c.args.node }) (one_test _ _ (returns-clause-agrees g c))

pub returns-clause-index : goal.returns-clause-index
returns-clause-index g c =
    let old = c.args.graph.now.nodes in
    let node = c.args.node in
    let grown : c.add_node.new.self.nodes ≡ insert_key (same_node g.S.PartialEq.eq) old node = ap (λ h. h.nodes) (returns-clause-put g c) in
    ap (λ (i : ℕ). record { 0 = i }) (
    c.in_ok-index.ensures.index ∙ ap (λ eq. position_or_len (eq node) old) (one_test _ _ (returns-clause-agrees g c))
    ∙ sym (position_inserted (same_node g.S.PartialEq.eq) (own_test g.S.PartialEq.eq g.met.S.Eq.laws.refl) old node)
    ∙ ap (position_or_len (same_node g.S.PartialEq.eq node)) (sym grown))

pub returns-clause-within : goal.returns-clause-within
returns-clause-within g c =
    let old = c.args.graph.now.nodes in
    let node = c.args.node in
    let grown : c.add_node.new.self.nodes ≡ insert_key (same_node g.S.PartialEq.eq) old node = ap (λ h. h.nodes) (returns-clause-put g c) in
    let there : list_any (same_node g.S.PartialEq.eq node) c.add_node.new.self.nodes ≡ true =
    subst (λ ns. list_any (same_node g.S.PartialEq.eq node) ns ≡ true) (sym grown) (has_inserted (same_node g.S.PartialEq.eq) (own_test g.S.PartialEq.eq g.met.S.Eq.laws.refl) old node) in
    subst (λ n. n < length c.add_node.new.self.nodes) (sym (ap (λ i. i.0) (returns-clause-index g c))) (position_within (same_node g.S.PartialEq.eq node) c.add_node.new.self.nodes there)
