use Rattle.std.proofs.Common.{◌≡◌, Some, All, slice_get, sym, subst, ◌∙◌}
use Rattle.resolvo_graph.specs.declared.graph.ConflictNode.TheVariants.{Root}
use Rattle.resolvo_graph.specs.Graph.{IsWithin}
use Rattle.resolvo_graph.specs.Links.{edges_in, AreLinked}
use Rattle.resolvo_graph.proofs.graph.ConflictGraph.clone.Goals as goal

pub invariant_of-result : goal.invariant_of-result
invariant_of-result g c =
    let ls = c.in_ok-from_slice.field-0.items in
    let es = c.self.inside.edges.items in
    subst (λ ks. (slice_get ks 0 ≡ Some Root) × All (IsWithin ks) (edges_in c.in_ok-from_slice-2.field-0.items) × AreLinked ls c.in_ok-from_slice-2.field-0.items) (sym c.in_ok-copied.ensures.same)
    (subst (λ fs. (slice_get c.self.inside.nodes.keys 0 ≡ Some Root) × All (IsWithin c.self.inside.nodes.keys) (edges_in fs) × AreLinked ls fs) (sym (c.in_ok-from_slice-2.ensures.items ∙ c.as_slice-2.ensures.value))
    (subst (λ ms. (slice_get c.self.inside.nodes.keys 0 ≡ Some Root) × All (IsWithin c.self.inside.nodes.keys) (edges_in es) × AreLinked ms es) (sym (c.in_ok-from_slice.ensures.items ∙ c.as_slice.ensures.value)) c.self.invariant))
