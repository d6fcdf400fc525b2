-- A graph with one node more, and the edge at an index.
use Rattle.std.proofs.Common.{◌≡◌, ◌∙◌, ℕ, ◌<◌, ◌≤◌, ◌+◌, Bool, true, false, cond, List, [], ◌∷◌, ◌++◌, All, Option, Some, None, drop, get_or, length, length-append, refl, sym, ap, subst, arith}
use Rattle.std.specs.Prelude.{slice_get}
use Rattle.std.specs.Option.{option_map}
use Rattle.std.proofs.lemmas.Option.{slice_get-map, slice_get_read, slice_get_past}
use Rattle.resolvo_graph.specs.declared.graph.ConflictNode.{ConflictNode}
use Rattle.resolvo_graph.specs.declared.graph.ConflictNode.TheVariants.{Root}
use Rattle.resolvo_graph.specs.declared.graph.Edge.{Edge}
use Rattle.resolvo_graph.specs.declared.links.LinkedEdge.{LinkedEdge}
use Rattle.resolvo_graph.specs.declared.graph.NodeIndex.{NodeIndex}
use Rattle.resolvo_graph.specs.Graph.{IsWithin, is_unresolved, first_unresolved}
use Rattle.resolvo_graph.specs.Links.{edges_in}
use Rattle.resolvo_graph.proofs.ListLemmas.{left}

module _ {S : Type 0} (n : ConflictNode S) where
  still_first : (nodes : List (ConflictNode S)) → slice_get nodes 0 ≡ Some Root → slice_get (nodes ++ n ∷ []) 0 ≡ Some Root
  still_first [] h = cc
  still_first (m ∷ ms) h = h

  still_within : (nodes : List (ConflictNode S)) (es : List (Edge S)) → All (IsWithin nodes) es → All (IsWithin (nodes ++ n ∷ [])) es
  still_within nodes es h k d less =
      let here = h k d less in
      (omega (arith, here.0, length-append nodes (n ∷ [])), omega (arith, here.1, length-append nodes (n ∷ [])))

-- the root stays first, and edges stay between nodes
pub stays_within : {S : Type 0} (b : Bool) (nodes now : List (ConflictNode S)) (es : List (Edge S)) (n : ConflictNode S) → (slice_get nodes 0 ≡ Some Root) × All (IsWithin nodes) es → now ≡ cond b nodes (nodes ++ n ∷ []) → (slice_get now 0 ≡ Some Root) × All (IsWithin now) es
stays_within true nodes now es n h put = subst (λ ns. (slice_get ns 0 ≡ Some Root) × All (IsWithin ns) es) (sym put) h
stays_within false nodes now es n h put = subst (λ ns. (slice_get ns 0 ≡ Some Root) × All (IsWithin ns) es) (sym put) (still_first n nodes h.0, still_within n nodes es h.1)

-- a linked edge that was found is the edge at its index
pub edge_found : {S : Type 0} (xs ys : List (LinkedEdge S)) (i : ℕ) (l : LinkedEdge S) → xs ≡ ys → i < length xs → l ≡ get_or xs i l → Some l.edge ≡ slice_get (edges_in ys) i
edge_found {S} xs ys i l same h at =
    let f : LinkedEdge S → Edge S = λ k. k.edge in
    sym (ap (λ zs. slice_get (edges_in zs) i) (sym same) ∙ slice_get-map f xs i ∙ ap (option_map f) (slice_get_read xs (length xs) i l refl h at))

pub edge_past : {S : Type 0} (xs ys : List (LinkedEdge S)) (i : ℕ) → xs ≡ ys → length xs ≤ i → None ≡ slice_get (edges_in ys) i
edge_past {S} xs ys i same h =
    let f : LinkedEdge S → Edge S = λ k. k.edge in
    sym (ap (λ zs. slice_get (edges_in zs) i) (sym same) ∙ slice_get-map f xs i ∙ ap (option_map f) (slice_get_past xs i h))

-- the unresolved node is this one, or among those behind it
module _ {S : Type 0} (ns : List (ConflictNode S)) (i : ℕ) (n : ConflictNode S) (b : Bool) (all : Option NodeIndex) (h : i < length ns) (at : n ≡ get_or ns i n) (is : b ≡ is_unresolved n) (so : all ≡ first_unresolved i (drop i ns)) where
  here : all ≡ cond b (Some (record { 0 = i })) (first_unresolved (i + 1) (drop (i + 1) ns))
  here = so ∙ ap (first_unresolved i) (left ns i n n h at) ∙ ap (λ u. cond u (Some (record { 0 = i })) (first_unresolved (i + 1) (drop (i + 1) ns))) (sym is)

  pub first_here : b ≡ true → Some (record { 0 = i }) ≡ all
  first_here holds = sym (here ∙ ap (λ u. cond u (Some (record { 0 = i })) (first_unresolved (i + 1) (drop (i + 1) ns))) holds)

  pub first_later : b ≡ false → all ≡ first_unresolved (i + 1) (drop (i + 1) ns)
  first_later fails = here ∙ ap (λ u. cond u (Some (record { 0 = i })) (first_unresolved (i + 1) (drop (i + 1) ns))) fails
