-- The links of edges: the edges that a walk over them visits, and that the invariant holds.
use Rattle.std.proofs.Common.{◌≡◌, ℕ, zero, suc, ◌+◌, ◌<◌, ◌≤◌, add-one, Bool, true, false, cond, List, [], ◌∷◌, ◌++◌, Option, None, Some, filter, length, length-append, take, get_or, reverse, append_assoc, refl, sym, ap, subst, ◌∙◌, inl, inr, arith}
use Rattle.std.specs.Prelude.{◌⊎◌, ◌||◌, ◌&&◌, is_some, slice_get}
use Rattle.std.specs.List.{list_any}
use Rattle.std.specs.Option.{option_map_or, option_map}
use Rattle.std.proofs.lemmas.Bool.{eqb-true}
use Rattle.std.proofs.lemmas.List.{length-map, take_all, take_more, append-nil, map-append, reverse-append}
use Rattle.std.proofs.lemmas.List.Elements.{filter-append}
use Rattle.std.proofs.lemmas.List.Folds.{list_any-append}
use Rattle.std.proofs.lemmas.Option.{slice_get-map, slice_get_within, slice_get_read, get_or_from_slice_get}
use Rattle.resolvo_graph.specs.declared.graph.NodeIndex.{NodeIndex}
use Rattle.resolvo_graph.specs.declared.graph.EdgeIndex.{EdgeIndex}
use Rattle.resolvo_graph.specs.declared.graph.Edge.{Edge}
use Rattle.resolvo_graph.specs.declared.links.Side.{Side}
use Rattle.resolvo_graph.specs.declared.links.Side.TheVariants.{Leaving, Entering}
use Rattle.resolvo_graph.specs.declared.links.Links.{Links}
use Rattle.resolvo_graph.specs.declared.links.LinkedEdge.{LinkedEdge}
use Rattle.resolvo_graph.specs.Links.{end_on, is_at, link_on, no_links, links_of, edges_in, holds_at, newest_of, up_to, IsOn, AreLinked}
use Rattle.resolvo_graph.specs.Removal.{touches}

there : {X : Type 0} (xs : List X) (n : ℕ) → n < length xs → (x : X) × (slice_get xs n ≡ Some x)
there [] n h = absurd (omega arith)
there (x ∷ xs) zero h = (x, refl)
there (x ∷ xs) (suc n) h = there xs n (omega arith)

take-one_more : {X : Type 0} (xs : List X) (n : ℕ) (x : X) → slice_get xs n ≡ Some x → take (n + 1) xs ≡ take n xs ++ x ∷ []
take-one_more xs n x at = take_more xs n x (slice_get_within xs n x at) ∙ ap (λ y. take n xs ++ y ∷ []) (get_or_from_slice_get xs n x x at)

pub or_true : (a : Bool) → (a || true) ≡ true
or_true true = refl
or_true false = refl

pub or_false : (a : Bool) → (a || false) ≡ a
or_false true = refl
or_false false = refl

or_one : (a b : Bool) → (a || (b || false)) ≡ (a || b)
or_one a b = ap (λ c. a || c) (or_false b)

module _ {S : Type 0} (p : Edge S → Bool) (es : List (Edge S)) where
  on_more : (o : Option EdgeIndex) (n : ℕ) → IsOn p es o n → IsOn p es o (suc n)
  on_more None n h = tt
  on_more (Some i) n h =
      let less : i.0 < n = h.0 in
      (omega arith, h.1)

  holds_of : (n : ℕ) (e : Edge S) → slice_get es n ≡ Some e → holds_at p es n ≡ p e
  holds_of n e at = ap (λ o. option_map_or p o false) at

  filter-one_more : (n : ℕ) (e : Edge S) → slice_get es n ≡ Some e → filter p (take (n + 1) es) ≡ filter p (take n es) ++ cond (p e) (e ∷ []) []
  filter-one_more n e at = ap (filter p) (take-one_more es n e at) ∙ filter-append p (take n es) (e ∷ [])

  -- the edges among the first n of which p holds end with the newest of them
  as_far_as_newest : (n : ℕ) → n ≤ length es → (filter p (take n es) ≡ filter p (up_to (newest_of p es n) es)) × IsOn p es (newest_of p es n) n
  as_far_as_newest zero h = (refl, tt)
  as_far_as_newest (suc n) h = go (holds_at p es n) refl (as_far_as_newest n (omega arith)) (there es n (omega arith))
    where
      go : (b : Bool) → holds_at p es n ≡ b → (filter p (take n es) ≡ filter p (up_to (newest_of p es n) es)) × IsOn p es (newest_of p es n) n → (e : Edge S) × (slice_get es n ≡ Some e) → (filter p (take (suc n) es) ≡ filter p (up_to (cond b (Some (record { 0 = n })) (newest_of p es n)) es)) × IsOn p es (cond b (Some (record { 0 = n })) (newest_of p es n)) (suc n)
      go true is so at = (ap (λ k. filter p (take k es)) (sym (add-one n)), (omega arith, is))
      go false is so at =
          let same : filter p (take (suc n) es) ≡ filter p (take n es) = ap (λ k. filter p (take k es)) (sym (add-one n)) ∙ filter-one_more n at.0 at.1 ∙ ap (λ b. filter p (take n es) ++ cond b (at.0 ∷ []) []) (sym (holds_of n at.0 at.1) ∙ is) ∙ append-nil (filter p (take n es)) in
          (same ∙ so.0, on_more (newest_of p es n) n so.1)

  pub from_newest : (o : Option EdgeIndex) → o ≡ newest_of p es (length es) → (filter p es ≡ filter p (up_to o es)) × IsOn p es o (length es)
  from_newest o is =
      let all = as_far_as_newest (length es) (omega arith) in
      subst (λ q. (filter p es ≡ filter p (up_to q es)) × IsOn p es q (length es)) (sym is) (ap (filter p) (sym (take_all (length es) es (omega arith))) ∙ all.0, all.1)

  -- p holds of some edge exactly if there is a newest one
  pub some_newest : (n : ℕ) → n ≤ length es → is_some (newest_of p es n) ≡ list_any p (take n es)
  some_newest zero h = refl
  some_newest (suc n) h = go (holds_at p es n) (some_newest n (omega arith)) ∙ sym (more (there es n (omega arith)))
    where
      more : (e : Edge S) × (slice_get es n ≡ Some e) → list_any p (take (suc n) es) ≡ (list_any p (take n es) || holds_at p es n)
      more at = ap (λ k. list_any p (take k es)) (sym (add-one n)) ∙ ap (list_any p) (take-one_more es n at.0 at.1) ∙ list_any-append p (take n es) (at.0 ∷ []) ∙ or_one (list_any p (take n es)) (p at.0) ∙ ap (λ b. list_any p (take n es) || b) (sym (holds_of n at.0 at.1))

      go : (b : Bool) → is_some (newest_of p es n) ≡ list_any p (take n es) → is_some (cond b (Some (record { 0 = n })) (newest_of p es n)) ≡ (list_any p (take n es) || b)
      go true so = sym (or_true (list_any p (take n es)))
      go false so = so ∙ sym (or_false (list_any p (take n es)))

-- p holds of an edge, and so does r, exactly if r holds of one of those of which p holds
pub any_both : {X : Type 0} (p r : X → Bool) (xs : List X) → list_any (λ x. p x && r x) xs ≡ list_any r (filter p xs)
any_both p r [] = refl
any_both {X} p r (x ∷ xs) = go (p x) (any_both p r xs)
  where
    go : (b : Bool) → list_any (λ y. p y && r y) xs ≡ list_any r (filter p xs) → ((b && r x) || list_any (λ y. p y && r y) xs) ≡ list_any r (cond b (x ∷ filter p xs) (filter p xs))
    go true h = ap (λ b. r x || b) h
    go false h = h

-- one step of a walk over the edges at a node: from the next one, l, to o
module _ {S : Type 0} (newest : List Links) (edges : List (LinkedEdge S)) (side : Side) (node : NodeIndex) (linked : AreLinked newest edges) (next : Option EdgeIndex) (i : EdgeIndex) (is : next ≡ Some i) (on : IsOn (is_at side node) (edges_in edges) next (length (edges_in edges))) where
  here : (i.0 < length (edges_in edges)) × (holds_at (is_at side node) (edges_in edges) i.0 ≡ true)
  here = subst (λ k. IsOn (is_at side node) (edges_in edges) k (length (edges_in edges))) is on

  pub within : i.0 < length edges
  within =
      let less : i.0 < length (edges_in edges) = here.0 in
      omega (arith, less, length-map edges (λ (k : LinkedEdge S). k.edge))

  module _ (l : LinkedEdge S) (o : Option EdgeIndex) (at : l ≡ get_or edges i.0 l) (to : o ≡ link_on side l.older) where
    there_is : slice_get edges i.0 ≡ Some l
    there_is = slice_get_read edges (length edges) i.0 l refl within at

    edge_is : slice_get (edges_in edges) i.0 ≡ Some l.edge
    edge_is = slice_get-map (λ (k : LinkedEdge S). k.edge) edges i.0 ∙ ap (option_map (λ (k : LinkedEdge S). k.edge)) there_is

    passes : is_at side node l.edge ≡ true
    passes = sym (holds_of (is_at side node) (edges_in edges) i.0 l.edge edge_is) ∙ here.1

    to_newest : o ≡ newest_of (is_at side node) (edges_in edges) i.0
    to_newest =
        let same : end_on side l.edge ≡ node = ap (λ k. record { 0 = k }) (eqb-true (end_on side l.edge).0 node.0 passes) in
        to ∙ linked.older_are side i.0 l there_is ∙ ap (λ n. newest_of (is_at side n) (edges_in edges) i.0) same

    far : (filter (is_at side node) (take i.0 (edges_in edges)) ≡ filter (is_at side node) (up_to (newest_of (is_at side node) (edges_in edges) i.0) (edges_in edges))) × IsOn (is_at side node) (edges_in edges) (newest_of (is_at side node) (edges_in edges) i.0) i.0
    far =
        let less : i.0 < length (edges_in edges) = here.0 in
        as_far_as_newest (is_at side node) (edges_in edges) i.0 (omega arith)

    pub met : filter (is_at side node) (up_to next (edges_in edges)) ≡ filter (is_at side node) (up_to o (edges_in edges)) ++ l.edge ∷ []
    met =
        ap (λ k. filter (is_at side node) (up_to k (edges_in edges))) is ∙ filter-one_more (is_at side node) (edges_in edges) i.0 l.edge edge_is ∙ ap (λ b. filter (is_at side node) (take i.0 (edges_in edges)) ++ cond b (l.edge ∷ []) []) passes
        ∙ ap (λ xs. xs ++ l.edge ∷ []) (far.0 ∙ ap (λ k. filter (is_at side node) (up_to k (edges_in edges))) (sym to_newest))

    before : IsOn (is_at side node) (edges_in edges) o i.0
    before = subst (λ k. IsOn (is_at side node) (edges_in edges) k i.0) (sym to_newest) far.1

    pub still_on : IsOn (is_at side node) (edges_in edges) o (length (edges_in edges))
    still_on = go o before
      where
        go : (k : Option EdgeIndex) → IsOn (is_at side node) (edges_in edges) k i.0 → IsOn (is_at side node) (edges_in edges) k (length (edges_in edges))
        go None h = tt
        go (Some j) h =
            let less : i.0 < length (edges_in edges) = here.0 in
            let lower : j.0 < i.0 = h.0 in
            (omega arith, h.1)

    pub nearer : option_map_or (λ k. k.0 + 1) o 0 < option_map_or (λ k. k.0 + 1) next 0
    nearer = subst (λ n. option_map_or (λ k. k.0 + 1) o 0 < option_map_or (λ k. k.0 + 1) n 0) (sym is) (go o before)
      where
        go : (k : Option EdgeIndex) → IsOn (is_at side node) (edges_in edges) k i.0 → option_map_or (λ j. j.0 + 1) k 0 < i.0 + 1
        go None h = omega arith
        go (Some j) h =
            let lower : j.0 < i.0 = h.0 in
            omega arith

    pub any_more : (r : Edge S → Bool) → list_any r (filter (is_at side node) (up_to next (edges_in edges))) ≡ (list_any r (filter (is_at side node) (up_to o (edges_in edges))) || r l.edge)
    any_more r = ap (list_any r) met ∙ list_any-append r (filter (is_at side node) (up_to o (edges_in edges))) (l.edge ∷ []) ∙ or_one (list_any r (filter (is_at side node) (up_to o (edges_in edges)))) (r l.edge)

-- one more node without links
pub links_of-push : (ls : List Links) (n : ℕ) → links_of (ls ++ no_links ∷ []) n ≡ links_of ls n
links_of-push [] zero = refl
links_of-push [] (suc n) = refl
links_of-push (l ∷ ls) zero = refl
links_of-push (l ∷ ls) (suc n) = links_of-push ls n

pub nothing_linked : {S : Type 0} (newest : List Links) (edges : List (LinkedEdge S)) → newest ≡ [] → edges ≡ [] → AreLinked newest edges
nothing_linked {S} newest edges none no_edges = subst (λ ls. AreLinked {S = S} ls edges) (sym none) (subst (λ ls. AreLinked [] ls) (sym no_edges) (record { newest_are = λ side n. unlinked side n; older_are = λ side i l at. absurd (apart l at) }))
  where
    unlinked : (side : Side) (n : ℕ) → link_on side (links_of [] n) ≡ newest_of {S = S} (is_at side (record { 0 = n })) [] 0
    unlinked Leaving zero = refl
    unlinked Leaving (suc n) = refl
    unlinked Entering zero = refl
    unlinked Entering (suc n) = refl

    apart : {X : Type 0} (x : X) → None ≡ Some x → ⊥
    apart x h = cc

pub still_linked : {S : Type 0} (newest now : List Links) (edges : List (LinkedEdge S)) → AreLinked newest edges → ((n : ℕ) → links_of now n ≡ links_of newest n) → AreLinked now edges
still_linked newest now edges linked same = record { newest_are = λ side n. ap (link_on side) (same n) ∙ linked.newest_are side n; older_are = linked.older_are }

slice_get-append : {X : Type 0} (xs ys : List X) (n : ℕ) → n < length xs → slice_get (xs ++ ys) n ≡ slice_get xs n
slice_get-append [] ys n h = absurd (omega arith)
slice_get-append (x ∷ xs) ys zero h = refl
slice_get-append (x ∷ xs) ys (suc n) h = slice_get-append xs ys n (omega arith)

-- an element of a list with one more is the new one, or an old one
one_of_more : {X : Type 0} (xs : List X) (y : X) (i : ℕ) (x : X) → slice_get (xs ++ y ∷ []) i ≡ Some x → (slice_get xs i ≡ Some x) ⊎ ((i ≡ length xs) × (y ≡ x))
one_of_more [] y zero x h = inr (refl, cc)
one_of_more [] y (suc i) x h = cc
one_of_more (z ∷ xs) y zero x h = inl h
one_of_more (z ∷ xs) y (suc i) x h = elim (one_of_more xs y i x h) [ inl k ↦ inl k | inr k ↦ inr (let is : i ≡ length xs = k.0 in omega arith, k.1) ]

-- the newest of the first edges is the same in a longer list
newest_of-append : {S : Type 0} (p : Edge S → Bool) (es fs : List (Edge S)) (n : ℕ) → n ≤ length es → newest_of p (es ++ fs) n ≡ newest_of p es n
newest_of-append p es fs zero h = refl
newest_of-append p es fs (suc n) h =
    ap (λ b. cond b (Some (record { 0 = n })) (newest_of p (es ++ fs) n)) (ap (λ o. option_map_or p o false) (slice_get-append es fs n (omega arith)))
    ∙ ap (cond (holds_at p es n) (Some (record { 0 = n }))) (newest_of-append p es fs n (omega arith))

slice_get-last : {X : Type 0} (xs : List X) (x : X) → slice_get (xs ++ x ∷ []) (length xs) ≡ Some x
slice_get-last [] x = refl
slice_get-last (y ∷ xs) x = slice_get-last xs x

-- one edge more, linked to the newest ones at its ends, is the newest one there
module _ {S : Type 0} (newest now : List Links) (edges : List (LinkedEdge S)) (linked : AreLinked newest edges) (e : Edge S) (older : Links) (ends : (side : Side) → link_on side older ≡ link_on side (links_of newest (end_on side e).0)) (put : (side : Side) (n : ℕ) → link_on side (links_of now n) ≡ cond (is_at side (record { 0 = n }) e) (Some (record { 0 = length edges })) (link_on side (links_of newest n))) where
  more_edges : edges_in (edges ++ record { edge = e; older = older } ∷ []) ≡ edges_in edges ++ e ∷ []
  more_edges = map-append (λ (l : LinkedEdge S). l.edge) edges (record { edge = e; older = older } ∷ [])

  long : length (edges_in edges) ≡ length edges
  long = length-map edges (λ (l : LinkedEdge S). l.edge)

  newest_is : (p : Edge S → Bool) → newest_of p (edges_in edges ++ e ∷ []) (length (edges_in edges ++ e ∷ [])) ≡ cond (p e) (Some (record { 0 = length edges })) (newest_of p (edges_in edges) (length (edges_in edges)))
  newest_is p =
      let all : length (edges_in edges ++ e ∷ []) ≡ suc (length (edges_in edges)) = omega (arith, length-append (edges_in edges) (e ∷ [])) in
      ap (newest_of p (edges_in edges ++ e ∷ [])) all
      ∙ ap (λ o. cond (option_map_or p o false) (Some (record { 0 = length (edges_in edges) })) (newest_of p (edges_in edges ++ e ∷ []) (length (edges_in edges)))) (slice_get-last (edges_in edges) e)
      ∙ ap (cond (p e) (Some (record { 0 = length (edges_in edges) }))) (newest_of-append p (edges_in edges) (e ∷ []) (length (edges_in edges)) (omega arith))
      ∙ ap (λ k. cond (p e) (Some (record { 0 = k })) (newest_of p (edges_in edges) (length (edges_in edges)))) long

  older_is : (side : Side) (i : ℕ) (l : LinkedEdge S) → (slice_get edges i ≡ Some l) ⊎ ((i ≡ length edges) × (record { edge = e; older = older } ≡ l)) → link_on side l.older ≡ newest_of (is_at side (end_on side l.edge)) (edges_in edges ++ e ∷ []) i
  older_is side i l (inl at) =
      let less : i < length edges = slice_get_within edges i l at in
      linked.older_are side i l at ∙ sym (newest_of-append (is_at side (end_on side l.edge)) (edges_in edges) (e ∷ []) i (omega (arith, long)))
  older_is side i l (inr at) =
      subst (λ (k : LinkedEdge S). link_on side k.older ≡ newest_of (is_at side (end_on side k.edge)) (edges_in edges ++ e ∷ []) i) at.1
      (ends side ∙ linked.newest_are side (end_on side e).0 ∙ sym (newest_of-append (is_at side (end_on side e)) (edges_in edges) (e ∷ []) (length (edges_in edges)) (omega arith)) ∙ ap (newest_of (is_at side (end_on side e)) (edges_in edges ++ e ∷ [])) (long ∙ sym at.0))

  pub linked_more : AreLinked now (edges ++ record { edge = e; older = older } ∷ [])
  linked_more = record {
    newest_are = λ side n. put side n ∙ ap (cond (is_at side (record { 0 = n }) e) (Some (record { 0 = length edges }))) (linked.newest_are side n) ∙ sym (newest_is (is_at side (record { 0 = n }))) ∙ ap (λ es. newest_of (is_at side (record { 0 = n })) es (length es)) (sym more_edges);
    older_are = λ side i l at. older_is side i l (one_of_more edges (record { edge = e; older = older }) i l at) ∙ ap (λ es. newest_of (is_at side (end_on side l.edge)) es i) (sym more_edges);
  }

pub any_either : {X : Type 0} (p q : X → Bool) (xs : List X) → list_any (λ x. p x || q x) xs ≡ (list_any p xs || list_any q xs)
any_either p q [] = refl
any_either {X} p q (x ∷ xs) = ap (λ b. (p x || q x) || b) (any_either p q xs) ∙ sorted (p x) (q x) (list_any p xs) (list_any q xs)
  where
    sorted : (a b c d : Bool) → ((a || b) || (c || d)) ≡ ((a || c) || (b || d))
    sorted true b c d = refl
    sorted false true c d = sym (or_true c)
    sorted false false c d = refl

-- an edge touches a node exactly if there is a newest one on one of its sides
pub touched : {S : Type 0} (es : List (Edge S)) (n : NodeIndex) (a b : Option EdgeIndex) → a ≡ newest_of (is_at Leaving n) es (length es) → b ≡ newest_of (is_at Entering n) es (length es) → (is_some a || is_some b) ≡ list_any (touches n) es
touched {S} es n a b leaving entering =
    ap (λ o. is_some o || is_some b) leaving ∙ ap (λ o. is_some (newest_of (is_at {S = S} Leaving n) es (length es)) || is_some o) entering
    ∙ ap (λ c. c || is_some (newest_of (is_at {S = S} Entering n) es (length es))) (whole (is_at Leaving n)) ∙ ap (λ c. list_any (is_at {S = S} Leaving n) es || c) (whole (is_at Entering n))
    ∙ sym (any_either (is_at Leaving n) (is_at Entering n) es)
  where
    whole : (p : Edge S → Bool) → is_some (newest_of p es (length es)) ≡ list_any p es
    whole p = some_newest p es (length es) (omega arith) ∙ ap (list_any p) (take_all (length es) es (omega arith))
