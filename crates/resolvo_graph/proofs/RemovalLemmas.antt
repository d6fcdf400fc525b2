-- A node is removed, and the last one gets its index.
use Rattle.std.proofs.Common.{◌≡◌, ℕ, zero, suc, ◌+◌, ◌<◌, ◌≤◌, Bool, true, false, cond, List, [], ◌∷◌, ◌++◌, map, length, take, drop, get_or, All, refl, sym, ap, subst, ◌∙◌, arith}
use Rattle.std.specs.Prelude.{◌||◌, ◌==◌, ◌-◌, Option, Some, None, is_some, slice_get, slice_set, swap_remove, IfSome}
use Rattle.std.specs.List.{list_any}
use Rattle.std.specs.Option.{option_map, option_map_or}
use Rattle.std.proofs.lemmas.Bool.{eqb-true, eqb-false}
use Rattle.std.proofs.lemmas.Bool.Decides.{nat_tests}
use Rattle.std.proofs.lemmas.Option.{slice_get-map}
use Rattle.std.proofs.lemmas.List.{length-map, length-take, take_all}
use Rattle.std.proofs.Math.ListN.{length-set}
use Rattle.std.proofs.lemmas.List.Elements.{All-nil, All-cons, All-head, All-tail}
use Rattle.resolvo_graph.specs.declared.graph.NodeIndex.{NodeIndex}
use Rattle.resolvo_graph.specs.declared.graph.ConflictNode.{ConflictNode}
use Rattle.resolvo_graph.specs.declared.graph.ConflictNode.TheVariants.{Root, Solvable, UnresolvedDependency, Excluded}
use Rattle.resolvo_graph.specs.declared.graph.Edge.{Edge}
use Rattle.resolvo_graph.specs.Graph.{Graph, IsWithin, is_unresolved, first_unresolved, unresolved_of}
use Rattle.resolvo_graph.specs.declared.graph.EdgeIndex.{EdgeIndex}
use Rattle.resolvo_graph.specs.declared.links.Side.{Side}
use Rattle.resolvo_graph.specs.declared.links.Side.TheVariants.{Leaving, Entering}
use Rattle.resolvo_graph.specs.declared.links.Links.{Links}
use Rattle.resolvo_graph.specs.declared.links.LinkedEdge.{LinkedEdge}
use Rattle.resolvo_graph.specs.Links.{end_on, is_at, link_on, links_of, no_links, edges_in, holds_at, newest_of, exchanged, linked_with_ends_moved, AreLinked}
use Rattle.resolvo_graph.proofs.LinkLemmas.{some_newest, any_either}
use Rattle.resolvo_graph.specs.Removal.{touches, has_edge_at, with_ends_moved, without_unresolved, unless_used, without_unused_unresolved}

only_unresolved : {S : Type 0} (n : ConflictNode S) → is_unresolved n ≡ true → n ≡ UnresolvedDependency
only_unresolved Root h = cc
only_unresolved (Solvable s) h = cc
only_unresolved UnresolvedDependency h = refl
only_unresolved (Excluded why) h = cc

-- the node at the found index is unresolved
found_at : {S : Type 0} (k : ℕ) (ns : List (ConflictNode S)) (i : NodeIndex) → first_unresolved k ns ≡ Some i → (j : ℕ) × (i.0 ≡ k + j) × (j < length ns) × (slice_get ns j ≡ Some UnresolvedDependency)
found_at k [] i h = cc
found_at {S} k (n ∷ ns) i h = go (is_unresolved n) refl h (found_at (k + 1) ns i)
  where
    go : (b : Bool) → is_unresolved n ≡ b → cond b (Some (record { 0 = k })) (first_unresolved (k + 1) ns) ≡ Some i → (first_unresolved (k + 1) ns ≡ Some i → (j : ℕ) × (i.0 ≡ (k + 1) + j) × (j < length ns) × (slice_get ns j ≡ Some UnresolvedDependency)) → (j : ℕ) × (i.0 ≡ k + j) × (j < length (n ∷ ns)) × (slice_get (n ∷ ns) j ≡ Some UnresolvedDependency)
    go true e f below =
        let same : k ≡ i.0 = cc in
        (0, omega arith, omega arith, ap Some (only_unresolved n e))
    go false e f below =
        let more = below f in
        let at : i.0 ≡ (k + 1) + more.0 = more.1 in
        let less : more.0 < length ns = more.2 in
        (suc more.0, omega arith, omega arith, more.3)

pub unresolved_at : {S : Type 0} (ns : List (ConflictNode S)) (i : NodeIndex) → first_unresolved 0 ns ≡ Some i → (i.0 < length ns) × (slice_get ns i.0 ≡ Some UnresolvedDependency)
unresolved_at ns i h =
    let at = found_at 0 ns i h in
    let place : at.0 ≡ i.0 = omega (arith, at.1) in
    let less : at.0 < length ns = at.2 in
    (omega arith, subst (λ j. slice_get ns j ≡ Some UnresolvedDependency) place at.3)

-- the first node stays, since another one is removed
pub root_stays : {S : Type 0} (ns : List (ConflictNode S)) (u : ℕ) → slice_get ns 0 ≡ Some Root → u < length ns → slice_get ns u ≡ Some UnresolvedDependency → slice_get (swap_remove ns u UnresolvedDependency) 0 ≡ Some Root
root_stays [] u h less k = absurd (omega arith)
root_stays (n ∷ ns) zero h less k = cc
root_stays (n ∷ []) (suc u) h less k = absurd (omega arith)
root_stays (n ∷ m ∷ ns) (suc u) h less k =
    let long : length (n ∷ m ∷ ns) - 1 ≡ suc (length ns) = omega arith in
    rw long h

below : (m x : ℕ) → x < m + 1 → (x ≡ m → ⊥) → x < m
below m x h apart = omega arith

-- the ends of an edge that doesn't touch the node are remaining nodes
moved_within : (m u x : ℕ) → u < m + 1 → x < m + 1 → (x == u) ≡ false → cond (x == m) u x < m
moved_within m u x h k apart = go (x == m) refl
  where
    go : (b : Bool) → (x == m) ≡ b → cond b u x < m
    go true e =
        let same : x ≡ m = eqb-true x m e in
        let other : x ≡ u → ⊥ = eqb-false x u apart in
        below m u h (λ k. other (same ∙ sym k))
    go false e =
        let other : x ≡ m → ⊥ = eqb-false x m e in
        below m x k other

or_first : (a b : Bool) → (a || b) ≡ false → a ≡ false
or_first true b h = cc
or_first false b h = refl

or_second : (a b : Bool) → (a || b) ≡ false → b ≡ false
or_second true b h = cc
or_second false b h = h

pub kept_within : {S : Type 0} (m u : ℕ) (es : List (Edge S)) → u < m + 1 → list_any (touches (record { 0 = u })) es ≡ false → All (λ e. (e.source.0 < m + 1) × (e.target.0 < m + 1)) es → All (λ e. (e.source.0 < m) × (e.target.0 < m)) (map (with_ends_moved m u) es)
kept_within m u [] h none within = All-nil (λ e. (e.source.0 < m) × (e.target.0 < m))
kept_within m u (e ∷ es) h none within =
    let here = or_first (touches (record { 0 = u }) e) (list_any (touches (record { 0 = u })) es) none in
    let own = All-head (λ d. (d.source.0 < m + 1) × (d.target.0 < m + 1)) e es within in
    All-cons (λ d. (d.source.0 < m) × (d.target.0 < m)) (with_ends_moved m u e) (map (with_ends_moved m u) es)
    (moved_within m u e.source.0 h own.0 (or_first (e.source.0 == u) (e.target.0 == u) here), moved_within m u e.target.0 h own.1 (or_second (e.source.0 == u) (e.target.0 == u) here))
    (kept_within m u es h (or_second (touches (record { 0 = u }) e) (list_any (touches (record { 0 = u })) es) none) (All-tail (λ d. (d.source.0 < m + 1) × (d.target.0 < m + 1)) e es within))

-- one more element is changed
set_step : {X : Type 0} (f : X → X) (xs : List X) (i : ℕ) (x : X) → i < length (map f (take i xs) ++ drop i xs) → x ≡ get_or (map f (take i xs) ++ drop i xs) i x → slice_set (map f (take i xs) ++ drop i xs) i (f x) ≡ map f (take (i + 1) xs) ++ drop (i + 1) xs
set_step f [] zero x less at = absurd (omega arith)
set_step f [] (suc i) x less at = absurd (omega arith)
set_step f (y ∷ ys) zero x less at = ap (λ z. f z ∷ ys) at
set_step f (y ∷ ys) (suc i) x less at =
    let more : suc i + 1 ≡ suc (i + 1) = omega arith in
    rw more (ap (λ zs. f y ∷ zs) (set_step f ys i x (omega arith) at))

pub changed_more : {X : Type 0} (f : X → X) (xs ys : List X) (i : ℕ) (x y : X) → ys ≡ map f (take i xs) ++ drop i xs → i < length ys → x ≡ get_or ys i x → y ≡ f x → slice_set ys i y ≡ map f (take (i + 1) xs) ++ drop (i + 1) xs
changed_more f xs ys i x y so less at is =
    ap (λ zs. slice_set zs i y) so ∙ ap (slice_set (map f (take i xs) ++ drop i xs) i) is ∙ set_step f xs i x (subst (λ zs. i < length zs) so less) (subst (λ zs. x ≡ get_or zs i x) so at)

pub of_some : {X : Type 0} (r : Option X) (P : X → Type 0) (x : X) → r ≡ Some x → IfSome r P → P x
of_some r P x e h = subst (λ o. IfSome o P) e h

length-left : {S : Type 0} (ns : List (ConflictNode S)) (u : ℕ) (x : ConflictNode S) → length (swap_remove ns u x) ≡ length ns - 1
length-left ns u x =
    let last = get_or ns (length ns - 1) x in
    let same : length (slice_set ns u last) ≡ length ns = length-set ns u last in
    omega (arith, length-take (length ns - 1) (slice_set ns u last))

module _ {S : Type 0} (g : Graph S) (u : NodeIndex) (keys : List (ConflictNode S)) (now : List (Edge S)) (last : ℕ) where
  last_is : keys ≡ swap_remove g.nodes u.0 UnresolvedDependency → last ≡ length keys → last ≡ length g.nodes - 1
  last_is left long = long ∙ ap length left ∙ length-left g.nodes u.0 UnresolvedDependency

  pub earlier : unresolved_of g ≡ Some u → keys ≡ swap_remove g.nodes u.0 UnresolvedDependency → last ≡ length keys → u.0 ≤ last
  earlier found left long =
      let less : u.0 < length g.nodes = (unresolved_at g.nodes u found).0 in
      let is : last ≡ length g.nodes - 1 = last_is left long in
      omega arith

  -- the code agrees with the definition
  pub removes : unresolved_of g ≡ Some u → has_edge_at g u ≡ false → keys ≡ swap_remove g.nodes u.0 UnresolvedDependency → last ≡ length keys → now ≡ map (with_ends_moved last u.0) g.edges → record { nodes = keys; edges = now } ≡ without_unused_unresolved g
  removes found unused left long put =
      let whole : without_unused_unresolved g ≡ without_unresolved g u = ap (unless_used g) found ∙ ap (λ b. cond b g (without_unresolved g u)) unused in
      let edges : now ≡ map (with_ends_moved (length g.nodes - 1) u.0) g.edges = put ∙ ap (λ k. map (with_ends_moved k u.0) g.edges) (last_is left long) in
      ap (λ ns. record { nodes = ns; edges = now }) left ∙ ap (λ es. record { nodes = swap_remove g.nodes u.0 UnresolvedDependency; edges = es }) edges ∙ sym whole

  -- the invariant of graphs holds
  pub keeps : unresolved_of g ≡ Some u → has_edge_at g u ≡ false → keys ≡ swap_remove g.nodes u.0 UnresolvedDependency → last ≡ length keys → now ≡ map (with_ends_moved last u.0) g.edges → (slice_get g.nodes 0 ≡ Some Root) × All (IsWithin g.nodes) g.edges → (slice_get keys 0 ≡ Some Root) × All (IsWithin keys) now
  keeps found unused left long put was =
      let at = unresolved_at g.nodes u found in
      let less : u.0 < length g.nodes = at.0 in
      let is : last ≡ length g.nodes - 1 = last_is left long in
      let whole : length g.nodes ≡ last + 1 = omega arith in
      let first : slice_get keys 0 ≡ Some Root = ap (λ ns. slice_get ns 0) left ∙ root_stays g.nodes u.0 was.0 at.0 at.1 in
      let ours : All (λ e. (e.source.0 < last + 1) × (e.target.0 < last + 1)) g.edges = subst (λ k. All (λ e. (e.source.0 < k) × (e.target.0 < k)) g.edges) whole was.1 in
      let moved_ones : All (λ e. (e.source.0 < last) × (e.target.0 < last)) (map (with_ends_moved last u.0) g.edges) = kept_within last u.0 g.edges (omega arith) unused ours in
      (first, subst (λ k. All (λ e. (e.source.0 < k) × (e.target.0 < k)) now) long (subst (λ es. All (λ e. (e.source.0 < last) × (e.target.0 < last)) es) (sym put) moved_ones))

none_of : {X : Type 0} (p : X → Bool) (xs : List X) → list_any p xs ≡ false → (i : ℕ) (x : X) → slice_get xs i ≡ Some x → p x ≡ false
none_of p [] none i x at = cc
none_of p (y ∷ ys) none zero x at =
    let same : y ≡ x = cc in
    ap p (sym same) ∙ or_first (p y) (list_any p ys) none
none_of p (y ∷ ys) none (suc i) x at = none_of p ys (or_second (p y) (list_any p ys) none) i x at

some_of : {X Y : Type 0} (f : X → Y) (o : Option X) (y : Y) → option_map f o ≡ Some y → (x : X) × (o ≡ Some x) × (f x ≡ y)
some_of f None y h = cc
some_of f (Some x) y h = (x, refl, cc)

newest_of-map : {S : Type 0} (p q : Edge S → Bool) (f : Edge S → Edge S) (es : List (Edge S)) → ((i : ℕ) (e : Edge S) → slice_get es i ≡ Some e → q (f e) ≡ p e) → (n : ℕ) → newest_of q (map f es) n ≡ newest_of p es n
newest_of-map p q f es same zero = refl
newest_of-map {S} p q f es same (suc n) =
    ap (λ b. cond b (Some (record { 0 = n })) (newest_of q (map f es) n)) (ap (λ o. option_map_or q o false) (slice_get-map f es n) ∙ go (slice_get es n) refl)
    ∙ ap (cond (holds_at p es n) (Some (record { 0 = n }))) (newest_of-map p q f es same n)
  where
    go : (o : Option (Edge S)) → slice_get es n ≡ o → option_map_or q (option_map f o) false ≡ option_map_or p o false
    go None at = refl
    go (Some e) at = same n e at

at_moved : (m u x n : ℕ) → (x ≡ u → ⊥) → (cond (x == m) u x == n) ≡ (x == exchanged u m n)
at_moved m u x n apart = grind (arith, nat_tests)

same_moved : (m u x y : ℕ) → (x ≡ u → ⊥) → (y ≡ u → ⊥) → (cond (x == m) u x == cond (y == m) u y) ≡ (x == y)
same_moved m u x y apart other = grind (arith, nat_tests)

pub edges_in-moved : {S : Type 0} (m u : ℕ) (edges : List (LinkedEdge S)) → edges_in (map (linked_with_ends_moved m u) edges) ≡ map (with_ends_moved m u) (edges_in edges)
edges_in-moved m u [] = refl
edges_in-moved m u (l ∷ ls) = ap (λ es. with_ends_moved m u l.edge ∷ es) (edges_in-moved m u ls)

-- a node without edges gets the links and the edges of another one
module _ {S : Type 0} (newest : List Links) (edges : List (LinkedEdge S)) (linked : AreLinked newest edges) (u m : ℕ) (unused : list_any (touches (record { 0 = u })) (edges_in edges) ≡ false) where
  untouched : (side : Side) (i : ℕ) (e : Edge S) → slice_get (edges_in edges) i ≡ Some e → (end_on side e).0 ≡ u → ⊥
  untouched side i e at = eqb-false (end_on side e).0 u (go side (none_of (touches (record { 0 = u })) (edges_in edges) unused i e at))
    where
      go : (s : Side) → touches (record { 0 = u }) e ≡ false → ((end_on s e).0 == u) ≡ false
      go Leaving h = or_first (e.source.0 == u) (e.target.0 == u) h
      go Entering h = or_second (e.source.0 == u) (e.target.0 == u) h

  end_moved : (side : Side) (e : Edge S) → (end_on side (with_ends_moved m u e)).0 ≡ cond ((end_on side e).0 == m) u (end_on side e).0
  end_moved Leaving e = refl
  end_moved Entering e = refl

  pub unlinked : links_of newest u ≡ no_links
  unlinked =
      let parts = any_either (is_at {S = S} Leaving (record { 0 = u })) (is_at Entering (record { 0 = u })) (edges_in edges) in
      let one : list_any (is_at {S = S} Leaving (record { 0 = u })) (edges_in edges) ≡ false = or_first _ _ (sym parts ∙ unused) in
      let two : list_any (is_at {S = S} Entering (record { 0 = u })) (edges_in edges) ≡ false = or_second (list_any (is_at {S = S} Leaving (record { 0 = u })) (edges_in edges)) _ (sym parts ∙ unused) in
      ap (λ a. record { leaving = a; entering = (links_of newest u).entering }) (linked.newest_are Leaving u ∙ none (is_at Leaving (record { 0 = u })) one)
      ∙ ap (λ b. record { leaving = None; entering = b }) (linked.newest_are Entering u ∙ none (is_at Entering (record { 0 = u })) two)
    where
      absent : (o : Option EdgeIndex) → is_some o ≡ false → o ≡ None
      absent None h = refl
      absent (Some i) h = cc

      none : (p : Edge S → Bool) → list_any p (edges_in edges) ≡ false → newest_of p (edges_in edges) (length (edges_in edges)) ≡ None
      none p h = absent (newest_of p (edges_in edges) (length (edges_in edges))) (some_newest p (edges_in edges) (length (edges_in edges)) (omega arith) ∙ ap (list_any p) (take_all (length (edges_in edges)) (edges_in edges) (omega arith)) ∙ h)

  module _ (now : List Links) (put : (n : ℕ) → links_of now n ≡ links_of newest (exchanged u m n)) where
    newest_is : (side : Side) (n : ℕ) → link_on side (links_of now n) ≡ newest_of (is_at side (record { 0 = n })) (map (with_ends_moved m u) (edges_in edges)) (length (map (with_ends_moved m u) (edges_in edges)))
    newest_is side n =
        ap (link_on side) (put n) ∙ linked.newest_are side (exchanged u m n)
        ∙ sym (newest_of-map (is_at side (record { 0 = exchanged u m n })) (is_at side (record { 0 = n })) (with_ends_moved m u) (edges_in edges) (λ i e at. ap (λ k. k == n) (end_moved side e) ∙ at_moved m u (end_on side e).0 n (untouched side i e at)) (length (edges_in edges)))
        ∙ ap (newest_of (is_at side (record { 0 = n })) (map (with_ends_moved m u) (edges_in edges))) (sym (length-map (edges_in edges) (with_ends_moved m u)))

    older_is : (side : Side) (i : ℕ) (l : LinkedEdge S) → slice_get edges i ≡ Some l → link_on side l.older ≡ newest_of (is_at side (end_on side (with_ends_moved m u l.edge))) (map (with_ends_moved m u) (edges_in edges)) i
    older_is side i l at =
        let here : slice_get (edges_in edges) i ≡ Some l.edge = slice_get-map (λ (k : LinkedEdge S). k.edge) edges i ∙ ap (option_map (λ (k : LinkedEdge S). k.edge)) at in
        linked.older_are side i l at
        ∙ sym (newest_of-map (is_at side (end_on side l.edge)) (is_at side (end_on side (with_ends_moved m u l.edge))) (with_ends_moved m u) (edges_in edges) (λ j e there. ap (λ k. k == (end_on side (with_ends_moved m u l.edge)).0) (end_moved side e) ∙ ap (λ k. cond ((end_on side e).0 == m) u (end_on side e).0 == k) (end_moved side l.edge) ∙ same_moved m u (end_on side e).0 (end_on side l.edge).0 (untouched side j e there) (untouched side i l.edge here)) i)

    pub linked_moved : AreLinked now (map (linked_with_ends_moved m u) edges)
    linked_moved = record {
      newest_are = λ side n. newest_is side n ∙ ap (λ es. newest_of (is_at side (record { 0 = n })) es (length es)) (sym (edges_in-moved m u edges));
      older_are = λ side i l at.
          let from = some_of (linked_with_ends_moved m u) (slice_get edges i) l (sym (slice_get-map (linked_with_ends_moved m u) edges i) ∙ at) in
          subst (λ (k : LinkedEdge S). link_on side k.older ≡ newest_of (is_at side (end_on side k.edge)) (edges_in (map (linked_with_ends_moved m u) edges)) i) from.2
          (older_is side i from.0 from.1 ∙ ap (λ es. newest_of (is_at side (end_on side (with_ends_moved m u from.0.edge))) es i) (sym (edges_in-moved m u edges)));
    }
