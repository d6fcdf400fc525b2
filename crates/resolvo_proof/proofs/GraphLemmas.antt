-- Nodes keep their indices where others are added, and so do the edges of links.
use Rattle.std.proofs.Common.{◌≡◌, ℕ, ◌+◌, ◌<◌, ◌≤◌, Bool, true, false, cond, eqb, List, [], ◌∷◌, ◌++◌, map, length, Option, Some, None, refl, sym, ap, subst, ◌∙◌, arith, length-append, inl, inr}
use Rattle.std.specs.Prelude.{◌||◌, Contains}
use Rattle.std.specs.List.{list_any, flat_map, position_or_len}
use Rattle.std.specs.Option.{option_to_list}
use Rattle.std.proofs.lemmas.Bool.{or_left, or_right, ne_eqb, eqb-true}
use Rattle.std.proofs.lemmas.List.{append-nil}
use Rattle.std.proofs.lemmas.List.Folds.{list_any-append, position_or_len_push}
use Rattle.std.proofs.lemmas.Grind.{fold-append, flat_map-append}
use Rattle.indexmap.specs.IndexSet.{insert_key, insert_all}
use Rattle.resolvo_sat.proofs.Lists.{contains_none, contains_cases}
use Rattle.resolvo_graph.specs.declared.graph.NodeIndex.{NodeIndex}
use Rattle.resolvo_graph.specs.declared.graph.ConflictNode.{ConflictNode}
use Rattle.resolvo_graph.specs.declared.graph.ConflictNode.TheVariants.{Root, Solvable, UnresolvedDependency, Excluded}
use Rattle.resolvo_graph.specs.declared.graph.ConflictEdge.{ConflictEdge}
use Rattle.resolvo_graph.specs.declared.graph.Edge.{Edge}
use Rattle.resolvo_proof.specs.declared.link.Link.{Link}
use Rattle.resolvo_proof.specs.Tests.{same_node}
use Rattle.resolvo_proof.specs.Links.{source_of, target_of, weight_of, ends_of}
use Rattle.resolvo_proof.specs.Draw.{nodes_of, index_among, edge_from, edges_in}

-- a key that is found is before the end
pub position_within : {X : Type 0} (p : X → Bool) (xs : List X) → list_any p xs ≡ true → position_or_len p xs < length xs
position_within p [] h = cc
position_within {X} p (x ∷ xs) h = by (p x) refl (position_within p xs)
  where
    by : (b : Bool) → p x ≡ b → (list_any p xs ≡ true → position_or_len p xs < length xs) → position_or_len p (x ∷ xs) < length (x ∷ xs)
    by true e below = rw e (omega arith)
    by false e below =
        let there : list_any p xs ≡ true = sym (ap (λ b. b || list_any p xs) e) ∙ h in
        let rest : position_or_len p xs < length xs = below there in
        rw e (omega arith)

module _ {K : Type 0} (eq : K → K → Bool) (own : (k : K) → eq k k ≡ true) where
  -- the key is among these
  abbrev pub Has : List K → K → Type 0
  Has ks k = list_any (eq k) ks ≡ true

  has-push : (ks : List K) (m k : K) → Has ks k → Has (ks ++ m ∷ []) k
  has-push ks m k h = list_any-append (eq k) ks (m ∷ []) ∙ or_left (list_any (eq k) ks) (list_any (eq k) (m ∷ [])) h

  pub has-insert_key : (ks : List K) (m k : K) → Has ks k → Has (insert_key eq ks m) k
  has-insert_key ks m k h = by (list_any (eq m) ks)
    where
      by : (b : Bool) → Has (cond b ks (ks ++ m ∷ [])) k
      by true = h
      by false = has-push ks m k h

  pub has_inserted : (ks : List K) (k : K) → Has (insert_key eq ks k) k
  has_inserted ks k = by (list_any (eq k) ks) refl
    where
      by : (b : Bool) → list_any (eq k) ks ≡ b → Has (cond b ks (ks ++ k ∷ [])) k
      by true e = e
      by false e = list_any-append (eq k) ks (k ∷ []) ∙ or_right (list_any (eq k) ks) (eq k k || false) (or_left (eq k k) false (own k))

  -- a key that is there keeps its place
  pub position-insert_key : (ks : List K) (m k : K) → Has ks k → position_or_len (eq k) (insert_key eq ks m) ≡ position_or_len (eq k) ks
  position-insert_key ks m k h = by (list_any (eq m) ks)
    where
      by : (b : Bool) → position_or_len (eq k) (cond b ks (ks ++ m ∷ [])) ≡ position_or_len (eq k) ks
      by true = refl
      by false =
          let within : position_or_len (eq k) ks < length ks = position_within (eq k) ks h in
          position_or_len_push (eq k) ks m ∙ ap (λ b. cond b (length ks + cond (eq k m) 0 1) (position_or_len (eq k) ks)) (ne_eqb (position_or_len (eq k) ks) (length ks) (λ e. omega (arith, within, e)))

  -- the place of an inserted key is that of the first equal one, or the end
  pub position_inserted : (ks : List K) (k : K) → position_or_len (eq k) (insert_key eq ks k) ≡ position_or_len (eq k) ks
  position_inserted ks k = by (list_any (eq k) ks)
    where
      last : (n : ℕ) (b : Bool) → eqb (position_or_len (eq k) ks) (length ks) ≡ b → cond b (length ks + 0) (position_or_len (eq k) ks) ≡ position_or_len (eq k) ks
      last n true e = let at : position_or_len (eq k) ks ≡ length ks = eqb-true (position_or_len (eq k) ks) (length ks) e in omega (arith, at)
      last n false e = refl

      by : (b : Bool) → position_or_len (eq k) (cond b ks (ks ++ k ∷ [])) ≡ position_or_len (eq k) ks
      by true = refl
      by false = position_or_len_push (eq k) ks k ∙ ap (λ c. cond (eqb (position_or_len (eq k) ks) (length ks)) (length ks + cond c 0 1) (position_or_len (eq k) ks)) (own k) ∙ last 0 (eqb (position_or_len (eq k) ks) (length ks)) refl

  pub has-insert_all : (ks ms : List K) (k : K) → Has ks k → Has (insert_all eq ks ms) k
  has-insert_all ks [] k h = h
  has-insert_all ks (m ∷ ms) k h = has-insert_all (insert_key eq ks m) ms k (has-insert_key ks m k h)

  pub position-insert_all : (ks ms : List K) (k : K) → Has ks k → position_or_len (eq k) (insert_all eq ks ms) ≡ position_or_len (eq k) ks
  position-insert_all ks [] k h = refl
  position-insert_all ks (m ∷ ms) k h = position-insert_all (insert_key eq ks m) ms k (has-insert_key ks m k h) ∙ position-insert_key ks m k h

  -- each of these keys is among those
  abbrev pub HasAll : List K → List K → Type 0
  HasAll ks [] = Unit {0}
  HasAll ks (m ∷ ms) = Has ks m × HasAll ks ms

  pub has_all_inserted : (ks ms : List K) → HasAll (insert_all eq ks ms) ms
  has_all_inserted ks [] = tt
  has_all_inserted ks (m ∷ ms) = (has-insert_all (insert_key eq ks m) ms m (has_inserted ks m), has_all_inserted (insert_key eq ks m) ms)

  pub has_all_left : (ks xs ys : List K) → HasAll ks (xs ++ ys) → HasAll ks xs
  has_all_left ks [] ys h = tt
  has_all_left ks (x ∷ xs) ys h = (h.0, has_all_left ks xs ys h.1)

  pub has_all_right : (ks xs ys : List K) → HasAll ks (xs ++ ys) → HasAll ks ys
  has_all_right ks [] ys h = h
  has_all_right ks (x ∷ xs) ys h = has_all_right ks xs ys h.1

  pub has_all-at : (ks ms : List K) (m : K) → HasAll ks ms → Contains ms m → Has ks m
  has_all-at ks [] m h c = absurd (contains_none m c)
  has_all-at ks (x ∷ xs) m h c = elim (contains_cases m x xs c) [
    | inl e ↦ subst (Has ks) (sym e) h.0
    | inr later ↦ has_all-at ks xs m h.1 later
  ]

own_node : {S : Type 0} (same : S → S → Bool) → ((s : S) → same s s ≡ true) → (n : ConflictNode S) → same_node same n n ≡ true
own_node same own Root = refl
own_node same own (Solvable s) = own s
own_node same own UnresolvedDependency = refl
own_node same own (Excluded why) = grind arith

module _ {S : Type 0} (same : S → S → Bool) (own : (s : S) → same s s ≡ true) where
  abbrev pub test : ConflictNode S → ConflictNode S → Bool
  test = same_node same

  pub own_test : (n : ConflictNode S) → same_node same n n ≡ true
  own_test = own_node same own

  -- the edge of a link is kept where more nodes are added
  edges_stay_at : (nodes more : List (ConflictNode S)) (l : Link S) → HasAll (same_node same) own_test nodes (ends_of l) → edges_in same nodes l ≡ edges_in same (insert_all (same_node same) nodes more) l
  edges_stay_at nodes more l h = by (source_of l) h
    where
      place : (n : ConflictNode S) → Has (same_node same) own_test nodes n → index_among same nodes n ≡ index_among same (insert_all (same_node same) nodes more) n
      place n k = ap (λ (i : ℕ). record { 0 = i }) (sym (position-insert_all (same_node same) own_test nodes more n k))

      by : (o : Option (ConflictNode S)) → HasAll (same_node same) own_test nodes (option_to_list o ++ target_of l ∷ []) → map (edge_from same nodes l) (option_to_list o) ≡ map (edge_from same (insert_all (same_node same) nodes more) l) (option_to_list o)
      by None k = refl
      by (Some s) k = λ i. (let e : Edge S = record { source = place s k.0 i; target = place (target_of l) k.1.0 i; weight = weight_of l } in e) ∷ []

  pub edges_stay : (nodes more : List (ConflictNode S)) (links : List (Link S)) → HasAll (same_node same) own_test nodes (flat_map ends_of links) → flat_map (edges_in same nodes) links ≡ flat_map (edges_in same (insert_all (same_node same) nodes more)) links
  edges_stay nodes more [] h = refl
  edges_stay nodes more (l ∷ ls) h = λ i. edges_stay_at nodes more l (has_all_left (same_node same) own_test nodes (ends_of l) (flat_map ends_of ls) h) i ++ edges_stay nodes more ls (has_all_right (same_node same) own_test nodes (ends_of l) (flat_map ends_of ls) h) i

  -- the nodes and the edges of one more link
  pub nodes_push : (links : List (Link S)) (l : Link S) → nodes_of same (links ++ l ∷ []) ≡ insert_all (same_node same) (nodes_of same links) (ends_of l)
  nodes_push links l =
      ap (insert_all (same_node same) (Root ∷ UnresolvedDependency ∷ [])) (flat_map-append ends_of links (l ∷ []) ∙ ap (λ xs. flat_map ends_of links ++ xs) (append-nil (ends_of l)))
      ∙ fold-append (insert_key (same_node same)) (Root ∷ UnresolvedDependency ∷ []) (flat_map ends_of links) (ends_of l)

  pub edges_push : (links : List (Link S)) (l : Link S) (nodes new : List (ConflictNode S)) (edges more : List (Edge S)) → nodes ≡ nodes_of same links → new ≡ insert_all (same_node same) nodes (ends_of l) → edges ≡ flat_map (edges_in same nodes) links → more ≡ edges ++ edges_in same new l
      → more ≡ flat_map (edges_in same new) (links ++ l ∷ [])
  edges_push links l nodes new edges more known grown had put =
      let there : HasAll (same_node same) own_test nodes (flat_map ends_of links) = subst (λ ns. HasAll (same_node same) own_test ns (flat_map ends_of links)) (sym known) (has_all_inserted (same_node same) own_test (Root ∷ UnresolvedDependency ∷ []) (flat_map ends_of links)) in
      put ∙ ap (λ es. es ++ edges_in same new l) (had ∙ edges_stay nodes (ends_of l) links there ∙ ap (λ ns. flat_map (edges_in same ns) links) (sym grown))
      ∙ sym (flat_map-append (edges_in same new) links (l ∷ []) ∙ ap (λ xs. flat_map (edges_in same new) links ++ xs) (append-nil (edges_in same new l)))

  -- the nodes and the edge of a link that begins at a node
  pub drawn_nodes : (old n1 n2 : List (ConflictNode S)) (l : Link S) (s t : ConflictNode S) → source_of l ≡ Some s → t ≡ target_of l → n1 ≡ insert_key (same_node same) old s → n2 ≡ insert_key (same_node same) n1 t → n2 ≡ insert_all (same_node same) old (ends_of l)
  drawn_nodes old n1 n2 l s t at to first second =
      second ∙ (λ i. insert_key (same_node same) (first i) (to i)) ∙ ap (λ o. insert_all (same_node same) old (option_to_list o ++ target_of l ∷ [])) (sym at)

  pub drawn_node : (old n1 : List (ConflictNode S)) (l : Link S) (t : ConflictNode S) → source_of l ≡ None → t ≡ target_of l → n1 ≡ insert_key (same_node same) old t → n1 ≡ insert_all (same_node same) old (ends_of l)
  drawn_node old n1 l t at to first =
      first ∙ ap (insert_key (same_node same) old) to ∙ ap (λ o. insert_all (same_node same) old (option_to_list o ++ target_of l ∷ [])) (sym at)

  pub drawn_edge : (old n1 n2 : List (ConflictNode S)) (l : Link S) (s t : ConflictNode S) (i j : NodeIndex) (w : ConflictEdge S) → source_of l ≡ Some s → t ≡ target_of l → n1 ≡ insert_key (same_node same) old s → n2 ≡ insert_key (same_node same) n1 t
      → i ≡ index_among same n1 s → j ≡ index_among same n2 t → w ≡ weight_of l → (let e : Edge S = record { source = i; target = j; weight = w } in e) ∷ [] ≡ edges_in same n2 l
  drawn_edge old n1 n2 l s t i j w at to first second from into is_true =
      let there : Has (same_node same) own_test n1 s = subst (λ ns. Has (same_node same) own_test ns s) (sym first) (has_inserted (same_node same) own_test old s) in
      let stays : position_or_len (same_node same s) n1 ≡ position_or_len (same_node same s) n2 = sym (ap (position_or_len (same_node same s)) second ∙ position-insert_key (same_node same) own_test n1 t s there) in
      let begins : i ≡ index_among same n2 s = from ∙ ap (λ (k : ℕ). record { 0 = k }) stays in
      (λ k. (let e : Edge S = record { source = begins k; target = (into ∙ ap (index_among same n2) to) k; weight = is_true k } in e) ∷ [])
      ∙ ap (λ o. map (edge_from same n2 l) (option_to_list o)) (sym at)

  pub longer : (nodes : List (ConflictNode S)) (n : ConflictNode S) → length nodes ≤ length (insert_key (same_node same) nodes n)
  longer nodes n = by (list_any (same_node same n) nodes)
    where
      by : (b : Bool) → length nodes ≤ length (cond b nodes (nodes ++ n ∷ []))
      by true = omega arith
      by false = rw (length-append nodes (n ∷ [])) (omega arith)
