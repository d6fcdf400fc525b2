-- The edges of true links are true, and stay so where the unused node is removed.
use Rattle.std.proofs.Common.{◌≡◌, ℕ, ◌+◌, ◌-◌, ◌<◌, Bool, true, false, cond, List, [], ◌∷◌, map, length, set, get_or, All, Contains, Option, Some, None, refl, sym, ap, subst, ◌∙◌, arith, inl, inr, slice_get}
use Rattle.std.specs.Prelude.{◌==◌, swap_remove}
use Rattle.std.specs.List.{list_any, flat_map, filter_map, cons_option, position_or_len}
use Rattle.std.proofs.lemmas.Bool.{eqb-true, eqb-false, or_parts, both_ways}
use Rattle.std.proofs.lemmas.List.{length-take, length-set, get_or-take, get_or-set_same, get_or-set_other}
use Rattle.std.proofs.lemmas.List.Sums.{passes_at_first}
use Rattle.std.proofs.lemmas.List.Elements.{All-nil, All-cons, All-head, All-tail, All-append, All-contains}
use Rattle.std.proofs.lemmas.Option.{same_Some, slice_get-get_or, slice_get_within, get_or_from_slice_get}
use Rattle.resolvo_pool_core.specs.declared.id.ConditionId.{ConditionId}
use Rattle.resolvo_pool_core.specs.declared.requirement.Requirement.{Requirement}
use Rattle.resolvo_pool_core.specs.RuleKeeping.{Packages, Rules}
use Rattle.resolvo_sat.specs.RuleClauses.{Atom, IsExact, IsRule, same_requirement}
use Rattle.resolvo_sat.proofs.Lists.{any_contained, contains_none, contains_cases, contains_first, contains_later}
use Rattle.resolvo_sat.proofs.Members.{same_requirement_true, same_requirement-self}
use Rattle.resolvo_graph.specs.declared.graph.NodeIndex.{NodeIndex}
use Rattle.resolvo_graph.specs.declared.graph.ConflictNode.{ConflictNode}
use Rattle.resolvo_graph.specs.declared.graph.ConflictNode.TheVariants.{Root, Solvable, UnresolvedDependency, Excluded}
use Rattle.resolvo_graph.specs.declared.graph.Edge.{Edge}
use Rattle.resolvo_graph.specs.Graph.{Graph, unresolved_of}
use Rattle.resolvo_graph.specs.Removal.{touches, has_edge_at, with_ends_moved, without_unresolved, unless_used, without_unused_unresolved}
use Rattle.resolvo_graph.proofs.RemovalLemmas.{unresolved_at}
use Rattle.resolvo_proof.specs.declared.step.ProofRule.{ProofRule}
use Rattle.resolvo_proof.specs.declared.step.ProofStep.{ProofStep}
use Rattle.resolvo_proof.specs.declared.step.ProofStep.TheVariants.{Rule, Derived}
use Rattle.resolvo_proof.specs.Proof.{IsProof}
use Rattle.resolvo_proof.specs.Steps.{rule_under}
use Rattle.resolvo_proof.specs.declared.link.Link.{Link}
use Rattle.resolvo_proof.specs.declared.link.Link.TheVariants as Links
use Rattle.resolvo_proof.specs.Order.{rule_in, named_by, conflict_order, conflict_rules, requirements_in}
use Rattle.resolvo_proof.specs.Tests.{same_node}
use Rattle.resolvo_proof.specs.Links.{parent_node, target_of, weight_of, ends_of}
use Rattle.resolvo_proof.specs.LinkRules.{all_links, each_limit_once}
use Rattle.resolvo_proof.specs.Draw.{nodes_of, edge_from, edges_in, drawn, conflict_drawing}
use Rattle.resolvo_proof.specs.Truth.{IsTrue, IsTrueEdge, IsTrueGraph, IsTrueConflictGraph}
use Rattle.resolvo_proof.proofs.GraphLemmas.{position_within, Has, HasAll, has_all_inserted, has_all_left, has_all_right, has_all-at, own_test}
use Rattle.resolvo_proof.proofs.TruthLemmas.{AreRules, AreNamed, IsTrueLink, all_filter_map, all_true, kept_true}

-- equal nodes are one node
one_node : {S : Type 0} (same : S → S → Bool) → IsExact same → (m n : ConflictNode S) → same_node same m n ≡ true → m ≡ n
one_node same exact Root Root h = refl
one_node same exact Root (Solvable t) h = absurd (both_ways false refl h)
one_node same exact Root UnresolvedDependency h = absurd (both_ways false refl h)
one_node same exact Root (Excluded w) h = absurd (both_ways false refl h)
one_node same exact (Solvable s) Root h = absurd (both_ways false refl h)
one_node same exact (Solvable s) (Solvable t) h = ap Solvable (exact.one s t h)
one_node same exact (Solvable s) UnresolvedDependency h = absurd (both_ways false refl h)
one_node same exact (Solvable s) (Excluded w) h = absurd (both_ways false refl h)
one_node same exact UnresolvedDependency Root h = absurd (both_ways false refl h)
one_node same exact UnresolvedDependency (Solvable t) h = absurd (both_ways false refl h)
one_node same exact UnresolvedDependency UnresolvedDependency h = refl
one_node same exact UnresolvedDependency (Excluded w) h = absurd (both_ways false refl h)
one_node same exact (Excluded v) Root h = absurd (both_ways false refl h)
one_node same exact (Excluded v) (Solvable t) h = absurd (both_ways false refl h)
one_node same exact (Excluded v) UnresolvedDependency h = absurd (both_ways false refl h)
one_node same exact (Excluded v) (Excluded w) h = ap (λ (n : ℕ). Excluded (record { 0 = n })) (eqb-true v.0 w.0 h)

module _ {N S : Type 0} (same_name : N → N → Bool) (names : IsExact same_name) (same : S → S → Bool) (exact : IsExact same) (name_of : S → N) (p : Packages N S) (root : Rules) (of : (s : S) → p.package_of s ≡ name_of s) where
  abbrev IsLinkTrue : Link S → Type 0
  IsLinkTrue l = IsTrueLink same_name names same exact name_of p root of l

  node_at : (nodes : List (ConflictNode S)) (n : ConflictNode S) → Has (same_node same) (own_test same exact.own) nodes n → slice_get nodes (position_or_len (same_node same n) nodes) ≡ Some n
  node_at nodes n h =
      let within = position_within (same_node same n) nodes h in
      slice_get-get_or nodes (position_or_len (same_node same n) nodes) n within ∙ ap Some (sym (one_node same exact n (get_or nodes (position_or_len (same_node same n) nodes) n) (passes_at_first (same_node same n) nodes n within)))

  edge_true : (nodes : List (ConflictNode S)) (l : Link S) (s : ConflictNode S) → Has (same_node same) (own_test same exact.own) nodes s → Has (same_node same) (own_test same exact.own) nodes (target_of l) → IsTrue same p root (weight_of l) s (target_of l) → All (IsTrueEdge same p root nodes) (edge_from same nodes l s ∷ [])
  edge_true nodes l s a b is_true =
      All-cons (IsTrueEdge same p root nodes) (edge_from same nodes l s) [] (record { source = s; target = target_of l; from = node_at nodes s a; to = node_at nodes (target_of l) b; is_true = is_true }) (All-nil (IsTrueEdge same p root nodes))

  link_edges : (nodes : List (ConflictNode S)) (l : Link S) → HasAll (same_node same) (own_test same exact.own) nodes (ends_of l) → IsLinkTrue l → All (IsTrueEdge same p root nodes) (edges_in same nodes l)
  link_edges nodes (Links.Excluded s why) h k = edge_true nodes (Links.Excluded s why) (Solvable s) h.0 h.1.0 (s, why, refl, refl, k)
  link_edges nodes (Links.Requires parent q None) h k = edge_true nodes (Links.Requires parent q None) (parent_node parent) h.0 h.1.0 (record { parent = parent; from = refl; asks = k.0; to = inr (refl, k.1) })
  link_edges nodes (Links.Requires parent q (Some t)) h k = edge_true nodes (Links.Requires parent q (Some t)) (parent_node parent) h.0 h.1.0 (record { parent = parent; from = refl; asks = k.0; to = inl (t, refl, k.1) })
  link_edges nodes (Links.Locked locked s) h k = edge_true nodes (Links.Locked locked s) Root h.0 h.1.0 (s, refl, refl, k)
  link_edges nodes (Links.Instance None s) h k = All-nil (IsTrueEdge same p root nodes)
  link_edges nodes (Links.Instance (Some b) s) h k = edge_true nodes (Links.Instance (Some b) s) (Solvable b) h.0 h.1.0 (b, s, refl, refl, k)
  link_edges nodes (Links.Constrains parent v s) h k = edge_true nodes (Links.Constrains parent v s) (parent_node parent) h.0 h.1.0 (parent, s, refl, refl, k.0, k.1)

  all_edges : (nodes : List (ConflictNode S)) (links : List (Link S)) → HasAll (same_node same) (own_test same exact.own) nodes (flat_map ends_of links) → All IsLinkTrue links → All (IsTrueEdge same p root nodes) (flat_map (edges_in same nodes) links)
  all_edges nodes [] h k = All-nil (IsTrueEdge same p root nodes)
  all_edges nodes (l ∷ ls) h k =
      All-append (IsTrueEdge same p root nodes) (edges_in same nodes l) (flat_map (edges_in same nodes) ls)
      (link_edges nodes l (has_all_left (same_node same) (own_test same exact.own) nodes (ends_of l) (flat_map ends_of ls) h) (All-head IsLinkTrue l ls k))
      (all_edges nodes ls (has_all_right (same_node same) (own_test same exact.own) nodes (ends_of l) (flat_map ends_of ls) h) (All-tail IsLinkTrue l ls k))

  pub drawn_true : (links : List (Link S)) → All IsLinkTrue links → IsTrueGraph same p root (drawn same links)
  drawn_true links k = all_edges (nodes_of same links) links (has_all_inserted (same_node same) (own_test same exact.own) (Root ∷ UnresolvedDependency ∷ []) (flat_map ends_of links)) k

below : (u x m : ℕ) → u < m + 1 → x ≡ m → (x ≡ u → ⊥) → u < m
below u x m l e apart = omega arith

under : (x n : ℕ) → x < n → (x ≡ n - 1 → ⊥) → x < n - 1
under x n l apart = omega arith

-- a node that is not the removed one is found at its new index
moved_node : {S : Type 0} (nodes : List (ConflictNode S)) (u x : ℕ) (n : ConflictNode S) → u < length nodes → slice_get nodes x ≡ Some n → (x == u) ≡ false → slice_get (swap_remove nodes u UnresolvedDependency) (cond (x == (length nodes - 1)) u x) ≡ Some n
moved_node nodes u x n l at apart = by (x == (length nodes - 1)) refl
  where
    within : x < length nodes
    within = slice_get_within nodes x n at

    by : (b : Bool) → (x == (length nodes - 1)) ≡ b → slice_get (swap_remove nodes u UnresolvedDependency) (cond b u x) ≡ Some n
    by true e =
        let last = get_or nodes (length nodes - 1) UnresolvedDependency in
        let same : x ≡ length nodes - 1 = eqb-true x (length nodes - 1) e in
        let low : u < length nodes - 1 = below u x (length nodes - 1) (omega arith) same (eqb-false x u apart) in
        let there : u < length (swap_remove nodes u UnresolvedDependency) = rw (length-take (length nodes - 1) (set nodes u last), length-set nodes u last) (omega arith) in
        slice_get-get_or (swap_remove nodes u UnresolvedDependency) u UnresolvedDependency there
        ∙ ap Some (get_or-take (length nodes - 1) (set nodes u last) u UnresolvedDependency low ∙ get_or-set_same nodes u last UnresolvedDependency l ∙ get_or_from_slice_get nodes (length nodes - 1) n UnresolvedDependency (ap (slice_get nodes) (sym same) ∙ at))
    by false e =
        let last = get_or nodes (length nodes - 1) UnresolvedDependency in
        let low : x < length nodes - 1 = under x (length nodes) within (eqb-false x (length nodes - 1) e) in
        let there : x < length (swap_remove nodes u UnresolvedDependency) = rw (length-take (length nodes - 1) (set nodes u last), length-set nodes u last) (omega arith) in
        slice_get-get_or (swap_remove nodes u UnresolvedDependency) x UnresolvedDependency there
        ∙ ap Some (get_or-take (length nodes - 1) (set nodes u last) x UnresolvedDependency low ∙ get_or-set_other nodes u x last UnresolvedDependency (eqb-false x u apart) ∙ get_or_from_slice_get nodes x n UnresolvedDependency at)

module _ {N S : Type 0} (same : S → S → Bool) (p : Packages N S) (root : Rules) where
  moved_edge : (nodes : List (ConflictNode S)) (u : NodeIndex) (e : Edge S) → u.0 < length nodes → touches u e ≡ false → IsTrueEdge same p root nodes e → IsTrueEdge same p root (swap_remove nodes u.0 UnresolvedDependency) (with_ends_moved (length nodes - 1) u.0 e)
  moved_edge nodes u e l apart t = record {
    source = t.source;
    target = t.target;
    from = moved_node nodes u.0 e.source.0 t.source l t.from (or_parts (e.source.0 == u.0) (e.target.0 == u.0) apart).0;
    to = moved_node nodes u.0 e.target.0 t.target l t.to (or_parts (e.source.0 == u.0) (e.target.0 == u.0) apart).1;
    is_true = t.is_true;
  }

  moved_edges : (nodes : List (ConflictNode S)) (u : NodeIndex) (es : List (Edge S)) → u.0 < length nodes → list_any (touches u) es ≡ false → All (IsTrueEdge same p root nodes) es → All (IsTrueEdge same p root (swap_remove nodes u.0 UnresolvedDependency)) (map (with_ends_moved (length nodes - 1) u.0) es)
  moved_edges nodes u [] l apart h = All-nil (IsTrueEdge same p root (swap_remove nodes u.0 UnresolvedDependency))
  moved_edges nodes u (e ∷ es) l apart h =
      let parts = or_parts (touches u e) (list_any (touches u) es) apart in
      All-cons (IsTrueEdge same p root (swap_remove nodes u.0 UnresolvedDependency)) (with_ends_moved (length nodes - 1) u.0 e) (map (with_ends_moved (length nodes - 1) u.0) es)
      (moved_edge nodes u e l parts.0 (All-head (IsTrueEdge same p root nodes) e es h)) (moved_edges nodes u es l parts.1 (All-tail (IsTrueEdge same p root nodes) e es h))

  -- each edge stays true where the unused node is removed
  pub removal_true : (g : Graph S) → IsTrueGraph same p root g → IsTrueGraph same p root (without_unused_unresolved g)
  removal_true g h = by (unresolved_of g) refl
    where
      used : (u : NodeIndex) (b : Bool) → has_edge_at g u ≡ b → u.0 < length g.nodes → IsTrueGraph same p root (cond b g (without_unresolved g u))
      used u true e l = h
      used u false e l = moved_edges g.nodes u g.edges l e h

      by : (o : Option NodeIndex) → unresolved_of g ≡ o → IsTrueGraph same p root (unless_used g o)
      by None e = h
      by (Some u) e = used u (has_edge_at g u) refl (unresolved_at g.nodes u e).0

-- where the rules and the offers are right, each edge of the graph is true
drawing_true : {N S : Type 0} (same_name : N → N → Bool) → IsExact same_name → (same : S → S → Bool) → IsExact same → (name_of : S → N) (offered : Requirement → List S) (rules : List (ProofRule N S)) (p : Packages N S) (root : Rules)
    → ((s : S) → p.package_of s ≡ name_of s) → AreRules same p root rules → AreNamed same p offered rules → IsTrueGraph same p root (conflict_drawing same_name same name_of offered rules)
unfolding conflict_drawing
drawing_true same_name names same exact name_of offered rules p root of are_rules given =
    removal_true same p root (drawn same (each_limit_once same (all_links same_name name_of offered rules)))
    (drawn_true same_name names same exact name_of p root of (each_limit_once same (all_links same_name name_of offered rules))
    (kept_true same (IsTrueLink same_name names same exact name_of p root of) (all_links same_name name_of offered rules) (all_true same_name names same exact name_of p root of offered rules are_rules given)))

-- the rule is one of the provider's or the root's, perhaps under a condition
abbrev IsSomeRule : {N S : Type 0} → (S → S → Bool) → Packages N S → Rules → ProofRule N S → Type 0
IsSomeRule {N} {S} same p root r = (condition : Option ConditionId) × IsRule same p root (rule_under condition r)

-- the rules of a proof's conflict are right
rules_right : {N S : Type 0} (same : S → S → Bool) (p : Packages N S) (root : Rules) (same_atom : Atom N S → Atom N S → Bool) (steps : List (ProofStep N S)) → IsProof same_atom same p root steps → AreRules same p root (conflict_rules steps)
rules_right {N} {S} same p root same_atom steps proof r c =
    All-contains (IsSomeRule same p root) (conflict_rules steps) r (all_filter_map (IsSomeRule same p root) (λ place. rule_in (slice_get steps place)) (conflict_order steps) (λ place h s e. are_rules place (slice_get steps place) refl s e)) c
  where
    are_rules : (place : ℕ) (o : Option (ProofStep N S)) → slice_get steps place ≡ o → (s : ProofRule N S) → rule_in o ≡ Some s → IsSomeRule same p root s
    are_rules place None at s e = cc
    are_rules place (Some (Rule t)) at s e = subst (IsSomeRule same p root) (same_Some t s e) (proof place (Rule t) at)
    are_rules place (Some (Derived literals causes)) at s e = cc

contains_filter_map : {A X : Type 0} (f : A → Option X) (xs : List A) (x : A) (y : X) → Contains xs x → f x ≡ Some y → Contains (filter_map f xs) y
contains_filter_map f [] x y c e = absurd (contains_none x c)
contains_filter_map {A} {X} f (a ∷ rest) x y c e = elim (contains_cases x a rest c) [
  | inl is ↦ at_first (f a) (ap f (sym is) ∙ e)
  | inr later ↦ at_later (f a) (contains_filter_map f rest x y later e)
]
  where
    at_first : (o : Option X) → o ≡ Some y → Contains (cons_option o (filter_map f rest)) y
    at_first None e = cc
    at_first (Some z) e = contains_first y z (filter_map f rest) (same_Some z y e)

    at_later : (o : Option X) → Contains (filter_map f rest) y → Contains (cons_option o (filter_map f rest)) y
    at_later None h = h
    at_later (Some z) h = contains_later y z (filter_map f rest) h

-- a requirement that a rule names is among those that are named
named_there : {N S : Type 0} (rules : List (ProofRule N S)) (r : ProofRule N S) (q : Requirement) → Contains rules r → named_by r ≡ Some q → Contains (requirements_in rules) q
named_there rules r q c e =
    let (t, there, same) = any_contained (same_requirement q) (requirements_in rules) (has_all-at same_requirement same_requirement-self (requirements_in rules) (filter_map named_by rules) q (has_all_inserted same_requirement same_requirement-self [] (filter_map named_by rules)) (contains_filter_map named_by rules r q c e)) in
    subst (Contains (requirements_in rules)) (sym (same_requirement_true q t same)) there

-- the graph of the steps' conflict is true
pub conflict_true : {N S : Type 0} (same_name : N → N → Bool) → IsExact same_name → (same : S → S → Bool) → IsExact same → (name_of : S → N) (offered : Requirement → List S) (steps : List (ProofStep N S))
    → IsTrueConflictGraph same name_of offered steps (conflict_drawing same_name same name_of offered (conflict_rules steps))
conflict_true same_name names same exact name_of offered steps p root of same_atom proof given =
    drawing_true same_name names same exact name_of offered (conflict_rules steps) p root of (rules_right same p root same_atom steps proof) (λ r c q e. given q (named_there (conflict_rules steps) r q c e))
