-- Merged versions: those of one package with the same neighbours on both sides.
use Rattle.std.specs.Prelude.{◌≡◌, ◌==◌, ◌&&◌, ℕ, ◌+◌, Bool, List, [], ◌∷◌, Option, None, Some, cond, nat_lt, length, map, filter}
use Rattle.std.specs.declared.cmp.Ordering.{Ordering}
use Rattle.std.specs.List.{AllZip}
use Rattle.std.specs.Cmp.Lexicographic.{pointwise}
use Rattle.std.specs.Option.{option_or as or_else, option_eq, option_cmp}
use Rattle.std.specs.Ordering.{ordering_then, nat_cmp}
use Rattle.std.specs.List.Sorted.{IsPermutation, IsSorted}
use Rattle.resolvo_pool_core.specs.declared.requirement.Requirement.{Requirement}
use Rattle.resolvo_pool_core.specs.contracts.requirement.RequirementPartialEq.TheImpl as Requirements
use Rattle.resolvo_pool_core.specs.contracts.requirement.RequirementOrd.TheImpl as Orders
use Rattle.resolvo_graph.specs.declared.graph.NodeIndex.{NodeIndex}
use Rattle.resolvo_graph.specs.declared.graph.ConflictNode.{ConflictNode}
use Rattle.resolvo_graph.specs.declared.graph.ConflictNode.TheVariants.{Root, Solvable, UnresolvedDependency, Excluded}
use Rattle.resolvo_graph.specs.declared.merge.Member.{Member}
use Rattle.resolvo_graph.specs.Graph.{Graph, requirement_of, edges_of, edges_to}

-- a neighbour, with the requirement of the edge; none for a conflict
abbrev pub Neighbour : Type 0
Neighbour = Option Requirement × NodeIndex

abbrev pub before : {S : Type 0} → Graph S → NodeIndex → List Neighbour
before g n = map (λ e. (requirement_of e.weight, e.source)) (edges_to g n)

abbrev pub after : {S : Type 0} → Graph S → NodeIndex → List Neighbour
after g n = map (λ e. (requirement_of e.weight, e.target)) (edges_of g n)

-- both have one node and one requirement
abbrev pub same_neighbour : Neighbour → Neighbour → Bool
same_neighbour x y = option_eq Requirements.ghosts.eq x.0 y.0 && (x.1.0 == y.1.0)

-- the order of neighbours: by requirement, conflicts first, then by node
abbrev pub neighbour_cmp : Neighbour → Neighbour → Ordering
neighbour_cmp x y = ordering_then (option_cmp Orders.cmp-value.it x.0 y.0) (nat_cmp x.1.0 y.1.0)

-- the version of a node, if it is one
abbrev pub solvable_of : {S : Type 0} → ConflictNode S → Option S
solvable_of Root = None
solvable_of (Solvable s) = Some s
solvable_of UnresolvedDependency = None
solvable_of (Excluded why) = None

abbrev pub with_version : {S : Type 0} → ℕ → Option S → List (NodeIndex × S) → List (NodeIndex × S)
with_version k None vs = vs
with_version k (Some s) vs = (record { 0 = k }, s) ∷ vs

-- the versions among the nodes, which are numbered from k
abbrev pub versions_from : {S : Type 0} → ℕ → List (ConflictNode S) → List (NodeIndex × S)
versions_from k [] = []
versions_from k (n ∷ ns) = with_version k (solvable_of n) (versions_from (k + 1) ns)

abbrev pub versions_in : {S : Type 0} → Graph S → List (NodeIndex × S)
versions_in g = versions_from 0 g.nodes

-- a version, with its package and its neighbours in order
pub record Profile (N S : Type 0) : Type 0 where
  pub solvable : S
  pub name : N
  pub before : List Neighbour
  pub after : List Neighbour

-- the second list is the first one, sorted
abbrev pub IsInOrder : List Neighbour → List Neighbour → Type 0
IsInOrder xs ys = IsPermutation xs ys × IsSorted neighbour_cmp ys

module _ {N S : Type 0} (g : Graph S) (name_of : S → N) where
  pub record IsProfile (v : NodeIndex × S) (p : Profile N S) : Type 0 where
    pub solvable : p.solvable ≡ v.1
    pub name : p.name ≡ name_of v.1
    pub before : IsInOrder (before g v.0) p.before
    pub after : IsInOrder (after g v.0) p.after

  -- one for each version, in the order of the nodes
  abbrev pub AreProfiles : List (Profile N S) → Type 0
  AreProfiles ps = AllZip IsProfile (versions_in g) ps

-- the versions of this number
abbrev pub numbered : {S : Type 0} → List (Member S) → ℕ → List S
numbered ms g = map (λ m. m.solvable) (filter (λ m. m.group == g) ms)

module _ {S : Type 0} (same : S → S → Bool) (ids : ℕ → List S) where
  -- the group of this member, if it is s and isn't alone
  abbrev pub together : Member S → S → Option (List S)
  together m s = cond (same m.solvable s && nat_lt 1 (length (ids m.group))) (Some (ids m.group)) None

  -- the group of s among some members
  abbrev pub group_among : List (Member S) → S → Option (List S)
  group_among [] s = None
  group_among (m ∷ ms) s = or_else (group_among ms s) (together m s)

module _ {N S : Type 0} (same_name : N → N → Bool) where
  -- both versions are merged
  abbrev pub alike : Profile N S → Profile N S → Bool
  alike p q = (same_name p.name q.name && pointwise same_neighbour p.before q.before) && pointwise same_neighbour p.after q.after

  -- the versions that are merged with this one, itself included
  abbrev pub group : List (Profile N S) → Profile N S → List S
  group ps p = map (λ q. q.solvable) (filter (alike p) ps)

  -- each member belongs to its version's profile, and those of its number are that profile's group
  abbrev pub AreMembers : List (Profile N S) → List (Member S) → Type 0
  AreMembers ps ms = AllZip (λ p m. (m.solvable ≡ p.solvable) × (numbered ms m.group ≡ group ps p)) ps ms

  module _ (same : S → S → Bool) where
    -- the group of this version, if it is s and isn't alone
    abbrev pub own_group : List (Profile N S) → Profile N S → S → Option (List S)
    own_group ps p s = cond (same p.solvable s && nat_lt 1 (length (group ps p))) (Some (group ps p)) None

    -- the group of s among all profiles, where s is one of some
    abbrev pub group_in : List (Profile N S) → List (Profile N S) → S → Option (List S)
    group_in all [] s = None
    group_in all (p ∷ ps) s = or_else (group_in all ps s) (own_group all p s)

    -- the map of each version to its group, if that has two versions or more
    abbrev pub IsMerged : Graph S → (S → N) → (S → Option (List S)) → Type 0
    IsMerged g name_of merged = (ps : List (Profile N S)) × AreProfiles g name_of ps × ((s : S) → merged s ≡ group_in ps ps s)
