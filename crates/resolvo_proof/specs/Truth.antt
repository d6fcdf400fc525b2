-- When an edge of a conflict's graph is true of a provider's packages and a problem's root.
use Rattle.std.specs.Prelude.{◌≡◌, ◌⊎◌, Bool, true, false, List, Option, Some, Contains, All, slice_get}
use Rattle.resolvo_pool_core.specs.declared.id.StringId.{StringId}
use Rattle.resolvo_pool_core.specs.declared.requirement.ConditionalRequirement.{ConditionalRequirement}
use Rattle.resolvo_pool_core.specs.declared.requirement.Requirement.{Requirement}
use Rattle.resolvo_pool_core.specs.RuleKeeping.{Packages, Rules, is_in, is_outside, meets, rules_for}
use Rattle.resolvo_sat.specs.RuleClauses as Encoder
use Rattle.resolvo_sat.specs.RuleClauses.{Atom, KeepsOut}
use Rattle.resolvo_graph.specs.declared.graph.ConflictNode.{ConflictNode}
use Rattle.resolvo_graph.specs.declared.graph.ConflictNode.TheVariants as Nodes
use Rattle.resolvo_graph.specs.declared.graph.ConflictCause.TheVariants as Causes
use Rattle.resolvo_graph.specs.declared.graph.ConflictEdge.{ConflictEdge}
use Rattle.resolvo_graph.specs.declared.graph.ConflictEdge.TheVariants as Edges
use Rattle.resolvo_graph.specs.declared.graph.Edge.{Edge}
use Rattle.resolvo_graph.specs.Graph.{Graph}
use Rattle.resolvo_proof.specs.declared.step.ProofStep.{ProofStep}
use Rattle.resolvo_proof.specs.Proof.{IsProof}
use Rattle.resolvo_proof.specs.Links.{parent_node}
use Rattle.resolvo_proof.specs.Order.{conflict_rules, requirements_in}

module _ {N S : Type 0} (same : S → S → Bool) (p : Packages N S) (root : Rules) where
  -- the parent has the requirement, perhaps under a condition
  abbrev pub Asks : Option S → Requirement → Type 0
  Asks parent q = (need : ConditionalRequirement) × Contains (rules_for same p root parent).requirements need × (need.requirement ≡ q)

  -- A requirement leads from a parent that has it to a solvable that meets it, or to the unresolved node where none does.
  pub record IsTrueNeed (q : Requirement) (source target : ConflictNode S) : Type 0 where
    pub parent : Option S
    pub from : source ≡ parent_node parent
    pub asks : Asks parent q
    pub to : ((s : S) × (target ≡ Nodes.Solvable s) × (meets same p q s ≡ true)) ⊎ ((target ≡ Nodes.UnresolvedDependency) × ((s : S) → meets same p q s ≡ false))

  -- The claim of an edge about its ends. A parent with a constraint forbids a solvable outside it;
  -- the listing of a solvable locks another one; two solvables are of one package. Or a solvable is
  -- excluded, or has unknown dependencies, for this reason.
  abbrev pub IsTrue : ConflictEdge S → ConflictNode S → ConflictNode S → Type 0
  IsTrue (Edges.Requires q) source target = IsTrueNeed q source target
  IsTrue (Edges.Conflict (Causes.Constrains v)) source target = (parent : Option S) × (s : S) × (source ≡ parent_node parent) × (target ≡ Nodes.Solvable s) × Contains (rules_for same p root parent).constraints v × (is_outside same p v s ≡ true)
  IsTrue (Edges.Conflict (Causes.Locked locked)) source target = (s : S) × (source ≡ Nodes.Root) × (target ≡ Nodes.Solvable s) × KeepsOut same p (Encoder.ForbidReason.lock locked) s
  IsTrue (Edges.Conflict Causes.ForbidMultipleInstances) source target = (s t : S) × (source ≡ Nodes.Solvable s) × (target ≡ Nodes.Solvable t) × (p.package_of s ≡ p.package_of t)
  IsTrue (Edges.Conflict Causes.Excluded) source target = (s : S) × (why : StringId) × (source ≡ Nodes.Solvable s) × (target ≡ Nodes.Excluded why) × KeepsOut same p (Encoder.ForbidReason.word why) s

  -- the ends of the edge are nodes, and its claim is true
  pub record IsTrueEdge (nodes : List (ConflictNode S)) (e : Edge S) : Type 0 where
    pub source : ConflictNode S
    pub target : ConflictNode S
    pub from : slice_get nodes e.source.0 ≡ Some source
    pub to : slice_get nodes e.target.0 ≡ Some target
    pub is_true : IsTrue e.weight source target

  -- each edge of the graph is true
  abbrev pub IsTrueGraph : Graph S → Type 0
  IsTrueGraph g = All (IsTrueEdge g.nodes) g.edges

  -- exactly what meets a requirement that the rules of the steps' conflict name was offered for it
  abbrev pub AreOffered : (Requirement → List S) → List (ProofStep N S) → Type 0
  AreOffered offered steps = (q : Requirement) → Contains (requirements_in (conflict_rules steps)) q → (s : S) → is_in same p (offered q) s ≡ meets same p q s

-- The claim of a graph of the steps' conflict, for packages with these names and a root. Each edge
-- is true if the steps are a proof and the offers are exactly what meets each requirement.
abbrev pub IsTrueConflictGraph : {N S : Type 0} → (S → S → Bool) → (S → N) → (Requirement → List S) → List (ProofStep N S) → Graph S → Type 0
IsTrueConflictGraph {N} {S} same name_of offered steps g = (p : Packages N S) (root : Rules) → ((s : S) → p.package_of s ≡ name_of s) → (same_atom : Atom N S → Atom N S → Bool) → IsProof same_atom same p root steps → AreOffered same p root offered steps → IsTrueGraph same p root g
