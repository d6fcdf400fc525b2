-- The tests that `==` runs are those that definitions name.
use Rattle.std.proofs.Common.{◌≡◌, Bool, true, false, refl}
use Rattle.std.specs.Prelude.{◌==◌}
use Rattle.resolvo_pool_core.specs.declared.id.StringId.{StringId}
use Rattle.resolvo_pool_core.specs.declared.requirement.Requirement.{Requirement}
use Rattle.resolvo_pool_core.specs.declared.requirement.Requirement.TheVariants.{Single, Union}
use Rattle.resolvo_pool_core.specs.contracts.requirement.RequirementPartialEq.TheImpl as Requirements
use Rattle.resolvo_graph.specs.declared.graph.ConflictNode.{ConflictNode}
use Rattle.resolvo_graph.specs.declared.graph.ConflictNode.TheVariants.{Root, Solvable, UnresolvedDependency, Excluded}
use Rattle.resolvo_sat.specs.RuleClauses.{same_requirement}
use Rattle.resolvo_proof.specs.Tests.{same_node}

pub requirement_test : Requirements.eq-value.it ≡ same_requirement
requirement_test = λ i q r. at q r i
  where
    at : (q r : Requirement) → Requirements.eq-value.it q r ≡ same_requirement q r
    at (Single v) (Single w) = refl
    at (Single v) (Union w) = refl
    at (Union v) (Single w) = refl
    at (Union v) (Union w) = refl

-- tests that agree everywhere are one
pub one_test : {A : Type 0} (f g : A → A → Bool) → ((x y : A) → f x y ≡ g x y) → f ≡ g
one_test f g h = λ i x y. h x y i

-- a test of nodes is the one that definitions name, by its values for each kind and for different
-- ones
pub node_test : {S : Type 0} (eq : ConflictNode S → ConflictNode S → Bool) (same : S → S → Bool)
    → (eq Root Root ≡ true) → ((t : S) → eq Root (Solvable t) ≡ false) → (eq Root UnresolvedDependency ≡ false) → ((w : StringId) → eq Root (Excluded w) ≡ false)
    → ((s : S) → eq (Solvable s) Root ≡ false) → ((s t : S) → eq (Solvable s) (Solvable t) ≡ same s t) → ((s : S) → eq (Solvable s) UnresolvedDependency ≡ false) → ((s : S) (w : StringId) → eq (Solvable s) (Excluded w) ≡ false)
    → (eq UnresolvedDependency Root ≡ false) → ((t : S) → eq UnresolvedDependency (Solvable t) ≡ false) → (eq UnresolvedDependency UnresolvedDependency ≡ true) → ((w : StringId) → eq UnresolvedDependency (Excluded w) ≡ false)
    → ((v : StringId) → eq (Excluded v) Root ≡ false) → ((v : StringId) (t : S) → eq (Excluded v) (Solvable t) ≡ false) → ((v : StringId) → eq (Excluded v) UnresolvedDependency ≡ false) → ((v w : StringId) → eq (Excluded v) (Excluded w) ≡ (v.0 == w.0))
    → (m n : ConflictNode S) → eq m n ≡ same_node same m n
node_test eq same a1 a2 a3 a4 b1 b2 b3 b4 c1 c2 c3 c4 d1 d2 d3 d4 Root Root = a1
node_test eq same a1 a2 a3 a4 b1 b2 b3 b4 c1 c2 c3 c4 d1 d2 d3 d4 Root (Solvable t) = a2 t
node_test eq same a1 a2 a3 a4 b1 b2 b3 b4 c1 c2 c3 c4 d1 d2 d3 d4 Root UnresolvedDependency = a3
node_test eq same a1 a2 a3 a4 b1 b2 b3 b4 c1 c2 c3 c4 d1 d2 d3 d4 Root (Excluded w) = a4 w
node_test eq same a1 a2 a3 a4 b1 b2 b3 b4 c1 c2 c3 c4 d1 d2 d3 d4 (Solvable s) Root = b1 s
node_test eq same a1 a2 a3 a4 b1 b2 b3 b4 c1 c2 c3 c4 d1 d2 d3 d4 (Solvable s) (Solvable t) = b2 s t
node_test eq same a1 a2 a3 a4 b1 b2 b3 b4 c1 c2 c3 c4 d1 d2 d3 d4 (Solvable s) UnresolvedDependency = b3 s
node_test eq same a1 a2 a3 a4 b1 b2 b3 b4 c1 c2 c3 c4 d1 d2 d3 d4 (Solvable s) (Excluded w) = b4 s w
node_test eq same a1 a2 a3 a4 b1 b2 b3 b4 c1 c2 c3 c4 d1 d2 d3 d4 UnresolvedDependency Root = c1
node_test eq same a1 a2 a3 a4 b1 b2 b3 b4 c1 c2 c3 c4 d1 d2 d3 d4 UnresolvedDependency (Solvable t) = c2 t
node_test eq same a1 a2 a3 a4 b1 b2 b3 b4 c1 c2 c3 c4 d1 d2 d3 d4 UnresolvedDependency UnresolvedDependency = c3
node_test eq same a1 a2 a3 a4 b1 b2 b3 b4 c1 c2 c3 c4 d1 d2 d3 d4 UnresolvedDependency (Excluded w) = c4 w
node_test eq same a1 a2 a3 a4 b1 b2 b3 b4 c1 c2 c3 c4 d1 d2 d3 d4 (Excluded v) Root = d1 v
node_test eq same a1 a2 a3 a4 b1 b2 b3 b4 c1 c2 c3 c4 d1 d2 d3 d4 (Excluded v) (Solvable t) = d2 v t
node_test eq same a1 a2 a3 a4 b1 b2 b3 b4 c1 c2 c3 c4 d1 d2 d3 d4 (Excluded v) UnresolvedDependency = d3 v
node_test eq same a1 a2 a3 a4 b1 b2 b3 b4 c1 c2 c3 c4 d1 d2 d3 d4 (Excluded v) (Excluded w) = d4 v w
