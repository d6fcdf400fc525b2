-- Runs: consecutive edges with one requirement.
use Rattle.std.specs.Prelude.{◌==◌, Bool, false, List, [], ◌∷◌, ◌++◌, Option, None, Some, cond}
use Rattle.resolvo_pool_core.specs.declared.requirement.Requirement.{Requirement}
use Rattle.resolvo_pool_core.specs.declared.requirement.Requirement.TheVariants.{Single, Union}
use Rattle.resolvo_graph.specs.declared.graph.NodeIndex.{NodeIndex}
use Rattle.resolvo_graph.specs.declared.graph.Edge.{Edge}
use Rattle.resolvo_graph.specs.Graph.{requirement_of}

-- a requirement, with the targets of its edges
pub record Run : Type 0 where
  pub requirement : Requirement
  pub targets : List NodeIndex

abbrev pub same_requirement : Requirement → Requirement → Bool
same_requirement (Single v) (Single w) = v.0 == w.0
same_requirement (Single v) (Union u) = false
same_requirement (Union u) (Single v) = false
same_requirement (Union u) (Union w) = u.0 == w.0

-- the runs with such an edge prepended: it joins the first run, if that has its requirement
abbrev pub with_first : Requirement → NodeIndex → List Run → List Run
with_first q t [] = record { requirement = q; targets = t ∷ [] } ∷ []
with_first q t (r ∷ rs) = cond (same_requirement r.requirement q) (record { requirement = r.requirement; targets = t ∷ r.targets } ∷ rs) (record { requirement = q; targets = t ∷ [] } ∷ r ∷ rs)

-- a conflict is in no run
abbrev pub with_edge : Option Requirement → NodeIndex → List Run → List Run
with_edge None t rs = rs
with_edge (Some q) t rs = with_first q t rs

abbrev pub runs_of : {S : Type 0} → List (Edge S) → List Run
runs_of [] = []
runs_of (e ∷ es) = with_edge (requirement_of e.weight) e.target (runs_of es)

-- the runs with such an edge appended
abbrev pub with_last : List Run → Requirement → NodeIndex → List Run
with_last [] q t = record { requirement = q; targets = t ∷ [] } ∷ []
with_last (r ∷ []) q t = cond (same_requirement r.requirement q) (record { requirement = r.requirement; targets = r.targets ++ t ∷ [] } ∷ []) (r ∷ record { requirement = q; targets = t ∷ [] } ∷ [])
with_last (r ∷ s ∷ rs) q t = r ∷ with_last (s ∷ rs) q t
