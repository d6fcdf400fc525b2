-- Runs may be built from either end: an appended edge joins the last run, or begins one.
use Rattle.std.proofs.Common.{◌≡◌, Bool, true, false, cond, List, [], ◌∷◌, ◌++◌, Option, None, Some, refl, sym, ap, ◌∙◌, arith}
use Rattle.std.proofs.lemmas.Bool.{eqb-true}
use Rattle.resolvo_pool_core.specs.declared.requirement.Requirement.{Requirement}
use Rattle.resolvo_pool_core.specs.declared.requirement.Requirement.TheVariants.{Single, Union}
use Rattle.resolvo_graph.specs.declared.graph.NodeIndex.{NodeIndex}
use Rattle.resolvo_graph.specs.declared.graph.Edge.{Edge}
use Rattle.resolvo_graph.specs.Graph.{requirement_of}
use Rattle.resolvo_graph.specs.Runs.{Run, same_requirement, with_first, with_edge, with_last, runs_of}

-- the last run gets one target more, or a new run follows
pub with_last-at : (rs : List Run) (r : Run) (q : Requirement) (t : NodeIndex) → with_last (rs ++ r ∷ []) q t ≡ cond (same_requirement r.requirement q) (rs ++ record { requirement = r.requirement; targets = r.targets ++ t ∷ [] } ∷ []) ((rs ++ r ∷ []) ++ record { requirement = q; targets = t ∷ [] } ∷ [])
with_last-at [] r q t = refl
with_last-at (s ∷ []) r q t = go (same_requirement r.requirement q)
  where
    go : (b : Bool) → s ∷ cond b (record { requirement = r.requirement; targets = r.targets ++ t ∷ [] } ∷ []) (r ∷ record { requirement = q; targets = t ∷ [] } ∷ []) ≡ cond b (s ∷ record { requirement = r.requirement; targets = r.targets ++ t ∷ [] } ∷ []) (s ∷ r ∷ record { requirement = q; targets = t ∷ [] } ∷ [])
    go true = refl
    go false = refl
with_last-at (s ∷ u ∷ rs) r q t = ap (λ xs. s ∷ xs) (with_last-at (u ∷ rs) r q t) ∙ go (same_requirement r.requirement q)
  where
    go : (b : Bool) → s ∷ cond b (u ∷ (rs ++ record { requirement = r.requirement; targets = r.targets ++ t ∷ [] } ∷ [])) (u ∷ ((rs ++ r ∷ []) ++ record { requirement = q; targets = t ∷ [] } ∷ [])) ≡ cond b (s ∷ u ∷ (rs ++ record { requirement = r.requirement; targets = r.targets ++ t ∷ [] } ∷ [])) (s ∷ u ∷ ((rs ++ r ∷ []) ++ record { requirement = q; targets = t ∷ [] } ∷ []))
    go true = refl
    go false = refl

exact : (q p : Requirement) → same_requirement q p ≡ true → q ≡ p
exact (Single v) (Single w) h = ap (λ n. Single (record { 0 = n })) (eqb-true v.0 w.0 h)
exact (Single v) (Union u) h = cc
exact (Union u) (Single v) h = cc
exact (Union u) (Union w) h = ap (λ n. Union (record { 0 = n })) (eqb-true u.0 w.0 h)

flips : (q p : Requirement) → same_requirement q p ≡ same_requirement p q
flips (Single v) (Single w) = grind arith
flips (Single v) (Union u) = refl
flips (Union u) (Single v) = refl
flips (Union u) (Union w) = grind arith

-- prepending an edge and appending one commute
first_last : (q : Requirement) (t : NodeIndex) (rs : List Run) (p : Requirement) (u : NodeIndex) → with_first q t (with_last rs p u) ≡ with_last (with_first q t rs) p u
first_last q t [] p u = go (same_requirement p q) refl
  where
    go : (b : Bool) → same_requirement p q ≡ b → with_first q t (with_last [] p u) ≡ with_last (with_first q t []) p u
    go true h =
        let e : p ≡ q = exact p q h in
        let k : same_requirement q p ≡ true = flips q p ∙ h in
        rw (h, k) (ap (λ (x : Requirement). record { requirement = x; targets = t ∷ u ∷ [] } ∷ []) e)
    go false h =
        let k : same_requirement q p ≡ false = flips q p ∙ h in
        rw (h, k) refl
first_last q t (r ∷ []) p u = go (same_requirement r.requirement p) (same_requirement r.requirement q) refl refl
  where
    go : (a b : Bool) → same_requirement r.requirement p ≡ a → same_requirement r.requirement q ≡ b → with_first q t (with_last (r ∷ []) p u) ≡ with_last (with_first q t (r ∷ [])) p u
    go true true h k = rw (h, k, h) refl
    go true false h k = rw (h, k, h) refl
    go false true h k = rw (h, k, h) refl
    go false false h k = rw (h, k, h) refl
first_last q t (r ∷ s ∷ rs) p u = go (same_requirement r.requirement q)
  where
    go : (b : Bool) → cond b (record { requirement = r.requirement; targets = t ∷ r.targets } ∷ with_last (s ∷ rs) p u) (record { requirement = q; targets = t ∷ [] } ∷ r ∷ with_last (s ∷ rs) p u) ≡ with_last (cond b (record { requirement = r.requirement; targets = t ∷ r.targets } ∷ s ∷ rs) (record { requirement = q; targets = t ∷ [] } ∷ r ∷ s ∷ rs)) p u
    go true = refl
    go false = refl

-- the runs with an appended edge
abbrev pub with_last_edge : List Run → Option Requirement → NodeIndex → List Run
with_last_edge rs None t = rs
with_last_edge rs (Some q) t = with_last rs q t

edge_last : (o : Option Requirement) (t : NodeIndex) (rs : List Run) (p : Option Requirement) (u : NodeIndex) → with_edge o t (with_last_edge rs p u) ≡ with_last_edge (with_edge o t rs) p u
edge_last None t rs p u = refl
edge_last (Some q) t rs None u = refl
edge_last (Some q) t rs (Some p) u = first_last q t rs p u

single : (o : Option Requirement) (t : NodeIndex) → with_edge o t [] ≡ with_last_edge [] o t
single None t = refl
single (Some q) t = refl

pub runs_of-last : {S : Type 0} (es : List (Edge S)) (e : Edge S) → runs_of (es ++ e ∷ []) ≡ with_last_edge (runs_of es) (requirement_of e.weight) e.target
runs_of-last [] e = single (requirement_of e.weight) e.target
runs_of-last (d ∷ es) e = ap (with_edge (requirement_of d.weight) d.target) (runs_of-last es e) ∙ edge_last (requirement_of d.weight) d.target (runs_of es) (requirement_of e.weight) e.target

-- the cases of a push: the last run gets the target, or a new run follows, or one begins
pub joins : (old now rest : List Run) (r s : Run) (q : Requirement) (t : NodeIndex) → old ≡ rest ++ r ∷ [] → same_requirement r.requirement q ≡ true → s ≡ record { requirement = r.requirement; targets = r.targets ++ t ∷ [] } → now ≡ rest ++ s ∷ [] → now ≡ with_last old q t
joins old now rest r s q t was same is put =
    put ∙ ap (λ x. rest ++ x ∷ []) is ∙ sym (ap (λ xs. with_last xs q t) was ∙ with_last-at rest r q t ∙ ap (λ b. cond b (rest ++ record { requirement = r.requirement; targets = r.targets ++ t ∷ [] } ∷ []) ((rest ++ r ∷ []) ++ record { requirement = q; targets = t ∷ [] } ∷ [])) same)

pub follows : (old mid now rest : List Run) (r s : Run) (q : Requirement) (t : NodeIndex) → old ≡ rest ++ r ∷ [] → same_requirement r.requirement q ≡ false → mid ≡ rest ++ r ∷ [] → s ≡ record { requirement = q; targets = t ∷ [] } → now ≡ mid ++ s ∷ [] → now ≡ with_last old q t
follows old mid now rest r s q t was same back is put =
    put ∙ ap (λ x. mid ++ x ∷ []) is ∙ ap (λ xs. xs ++ record { requirement = q; targets = t ∷ [] } ∷ []) back
    ∙ sym (ap (λ xs. with_last xs q t) was ∙ with_last-at rest r q t ∙ ap (λ b. cond b (rest ++ record { requirement = r.requirement; targets = r.targets ++ t ∷ [] } ∷ []) ((rest ++ r ∷ []) ++ record { requirement = q; targets = t ∷ [] } ∷ [])) same)

pub begins : (old mid now : List Run) (s : Run) (q : Requirement) (t : NodeIndex) → old ≡ [] → mid ≡ [] → s ≡ record { requirement = q; targets = t ∷ [] } → now ≡ mid ++ s ∷ [] → now ≡ with_last old q t
begins old mid now s q t was none is put = put ∙ ap (λ x. mid ++ x ∷ []) is ∙ ap (λ xs. xs ++ record { requirement = q; targets = t ∷ [] } ∷ []) none ∙ sym (ap (λ xs. with_last xs q t) was)
