-- The trees: the stack's entries have the lines after those so far; each step lowers the weight.
use Rattle.std.proofs.Common.{◌≡◌, ℕ, zero, suc, ◌+◌, ◌*◌, ◌<◌, ◌≤◌, Bool, true, false, cond, List, [], ◌∷◌, ◌++◌, map, reverse, drop, length, All, refl, sym, ap, subst, ◌∙◌, arith, append_assoc, map-id}
use Rattle.std.specs.Prelude.{◌||◌, ◌==◌, not, filter, Option, None, Some, slice_get}
use Rattle.std.proofs.lemmas.List.{append-nil, reverse-append, length-reverse}
use Rattle.std.proofs.lemmas.List.Folds.{list_any-append}
use Rattle.std.proofs.lemmas.List.Sums.{length-filter, count_by-le-length}
use Rattle.std.proofs.Math.Nat.{mul-le-mul_left}
use Rattle.std.proofs.lemmas.List.Elements.{All-nil, All-cons, All-head, All-tail, All-filter, All-append, All-map, All-same}
use Rattle.std.proofs.lemmas.List.Sorted.{All-permutation, IsPermutation-reverse}
use Rattle.std.specs.List.{list_any}
use Rattle.resolvo_pool_core.specs.declared.id.StringId.{StringId}
use Rattle.resolvo_pool_core.specs.declared.id.VersionSetId.{VersionSetId}
use Rattle.resolvo_pool_core.specs.declared.requirement.Requirement.{Requirement as Need}
use Rattle.resolvo_graph.specs.declared.graph.NodeIndex.{NodeIndex}
use Rattle.resolvo_graph.specs.declared.graph.Edge.{Edge}
use Rattle.resolvo_graph.specs.declared.display_line.Outlook.{Outlook}
use Rattle.resolvo_graph.specs.declared.display_line.Outlook.TheVariants.{Missing, Installable, Hopeless}
use Rattle.resolvo_graph.specs.declared.display_line.Verdict.{Verdict}
use Rattle.resolvo_graph.specs.declared.display_line.Verdict.TheVariants.{Alone, Excluded, Conflicts, Constrains, Requires, Locked}
use Rattle.resolvo_graph.specs.declared.indenter.ChildOrder.{ChildOrder}
use Rattle.resolvo_graph.specs.declared.indenter.ChildOrder.TheVariants.{HasRemainingSiblings}
use Rattle.resolvo_graph.specs.declared.display_line.MessageLine.{MessageLine}
use Rattle.resolvo_graph.specs.declared.tree.DisplayOp.{DisplayOp}
use Rattle.resolvo_graph.specs.declared.tree.DisplayOp.TheVariants.{Requirement, Candidate}
use Rattle.resolvo_graph.specs.Graph.{Graph, same_node, leaves, edges_of, requirement_of, admitted_by, is_forbidden}
use Rattle.resolvo_graph.specs.Indent.{Indent, level_below}
use Rattle.resolvo_graph.specs.Outlook.{has_target_in}
use Rattle.resolvo_graph.specs.Runs.{Run, same_requirement, with_first, with_edge, runs_of}
use Rattle.resolvo_graph.specs.Tree.{Entry, Findings, order_before, siblings, solvable_at_node, with_candidate, candidates_at, with_set, admitted_in, is_admitting, verdict_for, shown_of, outlook_of, is_covered, covered_with, firsts_after, options_of, in_rank, verdict_of, needs_of, lines_at, entries_below, covered_after, Writes, done, next}
use Rattle.resolvo_graph.specs.Sink.{Adds, Stays}
use Rattle.resolvo_graph.specs.Walk.{is_among}
use Rattle.resolvo_graph.proofs.SinkLemmas.{adds_none, adds_both, adds_same}
use Rattle.resolvo_graph.proofs.WalkLemmas.{unseen, unseen-new, targets_among, edges_among}

pub candidates_at_push : {S : Type 0} (g : Graph S) (ns : List NodeIndex) (n : NodeIndex) → candidates_at g (ns ++ n ∷ []) ≡ candidates_at g ns ++ with_candidate n (solvable_at_node (slice_get g.nodes n.0)) []
candidates_at_push g [] n = refl
candidates_at_push {S} g (m ∷ ns) n = go (solvable_at_node (slice_get g.nodes m.0)) (candidates_at_push g ns n)
  where
    go : (o : Option S) → candidates_at g (ns ++ n ∷ []) ≡ candidates_at g ns ++ with_candidate n (solvable_at_node (slice_get g.nodes n.0)) [] → with_candidate m o (candidates_at g (ns ++ n ∷ [])) ≡ with_candidate m o (candidates_at g ns) ++ with_candidate n (solvable_at_node (slice_get g.nodes n.0)) []
    go None h = h
    go (Some s) h = ap (λ xs. (m, s) ∷ xs) h

or_false : (a b : Bool) → (a || b) ≡ false → b ≡ false
or_false true b h = cc
or_false false b h = h

pub reverse-twice : {A : Type 0} (xs : List A) → reverse (reverse xs) ≡ xs
reverse-twice [] = refl
reverse-twice (x ∷ xs) = ap reverse (reverse-append (x ∷ []) xs) ∙ reverse-append (reverse xs) (x ∷ []) ∙ ap (λ ys. x ∷ ys) (reverse-twice xs)

pub admitted_in_push : {S : Type 0} (es : List (Edge S)) (e : Edge S) → admitted_in (es ++ e ∷ []) ≡ admitted_in es ++ with_set (admitted_by e.weight) []
admitted_in_push [] e = refl
admitted_in_push (d ∷ es) e = go (admitted_by d.weight) (admitted_in_push es e)
  where
    go : (o : Option VersionSetId) → admitted_in (es ++ e ∷ []) ≡ admitted_in es ++ with_set (admitted_by e.weight) [] → with_set o (admitted_in (es ++ e ∷ [])) ≡ with_set o (admitted_in es) ++ with_set (admitted_by e.weight) []
    go None h = h
    go (Some v) h = ap (λ xs. v ∷ xs) h

-- a version that isn't excluded, and has edges
pub unexcluded : {S : Type 0} (o : Option StringId) (es : List (Edge S)) → o ≡ None → (length es == 0) ≡ false → verdict_for o es ≡ cond (list_any (λ e. is_forbidden e.weight) es) Conflicts (cond (list_any is_admitting es) Constrains Requires)
unexcluded (Some why) es h k = cc
unexcluded None [] h k = cc
unexcluded None (e ∷ es) h k = refl

-- the entry pushed last is popped first
reverse_put : {A : Type 0} (below now xs : List A) → now ≡ below ++ reverse xs → reverse now ≡ xs ++ reverse below
reverse_put below now xs put = ap reverse put ∙ reverse-append below (reverse xs) ∙ ap (λ ys. ys ++ reverse below) (reverse-twice xs)

-- all were yielded
pub all_yielded : {A : Type 0} (xs ys : List A) → map (λ x. x) xs ≡ ys → xs ≡ ys
all_yielded xs ys h = sym (map-id xs) ∙ h

-- the weight of a version: so many may be below it, and no version has more than e edges
abbrev pub cost : ℕ → ℕ → ℕ
cost e zero = 1
cost e (suc u) = 1 + e * (1 + cost e u)

cost-positive : (e u : ℕ) → 1 ≤ cost e u
cost-positive e zero = omega arith
cost-positive e (suc u) = omega arith

cost-le : (e a b : ℕ) → a ≤ b → cost e a ≤ cost e b
cost-le e zero b h = cost-positive e b
cost-le e (suc a) zero h = absurd (omega arith)
cost-le e (suc a) (suc b) h =
    let below : cost e a ≤ cost e b = cost-le e a b (omega arith) in
    let more : 1 + cost e a ≤ 1 + cost e b = omega arith in
    let times : e * (1 + cost e a) ≤ e * (1 + cost e b) = mul-le-mul_left e more in
    omega arith

module _ {S : Type 0} where
  -- the weight of an entry: that of a run is the sum over its targets, and one
  abbrev pub weight : ℕ → DisplayOp S → ℕ
  weight c (Requirement r) = 1 + length r.targets * c
  weight c (Candidate n s) = c

  abbrev pub total : ℕ → List (DisplayOp S) → ℕ
  total c [] = 0
  total c (o ∷ os) = weight c o + total c os

  total-append : (c : ℕ) (xs ys : List (DisplayOp S)) → total c (xs ++ ys) ≡ total c xs + total c ys
  total-append c [] ys = omega arith
  total-append c (x ∷ xs) ys =
      let rest : total c (xs ++ ys) ≡ total c xs + total c ys = total-append c xs ys in
      omega arith

  total-reverse : (c : ℕ) (xs : List (DisplayOp S)) → total c (reverse xs) ≡ total c xs
  total-reverse c [] = refl
  total-reverse c (x ∷ xs) =
      let rest : total c (reverse xs) ≡ total c xs = total-reverse c xs in
      let turned : total c (reverse (x ∷ xs)) ≡ total c (reverse xs ++ x ∷ []) = ap (total c) (reverse-append (x ∷ []) xs) in
      let both : total c (reverse xs ++ x ∷ []) ≡ total c (reverse xs) + total c (x ∷ []) = total-append c (reverse xs) (x ∷ []) in
      omega arith

  -- the entries on a stack
  abbrev pub weights : Graph S → List NodeIndex → List (Entry S) → ℕ
  weights g us [] = 0
  weights g us (e ∷ es) = weight (cost (length g.edges) (unseen us e.above)) e.op + weights g us es

  weights-append : (g : Graph S) (us : List NodeIndex) (xs ys : List (Entry S)) → weights g us (xs ++ ys) ≡ weights g us xs + weights g us ys
  weights-append g us [] ys = omega arith
  weights-append g us (x ∷ xs) ys =
      let rest : weights g us (xs ++ ys) ≡ weights g us xs + weights g us ys = weights-append g us xs ys in
      omega arith

  weights-siblings : (g : Graph S) (us : List NodeIndex) (i : Indent) (above : List NodeIndex) (os : List (DisplayOp S)) → weights g us (siblings i above os) ≡ total (cost (length g.edges) (unseen us above)) os
  weights-siblings g us i above [] = refl
  weights-siblings g us i above (o ∷ os) = ap (λ k. weight (cost (length g.edges) (unseen us above)) o + k) (weights-siblings g us i above os)

  length-candidates_at : (g : Graph S) (ns : List NodeIndex) → length (candidates_at g ns) ≤ length ns
  length-candidates_at g [] = omega arith
  length-candidates_at g (n ∷ ns) = go (solvable_at_node (slice_get g.nodes n.0)) (length-candidates_at g ns)
    where
      go : (o : Option S) → length (candidates_at g ns) ≤ length ns → length (with_candidate n o (candidates_at g ns)) ≤ length (n ∷ ns)
      go None h = omega arith
      go (Some s) h = omega arith

-- the runs of some edges weigh no more than the edges
abbrev pub run_total : ℕ → List Run → ℕ
run_total c [] = 0
run_total c (r ∷ rs) = (1 + length r.targets * c) + run_total c rs

run_total-first : (c : ℕ) (q : Need) (t : NodeIndex) (rs : List Run) → run_total c (with_first q t rs) ≤ run_total c rs + (1 + c)
run_total-first c q t [] = omega arith
run_total-first c q t (r ∷ rs) = go (same_requirement r.requirement q)
  where
    go : (b : Bool) → run_total c (cond b (record { requirement = r.requirement; targets = t ∷ r.targets } ∷ rs) (record { requirement = q; targets = t ∷ [] } ∷ r ∷ rs)) ≤ run_total c (r ∷ rs) + (1 + c)
    go true =
        let more : length (t ∷ r.targets) * c ≡ length r.targets * c + c = grind arith in
        omega arith
    go false = omega arith

run_total-edge : (c : ℕ) (o : Option Need) (t : NodeIndex) (rs : List Run) → run_total c (with_edge o t rs) ≤ run_total c rs + (1 + c)
run_total-edge c None t rs = omega arith
run_total-edge c (Some q) t rs = run_total-first c q t rs

run_total-runs_of : {S : Type 0} (c : ℕ) (es : List (Edge S)) → run_total c (runs_of es) ≤ length es * (1 + c)
run_total-runs_of c [] = omega arith
run_total-runs_of c (e ∷ es) =
    let rest : run_total c (runs_of es) ≤ length es * (1 + c) = run_total-runs_of c es in
    let one : run_total c (runs_of (e ∷ es)) ≤ run_total c (runs_of es) + (1 + c) = run_total-edge c (requirement_of e.weight) e.target (runs_of es) in
    let more : length (e ∷ es) * (1 + c) ≡ length es * (1 + c) + (1 + c) = grind arith in
    omega arith

-- in whichever rank, the runs weigh the same
split_total : (S : Type 0) (c : ℕ) (p : Run → Bool) (rs : List Run) → total {S = S} c (map Requirement (filter (λ r. not (p r)) rs)) + total {S = S} c (map Requirement (filter p rs)) ≡ run_total c rs
split_total S c p [] = refl
split_total S c p (r ∷ rs) = go (p r) (split_total S c p rs)
  where
    go : (b : Bool) → total {S = S} c (map Requirement (filter (λ r. not (p r)) rs)) + total {S = S} c (map Requirement (filter p rs)) ≡ run_total c rs → total {S = S} c (map Requirement (cond (not b) (r ∷ filter (λ r. not (p r)) rs) (filter (λ r. not (p r)) rs))) + total {S = S} c (map Requirement (cond b (r ∷ filter p rs) (filter p rs))) ≡ run_total c (r ∷ rs)
    go true h = omega arith
    go false h = omega arith

module _ {S : Type 0} where
  module _ (f : Findings S) where
    total-firsts : (c : ℕ) (covered : List S) (cs : List (NodeIndex × S)) → total c (firsts_after f covered cs) ≤ length cs * c
    total-firsts c covered [] = omega arith
    total-firsts c covered (d ∷ cs) = go (is_covered f covered d.1) (total-firsts c covered cs) (total-firsts c (covered_with f covered d.1) cs)
      where
        go : (b : Bool) → total c (firsts_after f covered cs) ≤ length cs * c → total c (firsts_after f (covered_with f covered d.1) cs) ≤ length cs * c → total c (cond b (firsts_after f covered cs) (Candidate d.0 d.1 ∷ firsts_after f (covered_with f covered d.1) cs)) ≤ length (d ∷ cs) * c
        go true h k =
            let more : length (d ∷ cs) * c ≡ length cs * c + c = grind arith in
            omega arith
        go false h k =
            let more : length (d ∷ cs) * c ≡ length cs * c + c = grind arith in
            omega arith

    length-shown : (o : Outlook) (r : Run) → length (shown_of f o r) ≤ length r.targets
    length-shown Missing r = omega arith
    length-shown Installable r =
        let few : length (filter (is_among f.installable) r.targets) ≤ length r.targets = rw (length-filter (is_among f.installable) r.targets) (count_by-le-length (is_among f.installable) r.targets) in
        let some : length (candidates_at f.graph (filter (is_among f.installable) r.targets)) ≤ length (filter (is_among f.installable) r.targets) = length-candidates_at f.graph (filter (is_among f.installable) r.targets) in
        omega arith
    length-shown Hopeless r = length-candidates_at f.graph r.targets

    total-options : (c : ℕ) (r : Run) → total c (options_of f r) ≤ length r.targets * c
    total-options c r =
        let firsts : total c (options_of f r) ≤ length (shown_of f (outlook_of f r) r) * c = total-firsts c [] (shown_of f (outlook_of f r) r) in
        let few : length (shown_of f (outlook_of f r) r) ≤ length r.targets = length-shown (outlook_of f r) r in
        let times : c * length (shown_of f (outlook_of f r) r) ≤ c * length r.targets = mul-le-mul_left c few in
        grind arith

    total-in_rank : (c : ℕ) (es : List (Edge S)) → total c (in_rank f (runs_of es)) ≤ length es * (1 + c)
    total-in_rank c es =
        let both : total c (in_rank f (runs_of es)) ≡ total c (map Requirement (filter (λ r. not (has_target_in f.installable r)) (runs_of es))) + total c (map Requirement (filter (has_target_in f.installable) (runs_of es))) = total-append c (map Requirement (filter (λ r. not (has_target_in f.installable r)) (runs_of es))) (map Requirement (filter (has_target_in f.installable) (runs_of es))) in
        let all : total {S = S} c (map Requirement (filter (λ r. not (has_target_in f.installable r)) (runs_of es))) + total {S = S} c (map Requirement (filter (has_target_in f.installable) (runs_of es))) ≡ run_total c (runs_of es) = split_total S c (has_target_in f.installable) (runs_of es) in
        let most : run_total c (runs_of es) ≤ length es * (1 + c) = run_total-runs_of c es in
        omega arith

    total-needs : (c : ℕ) (v : Verdict) (es : List (Edge S)) → total c (needs_of f v es) ≤ length es * (1 + c)
    total-needs c Alone es = omega arith
    total-needs c (Excluded why) es = omega arith
    total-needs c Conflicts es = omega arith
    total-needs c Constrains es = omega arith
    total-needs c Requires es = total-in_rank c es
    total-needs c Locked es = omega arith

    few : (n : NodeIndex) → length (edges_of f.graph n) ≤ length f.graph.edges
    few n = rw (length-reverse (filter (leaves n) f.graph.edges), length-filter (leaves n) f.graph.edges) (count_by-le-length (leaves n) f.graph.edges)

    -- the lines of some entries, then those of the others
    splits : (xs ys : List (Entry S)) (covered : List S) (lines : List (MessageLine S)) (after : List S) → Writes f covered (xs ++ ys) lines after → (a b : List (MessageLine S)) × (between : List S) × Writes f covered xs a between × Writes f between ys b after × (lines ≡ a ++ b)
    splits [] ys covered lines after t = ([], lines, covered, done covered, t, refl)
    splits (x ∷ xs) ys covered lines after (next e {es = es} {inner = inner} {rest = rest} {between = between} below behind) =
        let own = lines_at f covered x.op x.indent x.above in
        let more = splits xs ys between rest after behind in
        (own ++ (inner ++ more.0), more.1, more.2, next x below more.3, more.4, ap (λ ls. own ++ (inner ++ ls)) more.5 ∙ ap (λ ls. own ++ ls) (sym (append_assoc inner more.0 more.1)) ∙ sym (append_assoc own (inner ++ more.0) more.1))

    -- the remaining lines are those of the stack's entries
    abbrev pub Gives : List (Entry S) → List (Entry S) → List S → List (MessageLine S) → Type 0
    Gives start stack covered lines = (rest : List (MessageLine S)) (after : List S) → Writes f covered (reverse stack) rest after → Writes f [] start (lines ++ rest) after

    pub starts : (start stack : List (Entry S)) (covered : List S) (lines : List (MessageLine S)) → stack ≡ [] ++ reverse start → covered ≡ [] → lines ≡ [] → Gives start stack covered lines
    starts start stack covered lines put none empty rest after t =
        let turned : reverse stack ≡ start = ap reverse put ∙ reverse-twice start in
        let from : Writes f [] start rest after = subst (λ xs. Writes f xs start rest after) none (subst (λ xs. Writes f covered xs rest after) turned t) in
        subst (λ ls. Writes f [] start (ls ++ rest) after) (sym empty) from

    pub steps : (start stack below now : List (Entry S)) (covered covered_now : List S) (lines lines_now : List (MessageLine S)) (e : Entry S) → Gives start stack covered lines → stack ≡ below ++ e ∷ [] → now ≡ below ++ reverse (entries_below f covered e.op e.indent e.above) → covered_now ≡ covered_after f covered e.op e.above → lines_now ≡ lines ++ lines_at f covered e.op e.indent e.above → Gives start now covered_now lines_now
    steps start stack below now covered covered_now lines lines_now e gives at put with more rest after t =
        let xs = entries_below f covered e.op e.indent e.above in
        let own = lines_at f covered e.op e.indent e.above in
        let from : Writes f (covered_after f covered e.op e.above) (xs ++ reverse below) rest after = subst (λ ts. Writes f ts (xs ++ reverse below) rest after) with (subst (λ ys. Writes f covered_now ys rest after) (reverse_put below now xs put) t) in
        let parts = splits xs (reverse below) (covered_after f covered e.op e.above) rest after from in
        let one : Writes f covered (e ∷ reverse below) (own ++ (parts.0 ++ parts.1)) after = next e parts.3 parts.4 in
        let turned : reverse stack ≡ e ∷ reverse below = ap reverse at ∙ reverse-append below (e ∷ []) in
        let whole : Writes f [] start (lines ++ (own ++ (parts.0 ++ parts.1))) after = gives (own ++ (parts.0 ++ parts.1)) after (subst (λ ys. Writes f covered ys (own ++ (parts.0 ++ parts.1)) after) (sym turned) one) in
        let same : lines ++ (own ++ (parts.0 ++ parts.1)) ≡ lines_now ++ rest = sym (append_assoc lines own (parts.0 ++ parts.1)) ∙ ap (λ ls. (lines ++ own) ++ ls) (sym parts.5) ∙ ap (λ ls. ls ++ rest) (sym more) in
        subst (λ ls. Writes f [] start ls after) same whole

    pub ends : (start stack : List (Entry S)) (covered : List S) (lines : List (MessageLine S)) → Gives start stack covered lines → stack ≡ [] → (after : List S) × Writes f [] start lines after
    ends start stack covered lines gives none = (covered, subst (λ ls. Writes f [] start ls covered) (append-nil lines) (gives [] covered (subst (λ xs. Writes f covered (reverse xs) [] covered) (sym none) (done covered))))

    module _ {W : Type 0} (took : W → List (MessageLine S) → W → Type 0) where
      -- lines were taken, and those of the stack's entries are the remaining ones
      abbrev pub Follows : List (Entry S) → List (Entry S) → List S → W → W → Type 0
      Follows start stack covered old now = (lines : List (MessageLine S)) × Gives start stack covered lines × Adds took old lines now

      -- a tree was taken
      abbrev pub Taken : List (Entry S) → W → W → Type 0
      Taken start old now = (lines : List (MessageLine S)) × ((after : List S) × Writes f [] start lines after) × Adds took old lines now

      pub begins : (start stack : List (Entry S)) (covered : List S) (w : W) → stack ≡ [] ++ reverse start → covered ≡ [] → Follows start stack covered w w
      begins start stack covered w put none = ([], starts start stack covered [] put none refl, adds_none took w)

      pub follows : (start stack below now : List (Entry S)) (covered covered_now : List S) (was page : List (MessageLine S)) (old mid new : W) (e : Entry S) → Follows start stack covered old mid → stack ≡ below ++ e ∷ [] → now ≡ below ++ reverse (entries_below f covered e.op e.indent e.above) → covered_now ≡ covered_after f covered e.op e.above → was ≡ [] → page ≡ was ++ lines_at f covered e.op e.indent e.above → Adds took mid page new → Follows start now covered_now old new
      follows start stack below now covered covered_now was page old mid new e (lines, gives, adds) at put with none own more =
          let it : page ≡ lines_at f covered e.op e.indent e.above = own ∙ ap (λ ls. ls ++ lines_at f covered e.op e.indent e.above) none in (
            lines ++ lines_at f covered e.op e.indent e.above,
            steps start stack below now covered covered_now lines (lines ++ lines_at f covered e.op e.indent e.above) e gives at put with refl,
            adds_both took old mid new lines (lines_at f covered e.op e.indent e.above) adds (adds_same took mid new page (lines_at f covered e.op e.indent e.above) it more),
          )

      pub taken : (start stack : List (Entry S)) (covered : List S) (old now : W) → Follows start stack covered old now → stack ≡ [] → Taken start old now
      taken start stack covered old now (lines, gives, adds) none = (lines, ends start stack covered lines gives none, adds)

    -- us are nodes among which each entry's are
    module _ (us : List NodeIndex) where
      -- the nodes of an entry are targets of edges
      abbrev pub IsKnown : DisplayOp S → Type 0
      IsKnown (Requirement r) = All (λ n. is_among us n ≡ true) r.targets
      IsKnown (Candidate n s) = is_among us n ≡ true

      -- the entries below an entry weigh less than it
      lighter : (covered : List S) (o : DisplayOp S) (i : Indent) (above : List NodeIndex) → IsKnown o → weights f.graph us (entries_below f covered o i above) + 1 ≤ weight (cost (length f.graph.edges) (unseen us above)) o
      lighter covered (Requirement r) i above known =
          let c = cost (length f.graph.edges) (unseen us above) in
          let all : weights f.graph us (siblings i above (reverse (options_of f r))) ≡ total c (reverse (options_of f r)) = weights-siblings f.graph us i above (reverse (options_of f r)) in
          let turned : total c (reverse (options_of f r)) ≡ total c (options_of f r) = total-reverse c (options_of f r) in
          let most : total c (options_of f r) ≤ length r.targets * c = total-options c r in
          omega arith
      lighter covered (Candidate n s) i above known = go (is_covered f covered s || is_among above n) refl
        where
          go : (b : Bool) → (is_covered f covered s || is_among above n) ≡ b → weights f.graph us (cond b [] (siblings i (above ++ n ∷ []) (reverse (needs_of f (verdict_of f n) (edges_of f.graph n))))) + 1 ≤ cost (length f.graph.edges) (unseen us above)
          go true h = cost-positive (length f.graph.edges) (unseen us above)
          go false h =
              let e = length f.graph.edges in
              let u = unseen us above in
              let v = unseen us (above ++ n ∷ []) in
              let os = needs_of f (verdict_of f n) (edges_of f.graph n) in
              let fresh : is_among above n ≡ false = or_false (is_covered f covered s) (is_among above n) h in
              let less : v + 1 ≤ u = unseen-new us above n known fresh in
              let grown : cost e (suc v) ≤ cost e u = cost-le e (suc v) u (omega arith) in
              let all : weights f.graph us (siblings i (above ++ n ∷ []) (reverse os)) ≡ total (cost e v) (reverse os) = weights-siblings f.graph us i (above ++ n ∷ []) (reverse os) in
              let turned : total (cost e v) (reverse os) ≡ total (cost e v) os = total-reverse (cost e v) os in
              let most : total (cost e v) os ≤ length (edges_of f.graph n) * (1 + cost e v) = total-needs (cost e v) (verdict_of f n) (edges_of f.graph n) in
              let times : (1 + cost e v) * length (edges_of f.graph n) ≤ (1 + cost e v) * e = mul-le-mul_left (1 + cost e v) (few n) in
              let bound : total (cost e v) os ≤ e * (1 + cost e v) = grind arith in
              let step : cost e (suc v) ≡ 1 + e * (1 + cost e v) = refl in
              omega arith

      -- the measure falls
      pub smaller : (stack below now : List (Entry S)) (covered : List S) (e : Entry S) → IsKnown e.op → stack ≡ below ++ e ∷ [] → now ≡ below ++ reverse (entries_below f covered e.op e.indent e.above) → weights f.graph us (reverse now) < weights f.graph us (reverse stack)
      smaller stack below now covered e known at put =
          let xs = entries_below f covered e.op e.indent e.above in
          let turned : weights f.graph us (reverse now) ≡ weights f.graph us (xs ++ reverse below) = ap (weights f.graph us) (reverse_put below now xs put) in
          let both : weights f.graph us (xs ++ reverse below) ≡ weights f.graph us xs + weights f.graph us (reverse below) = weights-append f.graph us xs (reverse below) in
          let was : weights f.graph us (reverse stack) ≡ weights f.graph us (e ∷ reverse below) = ap (weights f.graph us) (ap reverse at ∙ reverse-append below (e ∷ [])) in
          let less : weights f.graph us xs + 1 ≤ weight (cost (length f.graph.edges) (unseen us e.above)) e.op = lighter covered e.op e.indent e.above known in
          omega arith

      -- the entries below a known one are known
      known_candidates : (ns : List NodeIndex) → All (λ n. is_among us n ≡ true) ns → All (λ c. is_among us c.0 ≡ true) (candidates_at f.graph ns)
      known_candidates [] h = All-nil (λ c. is_among us c.0 ≡ true)
      known_candidates (n ∷ ns) h = go (solvable_at_node (slice_get f.graph.nodes n.0)) (known_candidates ns (All-tail (λ m. is_among us m ≡ true) n ns h))
        where
          go : (o : Option S) → All (λ c. is_among us c.0 ≡ true) (candidates_at f.graph ns) → All (λ c. is_among us c.0 ≡ true) (with_candidate n o (candidates_at f.graph ns))
          go None k = k
          go (Some s) k = All-cons (λ c. is_among us c.0 ≡ true) (n, s) (candidates_at f.graph ns) (All-head (λ m. is_among us m ≡ true) n ns h) k

      known_shown : (o : Outlook) (r : Run) → All (λ n. is_among us n ≡ true) r.targets → All (λ c. is_among us c.0 ≡ true) (shown_of f o r)
      known_shown Missing r h = All-nil (λ c. is_among us c.0 ≡ true)
      known_shown Installable r h = known_candidates (filter (is_among f.installable) r.targets) (All-filter (is_among f.installable) (λ n. is_among us n ≡ true) r.targets h)
      known_shown Hopeless r h = known_candidates r.targets h

      known_firsts : (covered : List S) (cs : List (NodeIndex × S)) → All (λ c. is_among us c.0 ≡ true) cs → All IsKnown (firsts_after f covered cs)
      known_firsts covered [] h = All-nil IsKnown
      known_firsts covered (d ∷ cs) h = go (is_covered f covered d.1) (known_firsts covered cs (All-tail (λ c. is_among us c.0 ≡ true) d cs h)) (known_firsts (covered_with f covered d.1) cs (All-tail (λ c. is_among us c.0 ≡ true) d cs h))
        where
          go : (b : Bool) → All IsKnown (firsts_after f covered cs) → All IsKnown (firsts_after f (covered_with f covered d.1) cs) → All IsKnown (cond b (firsts_after f covered cs) (Candidate d.0 d.1 ∷ firsts_after f (covered_with f covered d.1) cs))
          go true a b = a
          go false a b = All-cons IsKnown (Candidate d.0 d.1) (firsts_after f (covered_with f covered d.1) cs) (All-head (λ c. is_among us c.0 ≡ true) d cs h) b

      known_in_rank : (rs : List Run) → All (λ r. All (λ n. is_among us n ≡ true) r.targets) rs → All IsKnown (in_rank f rs)
      known_in_rank rs h =
          All-append IsKnown (map Requirement (filter (λ r. not (has_target_in f.installable r)) rs)) (map Requirement (filter (has_target_in f.installable) rs))
          (All-map IsKnown Requirement (filter (λ r. not (has_target_in f.installable r)) rs) (All-filter (λ r. not (has_target_in f.installable r)) (λ r. IsKnown (Requirement r)) rs h))
          (All-map IsKnown Requirement (filter (has_target_in f.installable) rs) (All-filter (has_target_in f.installable) (λ r. IsKnown (Requirement r)) rs h))

      abbrev pub IsKnownRun : Run → Type 0
      IsKnownRun r = All (λ n. is_among us n ≡ true) r.targets

      one_known : (t : NodeIndex) → is_among us t ≡ true → All (λ n. is_among us n ≡ true) (t ∷ [])
      one_known t h = All-cons (λ n. is_among us n ≡ true) t [] h (All-nil (λ n. is_among us n ≡ true))

      known_first : (q : Need) (t : NodeIndex) (rs : List Run) → is_among us t ≡ true → All IsKnownRun rs → All IsKnownRun (with_first q t rs)
      known_first q t [] h k = All-cons IsKnownRun (record { requirement = q; targets = t ∷ [] }) [] (one_known t h) (All-nil IsKnownRun)
      known_first q t (r ∷ rs) h k = go (same_requirement r.requirement q)
        where
          go : (b : Bool) → All IsKnownRun (cond b (record { requirement = r.requirement; targets = t ∷ r.targets } ∷ rs) (record { requirement = q; targets = t ∷ [] } ∷ r ∷ rs))
          go true = All-cons IsKnownRun (record { requirement = r.requirement; targets = t ∷ r.targets }) rs (All-cons (λ n. is_among us n ≡ true) t r.targets h (All-head IsKnownRun r rs k)) (All-tail IsKnownRun r rs k)
          go false = All-cons IsKnownRun (record { requirement = q; targets = t ∷ [] }) (r ∷ rs) (one_known t h) k

      known_edge : (o : Option Need) (t : NodeIndex) (rs : List Run) → is_among us t ≡ true → All IsKnownRun rs → All IsKnownRun (with_edge o t rs)
      known_edge None t rs h k = k
      known_edge (Some q) t rs h k = known_first q t rs h k

      pub known_runs : (es : List (Edge S)) → All (λ e. is_among us e.target ≡ true) es → All IsKnownRun (runs_of es)
      known_runs [] h = All-nil IsKnownRun
      known_runs (e ∷ es) h = known_edge (requirement_of e.weight) e.target (runs_of es) (All-head (λ d. is_among us d.target ≡ true) e es h) (known_runs es (All-tail (λ d. is_among us d.target ≡ true) e es h))

      known_needs : (v : Verdict) (es : List (Edge S)) → All (λ e. is_among us e.target ≡ true) es → All IsKnown (needs_of f v es)
      known_needs Alone es h = All-nil IsKnown
      known_needs (Excluded why) es h = All-nil IsKnown
      known_needs Conflicts es h = All-nil IsKnown
      known_needs Constrains es h = All-nil IsKnown
      known_needs Requires es h = known_in_rank (runs_of es) (known_runs es h)
      known_needs Locked es h = All-nil IsKnown

      known_siblings : (i : Indent) (above : List NodeIndex) (os : List (DisplayOp S)) → All IsKnown os → All (λ e. IsKnown e.op) (siblings i above os)
      known_siblings i above [] h = All-nil (λ e. IsKnown e.op)
      known_siblings i above (o ∷ os) h = All-cons (λ e. IsKnown e.op) (record { op = o; indent = level_below i (order_before os); above = above }) (siblings i above os) (All-head IsKnown o os h) (known_siblings i above os (All-tail IsKnown o os h))

      known_turned : (os : List (DisplayOp S)) → All IsKnown os → All IsKnown (reverse os)
      known_turned os h = All-permutation IsKnown os (reverse os) (IsPermutation-reverse os) h

      known_below : ((n : NodeIndex) → All (λ e. is_among us e.target ≡ true) (edges_of f.graph n)) → (covered : List S) (o : DisplayOp S) (i : Indent) (above : List NodeIndex) → IsKnown o → All (λ e. IsKnown e.op) (entries_below f covered o i above)
      known_below met covered (Requirement r) i above h = known_siblings i above (reverse (options_of f r)) (known_turned (options_of f r) (known_firsts [] (shown_of f (outlook_of f r) r) (known_shown (outlook_of f r) r h)))
      known_below met covered (Candidate n s) i above h = go (is_covered f covered s || is_among above n)
        where
          go : (b : Bool) → All (λ e. IsKnown e.op) (cond b [] (siblings i (above ++ n ∷ []) (reverse (needs_of f (verdict_of f n) (edges_of f.graph n)))))
          go true = All-nil (λ e. IsKnown e.op)
          go false = known_siblings i (above ++ n ∷ []) (reverse (needs_of f (verdict_of f n) (edges_of f.graph n))) (known_turned (needs_of f (verdict_of f n) (edges_of f.graph n)) (known_needs (verdict_of f n) (edges_of f.graph n) (met n)))

      -- the pushed entries are known
      known_put : (below now xs : List (Entry S)) → All (λ e. IsKnown e.op) below → All (λ e. IsKnown e.op) xs → now ≡ below ++ reverse xs → All (λ e. IsKnown e.op) now
      known_put below now xs h k put = All-same (λ e. IsKnown e.op) now (below ++ reverse xs) put (All-append (λ e. IsKnown e.op) below (reverse xs) h (All-permutation (λ e. IsKnown e.op) xs (reverse xs) (IsPermutation-reverse xs) k))

      pub known_next : ((n : NodeIndex) → All (λ e. is_among us e.target ≡ true) (edges_of f.graph n)) → (below now : List (Entry S)) (covered : List S) (e : Entry S) → All (λ d. IsKnown d.op) below → IsKnown e.op → now ≡ below ++ reverse (entries_below f covered e.op e.indent e.above) → All (λ d. IsKnown d.op) now
      known_next met below now covered e h k put = known_put below now (entries_below f covered e.op e.indent e.above) h (known_below met covered e.op e.indent e.above k) put

      pub known_start : (i : Indent) (stack : List (Entry S)) (es : List (Edge S)) → All (λ e. is_among us e.target ≡ true) es → stack ≡ [] ++ reverse (siblings i [] (reverse (in_rank f (runs_of es)))) → All (λ d. IsKnown d.op) stack
      known_start i stack es h put = known_put [] stack (siblings i [] (reverse (in_rank f (runs_of es)))) (All-nil (λ d. IsKnown d.op)) (known_siblings i [] (reverse (in_rank f (runs_of es))) (known_turned (in_rank f (runs_of es)) (known_in_rank (runs_of es) (known_runs es h)))) put

      -- whichever entries are left, they have lines: each entry weighs more than those below it
      finishes : ((n : NodeIndex) → All (λ e. is_among us e.target ≡ true) (edges_of f.graph n)) → (fuel : ℕ) (covered : List S) (es : List (Entry S)) → All (λ e. IsKnown e.op) es → weights f.graph us es ≤ fuel → (lines : List (MessageLine S)) × (after : List S) × Writes f covered es lines after
      finishes met fuel covered [] known few = ([], covered, done covered)
      finishes met zero covered (e ∷ es) known few =
          let less : weights f.graph us (entries_below f covered e.op e.indent e.above) + 1 ≤ weight (cost (length f.graph.edges) (unseen us e.above)) e.op = lighter covered e.op e.indent e.above (All-head (λ d. IsKnown d.op) e es known) in
          absurd (omega arith)
      finishes met (suc k) covered (e ∷ es) known few =
          let own : IsKnown e.op = All-head (λ d. IsKnown d.op) e es known in
          let less : weights f.graph us (entries_below f covered e.op e.indent e.above) + 1 ≤ weight (cost (length f.graph.edges) (unseen us e.above)) e.op = lighter covered e.op e.indent e.above own in
          let inner = finishes met k (covered_after f covered e.op e.above) (entries_below f covered e.op e.indent e.above) (known_below met covered e.op e.indent e.above own) (omega arith) in
          let rest = finishes met k inner.1 es (All-tail (λ d. IsKnown d.op) e es known) (omega arith) in
          (lines_at f covered e.op e.indent e.above ++ (inner.0 ++ rest.0), rest.1, next e inner.2 rest.2)

      -- what is full has taken the remaining lines, too
      pub filled : {W : Type 0} (took : W → List (MessageLine S) → W → Type 0) → ((n : NodeIndex) → All (λ e. is_among us e.target ≡ true) (edges_of f.graph n)) → (start stack : List (Entry S)) (covered : List S) (old full : W) → All (λ e. IsKnown e.op) stack → Follows took start stack covered old full → Stays took full → Taken took start old full
      filled took met start stack covered old full known (lines, gives, adds) stays =
          let rest = finishes met (weights f.graph us (reverse stack)) covered (reverse stack) (All-permutation (λ e. IsKnown e.op) stack (reverse stack) (IsPermutation-reverse stack) known) (omega arith) in
          (lines ++ rest.0, (rest.1, gives rest.0 rest.1 rest.2), adds_both took old full full lines rest.0 adds (stays rest.0))

-- the targets of these edges, and of all edges of the graph
abbrev pub reached : {S : Type 0} → Graph S → List (Edge S) → List NodeIndex
reached g es = map (λ e. e.target) es ++ map (λ e. e.target) g.edges

or_left : (a b : Bool) → a ≡ true → (a || b) ≡ true
or_left true b h = refl
or_left false b h = cc

or_right : (a b : Bool) → b ≡ true → (a || b) ≡ true
or_right true b h = refl
or_right false b h = h

pub reached_own : {S : Type 0} (g : Graph S) (es : List (Edge S)) → All (λ e. is_among (reached g es) e.target ≡ true) es
reached_own g es = targets_among es (reached g es) (λ n h. list_any-append (same_node n) (map (λ e. e.target) es) (map (λ e. e.target) g.edges) ∙ or_left (is_among (map (λ e. e.target) es) n) (is_among (map (λ e. e.target) g.edges) n) h)

pub reached_edges : {S : Type 0} (g : Graph S) (es : List (Edge S)) (n : NodeIndex) → All (λ e. is_among (reached g es) e.target ≡ true) (edges_of g n)
reached_edges g es n = edges_among g (reached g es) (λ m h. list_any-append (same_node m) (map (λ e. e.target) es) (map (λ e. e.target) g.edges) ∙ or_right (is_among (map (λ e. e.target) es) m) (is_among (map (λ e. e.target) g.edges) m) h) n

-- the runs of a tree are pushed
pub put_top : {S : Type 0} (stack old : List (Entry S)) (i j : Indent) (a : List NodeIndex) (os qs : List (DisplayOp S)) → stack ≡ old ++ reverse (siblings i a (reverse os)) → i ≡ j → a ≡ [] → os ≡ qs → stack ≡ old ++ reverse (siblings j [] (reverse qs))
put_top stack old i j a os qs put same top ops =
    put ∙ ap (λ k. old ++ reverse (siblings k a (reverse os))) same ∙ ap (λ ns. old ++ reverse (siblings j ns (reverse os))) top ∙ ap (λ xs. old ++ reverse (siblings j [] (reverse xs))) ops

-- one sibling more is pushed
pub sibling_more : {S : Type 0} (i : Indent) (above : List NodeIndex) (ys : List (DisplayOp S)) (o : DisplayOp S) (old stack now : List (Entry S)) (order : ChildOrder) (e : Entry S) → stack ≡ old ++ reverse (siblings i above (reverse ys)) → order ≡ order_before (reverse ys) → e ≡ record { op = o; indent = level_below i order; above = above } → now ≡ stack ++ e ∷ [] → now ≡ old ++ reverse (siblings i above (reverse (ys ++ o ∷ [])))
sibling_more {S} i above ys o old stack now order e so last is put =
    let it : Entry S = record { op = o; indent = level_below i (order_before (reverse ys)); above = above } in
    let same : e ≡ it = is ∙ ap (λ (q : ChildOrder). record { op = o; indent = level_below i q; above = above }) last in
    put ∙ ap (λ x. stack ++ x ∷ []) same ∙ ap (λ xs. xs ++ it ∷ []) so ∙ append_assoc old (reverse (siblings i above (reverse ys))) (it ∷ [])
    ∙ ap (λ xs. old ++ xs) (sym (ap (λ zs. reverse (siblings i above zs)) (reverse-append ys (o ∷ [])) ∙ reverse-append (it ∷ []) (siblings i above (reverse ys))))

pub more_before : {S : Type 0} (ys : List (DisplayOp S)) (o : DisplayOp S) → HasRemainingSiblings ≡ order_before (reverse (ys ++ o ∷ []))
more_before ys o = sym (ap order_before (reverse-append ys (o ∷ [])))

-- one candidate more
pub first_more : {S : Type 0} (f : Findings S) (cs : List (NodeIndex × S)) (i : ℕ) (c : NodeIndex × S) (covered covered_now : List S) (all found now : List (DisplayOp S)) → drop i cs ≡ c ∷ drop (i + 1) cs → all ≡ found ++ firsts_after f covered (drop i cs) → covered_now ≡ cond (is_covered f covered c.1) covered (covered_with f covered c.1) → now ≡ found ++ cond (is_covered f covered c.1) [] (Candidate c.0 c.1 ∷ []) → all ≡ now ++ firsts_after f covered_now (drop (i + 1) cs)
first_more {S} f cs i c covered covered_now all found now here so with put =
    so ∙ ap (λ xs. found ++ firsts_after f covered xs) here ∙ go (is_covered f covered c.1)
    ∙ ap (λ xs. xs ++ firsts_after f (cond (is_covered f covered c.1) covered (covered_with f covered c.1)) (drop (i + 1) cs)) (sym put)
    ∙ ap (λ ts. now ++ firsts_after f ts (drop (i + 1) cs)) (sym with)
  where
    go : (b : Bool) → found ++ cond b (firsts_after f covered (drop (i + 1) cs)) (Candidate c.0 c.1 ∷ firsts_after f (covered_with f covered c.1) (drop (i + 1) cs)) ≡ (found ++ cond b [] (Candidate c.0 c.1 ∷ [])) ++ firsts_after f (cond b covered (covered_with f covered c.1)) (drop (i + 1) cs)
    go true = ap (λ xs. xs ++ firsts_after f covered (drop (i + 1) cs)) (sym (append-nil found))
    go false = sym (append_assoc found (Candidate c.0 c.1 ∷ []) (firsts_after f (covered_with f covered c.1) (drop (i + 1) cs)))
