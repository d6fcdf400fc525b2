-- The trees of the message: runs of a requirement, below them versions, below these their runs.
use Rattle.std.specs.Prelude.{◌==◌, ◌||◌, ◌++◌, Bool, true, false, not, List, [], ◌∷◌, Option, None, Some, cond, filter, map, reverse, slice_get, unwrap_or}
use Rattle.std.specs.List.{list_any, dedup}
use Rattle.std.specs.Option.{option_or}
use Rattle.indexmap.specs.IndexSet.{insert_all}
use Rattle.resolvo_pool_core.specs.declared.id.StringId.{StringId}
use Rattle.resolvo_pool_core.specs.declared.id.VersionSetId.{VersionSetId}
use Rattle.resolvo_graph.specs.declared.graph.NodeIndex.{NodeIndex}
use Rattle.resolvo_graph.specs.declared.graph.ConflictNode.{ConflictNode}
use Rattle.resolvo_graph.specs.declared.graph.ConflictNode.TheVariants as Nodes
use Rattle.resolvo_graph.specs.declared.graph.Edge.{Edge}
use Rattle.resolvo_graph.specs.declared.indenter.ChildOrder.{ChildOrder}
use Rattle.resolvo_graph.specs.declared.indenter.ChildOrder.TheVariants.{HasRemainingSiblings, Last}
use Rattle.resolvo_graph.specs.declared.display_line.Outlook.{Outlook}
use Rattle.resolvo_graph.specs.declared.display_line.Outlook.TheVariants.{Missing, Installable, Hopeless}
use Rattle.resolvo_graph.specs.declared.display_line.Verdict.{Verdict}
use Rattle.resolvo_graph.specs.declared.display_line.Verdict.TheVariants.{Alone, Excluded, Conflicts, Constrains, Requires, Locked}
use Rattle.resolvo_graph.specs.declared.display_line.Sentence.TheVariants as Sentences
use Rattle.resolvo_graph.specs.declared.display_line.MessageLine.{MessageLine}
use Rattle.resolvo_graph.specs.declared.tree.DisplayOp.{DisplayOp}
use Rattle.resolvo_graph.specs.declared.tree.DisplayOp.TheVariants.{Requirement, Candidate}
use Rattle.resolvo_graph.specs.Graph.{Graph, edges_of, is_unresolved_at, is_forbidden, is_exclusion, admitted_by}
use Rattle.resolvo_graph.specs.Indent.{Indent, level_below}
use Rattle.resolvo_graph.specs.Merge.{solvable_of}
use Rattle.resolvo_graph.specs.Outlook.{has_target_in}
use Rattle.resolvo_graph.specs.Runs.{Run, runs_of}
use Rattle.resolvo_graph.specs.Walk.{is_among}

-- an entry of a tree: its content, its indent, and the versions above it
pub record Entry (S : Type 0) : Type 0 where
  pub op : DisplayOp S
  pub indent : Indent
  pub above : List NodeIndex

-- the input: the graph, equality of versions, the installable nodes, and the merged versions
pub record Findings (S : Type 0) : Type 0 where
  pub graph : Graph S
  pub same : S → S → Bool
  pub installable : List NodeIndex
  pub merged : S → Option (List S)

-- the sign of an entry with these siblings below it
abbrev pub order_before : {X : Type 0} → List X → ChildOrder
order_before [] = Last
order_before (x ∷ xs) = HasRemainingSiblings

-- siblings one level below this indent, in the order of their lines
abbrev pub siblings : {S : Type 0} → Indent → List NodeIndex → List (DisplayOp S) → List (Entry S)
siblings i above [] = []
siblings i above (o ∷ os) = record { op = o; indent = level_below i (order_before os); above = above } ∷ siblings i above os

-- the edge is the only one of its run, and leads to the unresolved node
abbrev pub is_missing : {S : Type 0} → Graph S → List NodeIndex → Bool
is_missing g [] = false
is_missing g (n ∷ []) = is_unresolved_at g n
is_missing g (n ∷ m ∷ ns) = false

abbrev pub solvable_at_node : {S : Type 0} → Option (ConflictNode S) → Option S
solvable_at_node None = None
solvable_at_node (Some n) = solvable_of n

abbrev pub with_candidate : {S : Type 0} → NodeIndex → Option S → List (NodeIndex × S) → List (NodeIndex × S)
with_candidate n None cs = cs
with_candidate n (Some s) cs = (n, s) ∷ cs

-- the versions among these nodes
abbrev pub candidates_at : {S : Type 0} → Graph S → List NodeIndex → List (NodeIndex × S)
candidates_at g [] = []
candidates_at g (n ∷ ns) = with_candidate n (solvable_at_node (slice_get g.nodes n.0)) (candidates_at g ns)

abbrev pub reason_of_node : {S : Type 0} → Option (ConflictNode S) → Option StringId
reason_of_node None = None
reason_of_node (Some Nodes.Root) = None
reason_of_node (Some (Nodes.Solvable s)) = None
reason_of_node (Some Nodes.UnresolvedDependency) = None
reason_of_node (Some (Nodes.Excluded why)) = Some why

-- the reason of the first exclusion among these edges
abbrev pub reason_in : {S : Type 0} → Graph S → List (Edge S) → Option StringId
reason_in g [] = None
reason_in g (e ∷ es) = option_or (cond (is_exclusion e.weight) (reason_of_node (slice_get g.nodes e.target.0)) None) (reason_in g es)

abbrev pub is_some_set : Option VersionSetId → Bool
is_some_set None = false
is_some_set (Some v) = true

-- the source of the edge admits only some versions of another package
abbrev pub is_admitting : {S : Type 0} → Edge S → Bool
is_admitting e = is_some_set (admitted_by e.weight)

abbrev pub with_set : Option VersionSetId → List VersionSetId → List VersionSetId
with_set None vs = vs
with_set (Some v) vs = v ∷ vs

-- the version sets that a node with these edges admits alone
abbrev pub admitted_in : {S : Type 0} → List (Edge S) → List VersionSetId
admitted_in [] = []
admitted_in (e ∷ es) = with_set (admitted_by e.weight) (admitted_in es)

abbrev pub same_set : VersionSetId → VersionSetId → Bool
same_set v w = v.0 == w.0

-- the verdict on a version with these edges, and this reason of an exclusion, which goes first
abbrev pub verdict_for : {S : Type 0} → Option StringId → List (Edge S) → Verdict
verdict_for (Some why) es = Excluded why
verdict_for None [] = Alone
verdict_for None (e ∷ es) = cond (list_any (λ d. is_forbidden d.weight) (e ∷ es)) Conflicts (cond (list_any is_admitting (e ∷ es)) Constrains Requires)

-- the verdict on a version with these edges
abbrev pub verdict_in : {S : Type 0} → Graph S → List (Edge S) → Verdict
verdict_in g es = verdict_for (reason_in g es) es

-- a line for each version set that a version admits alone, one level deeper
abbrev pub admitted_lines : {S : Type 0} → Indent → List VersionSetId → List (MessageLine S)
admitted_lines i [] = []
admitted_lines i (v ∷ vs) = record { indenter = level_below i (order_before vs); sentence = Sentences.Admitted v } ∷ admitted_lines i vs

-- the further lines of a version with this verdict: its version sets, without consecutive repeats
abbrev pub further_lines : {S : Type 0} → Verdict → Indent → List (Edge S) → List (MessageLine S)
further_lines Alone i es = []
further_lines (Excluded why) i es = []
further_lines Conflicts i es = []
further_lines Constrains i es = admitted_lines i (dedup same_set (admitted_in es))
further_lines Requires i es = []
further_lines Locked i es = []

module _ {S : Type 0} (f : Findings S) where
  -- the sentence on a run
  abbrev pub outlook_of : Run → Outlook
  outlook_of r = cond (is_missing f.graph r.targets) Missing (cond (has_target_in f.installable r) Installable Hopeless)

  -- the versions that a run shows: the installable ones, if there are any
  abbrev pub shown_of : Outlook → Run → List (NodeIndex × S)
  shown_of Missing r = []
  shown_of Installable r = candidates_at f.graph (filter (is_among f.installable) r.targets)
  shown_of Hopeless r = candidates_at f.graph r.targets

  -- the versions that lines cover, with those that are merged with s
  abbrev pub covered_with : List S → S → List S
  covered_with covered s = insert_all f.same covered (unwrap_or (f.merged s) [])

  abbrev pub is_covered : List S → S → Bool
  is_covered covered s = list_any (f.same s) covered

  -- the versions, of merged ones only the first
  abbrev pub firsts_after : List S → List (NodeIndex × S) → List (DisplayOp S)
  firsts_after covered [] = []
  firsts_after covered (c ∷ cs) = cond (is_covered covered c.1) (firsts_after covered cs) (Candidate c.0 c.1 ∷ firsts_after (covered_with covered c.1) cs)

  -- the versions below a run
  abbrev pub options_of : Run → List (DisplayOp S)
  options_of r = firsts_after [] (shown_of (outlook_of r) r)

  -- the runs, those with an installable target last
  abbrev pub in_rank : List Run → List (DisplayOp S)
  in_rank rs = map Requirement (filter (λ r. not (has_target_in f.installable r)) rs) ++ map Requirement (filter (has_target_in f.installable) rs)

  abbrev pub verdict_of : NodeIndex → Verdict
  verdict_of n = verdict_in f.graph (edges_of f.graph n)

  -- the runs below a version with this verdict and these edges
  abbrev pub needs_of : Verdict → List (Edge S) → List (DisplayOp S)
  needs_of Alone es = []
  needs_of (Excluded why) es = []
  needs_of Conflicts es = []
  needs_of Constrains es = []
  needs_of Requires es = in_rank (runs_of es)
  needs_of Locked es = []

  -- a line covers the version already, or it is below itself
  abbrev pub is_passed : List S → NodeIndex → S → List NodeIndex → Bool
  is_passed covered n s above = is_covered covered s || is_among above n

  -- the lines of a version with these edges, without those below it
  abbrev pub lines_with : S → List (Edge S) → Indent → List (MessageLine S)
  lines_with s es i = record { indenter = i; sentence = Sentences.Versions (unwrap_or (f.merged s) (s ∷ [])) (verdict_in f.graph es) } ∷ further_lines (verdict_in f.graph es) i es

  abbrev pub version_lines : NodeIndex → S → Indent → List (MessageLine S)
  version_lines n s i = lines_with s (edges_of f.graph n) i

  -- the lines of an entry itself
  abbrev pub lines_at : List S → DisplayOp S → Indent → List NodeIndex → List (MessageLine S)
  lines_at covered (Requirement r) i above = record { indenter = i; sentence = Sentences.Requirement r.requirement (outlook_of r) } ∷ []
  lines_at covered (Candidate n s) i above = cond (is_passed covered n s above) [] (version_lines n s i)

  -- the entries one level below; the first of a list is the last one in the text
  abbrev pub entries_below : List S → DisplayOp S → Indent → List NodeIndex → List (Entry S)
  entries_below covered (Requirement r) i above = siblings i above (reverse (options_of r))
  entries_below covered (Candidate n s) i above = cond (is_passed covered n s above) [] (siblings i (above ++ n ∷ []) (reverse (needs_of (verdict_of n) (edges_of f.graph n))))

  -- the versions that lines cover after an entry's own ones
  abbrev pub covered_after : List S → DisplayOp S → List NodeIndex → List S
  covered_after covered (Requirement r) above = covered
  covered_after covered (Candidate n s) above = cond (is_passed covered n s above) covered (covered_with covered s)

  -- after lines that cover some versions, these entries have these lines, which cover more:
  -- an entry's own lines, then those below it, then those of the next entries
  pub data Writes : List S → List (Entry S) → List (MessageLine S) → List S → Type 0 where
    done : (covered : List S) → Writes covered [] [] covered
    next : {covered : List S} (e : Entry S) {es : List (Entry S)} {inner rest : List (MessageLine S)} {between after : List S} → Writes (covered_after covered e.op e.above) (entries_below covered e.op e.indent e.above) inner between → Writes between es rest after → Writes covered (e ∷ es) (lines_at covered e.op e.indent e.above ++ (inner ++ rest)) after

  -- the lines of the tree of some runs
  abbrev pub IsTree : Bool → List Run → List (MessageLine S) → Type 0
  IsTree top_level_indent rs lines = (covered : List S) × Writes [] (siblings (record { levels = []; top_level_indent = top_level_indent }) [] (reverse (in_rank rs))) lines covered
