-- The whole message, as a function of a conflict graph.
use Rattle.std.specs.Prelude.{◌≡◌, ℕ, ◌<◌, ◌≤◌, ◌++◌, Bool, true, false, not, List, [], ◌∷◌, Option, None, Some, filter, length}
use Rattle.std.specs.List.{flat_map}
use Rattle.resolvo_graph.specs.declared.graph.NodeIndex.{NodeIndex}
use Rattle.resolvo_graph.specs.declared.graph.Edge.{Edge}
use Rattle.resolvo_graph.specs.declared.graph.ConflictCause.TheVariants as Causes
use Rattle.resolvo_graph.specs.declared.graph.ConflictEdge.{ConflictEdge}
use Rattle.resolvo_graph.specs.declared.graph.ConflictEdge.TheVariants as Edges
use Rattle.resolvo_graph.specs.declared.display_line.Verdict.TheVariants.{Locked}
use Rattle.resolvo_graph.specs.declared.display_line.Sentence.{Sentence}
use Rattle.resolvo_graph.specs.declared.display_line.Sentence.TheVariants as Sentences
use Rattle.resolvo_graph.specs.declared.display_line.MessageLine.{MessageLine}
use Rattle.resolvo_graph.specs.Graph.{Graph, edges_of}
use Rattle.resolvo_graph.specs.Indent.{Indent}
use Rattle.resolvo_graph.specs.Merge.{IsMerged}
use Rattle.resolvo_graph.specs.Outlook.{installable_in, missing_in}
use Rattle.resolvo_graph.specs.Runs.{runs_of}
use Rattle.resolvo_graph.specs.Tree.{Findings, IsTree, order_before}
use Rattle.resolvo_graph.specs.Walk.{IsPostOrder, is_among}
use Rattle.resolvo_graph.specs.Words.{Meaning, line_text}

-- the sentence on a conflict of the root itself: on a constraint, or on a lock
abbrev pub conflict_sentence : {S : Type 0} → ConflictEdge S → Option (Sentence S)
conflict_sentence (Edges.Requires q) = None
conflict_sentence (Edges.Conflict (Causes.Locked s)) = Some (Sentences.Versions (s ∷ []) Locked)
conflict_sentence (Edges.Conflict (Causes.Constrains v)) = Some (Sentences.Constraint v)
conflict_sentence (Edges.Conflict Causes.ForbidMultipleInstances) = None
conflict_sentence (Edges.Conflict Causes.Excluded) = None

abbrev pub line_with : {S : Type 0} → Option (Sentence S) → Indent → List (MessageLine S)
line_with None i = []
line_with (Some s) i = record { indenter = i; sentence = s } ∷ []

-- the line of a conflict of the root itself, if it has one
abbrev pub conflict_line : {S : Type 0} → ConflictEdge S → Indent → List (MessageLine S)
conflict_line e i = line_with (conflict_sentence e) i

-- the lines of the root's own conflicts; the last edge has the sign of a last sibling
abbrev pub conflict_lines : {S : Type 0} → List (Edge S) → List (MessageLine S)
conflict_lines [] = []
conflict_lines (e ∷ es) = conflict_line e.weight (record { levels = order_before es ∷ []; top_level_indent = true }) ++ conflict_lines es

abbrev pub heading : {S : Type 0} → MessageLine S
heading = record { indenter = record { levels = []; top_level_indent = true }; sentence = Sentences.Incompatible }

-- the edge leads to a node that misses a candidate
abbrev pub misses : {S : Type 0} → List NodeIndex → Edge S → Bool
misses missing e = is_among missing e.target

abbrev pub fits : {S : Type 0} → List NodeIndex → Edge S → Bool
fits missing e = not (is_among missing e.target)

module _ {S : Type 0} (f : Findings S) where
  -- the second part, of the edges that don't miss a candidate and all edges of the root: a heading,
  -- the tree, and the root's own conflicts
  abbrev pub IsSecondPart : List (Edge S) → List (Edge S) → List (MessageLine S) → Type 0
  IsSecondPart [] all lines = lines ≡ []
  IsSecondPart (e ∷ es) all lines = (tree : List (MessageLine S)) × IsTree f true (runs_of (e ∷ es)) tree × (lines ≡ heading ∷ tree ++ conflict_lines all)

  -- the parts of the root's edges: the tree of those that miss a candidate, then the second part
  abbrev pub AreParts : List NodeIndex → List (Edge S) → List (MessageLine S) → Type 0
  AreParts missing es lines = (first second : List (MessageLine S)) × IsTree f false (runs_of (filter (misses missing) es)) first × IsSecondPart (filter (fits missing) es) es second × (lines ≡ first ++ second)

-- the lines of the message of a graph
pub record IsMessage {N S : Type 0} (same_name : N → N → Bool) (same : S → S → Bool) (name_of : S → N) (g : Graph S) (lines : List (MessageLine S)) : Type 0 where
  pub order : List NodeIndex
  pub merged : S → Option (List S)
  pub walked : IsPostOrder g order
  pub are_merged : IsMerged same_name same g name_of merged
  pub parts : AreParts (record { graph = g; same = same; installable = installable_in g order; merged = merged }) (missing_in g order) (edges_of g (record { 0 = 0 })) lines

-- the lines along this walk, with these merged versions, where these nodes miss a candidate
abbrev pub ArePartsAlong : {S : Type 0} → (S → S → Bool) → (S → Option (List S)) → Graph S → List NodeIndex → List NodeIndex → List (MessageLine S) → Type 0
ArePartsAlong same merged g order missing lines = AreParts (record { graph = g; same = same; installable = installable_in g order; merged = merged }) missing (edges_of g (record { 0 = 0 })) lines

-- the lines along this walk, with these merged versions
abbrev pub AreLinesAlong : {S : Type 0} → (S → S → Bool) → (S → Option (List S)) → Graph S → List NodeIndex → List (MessageLine S) → Type 0
AreLinesAlong same merged g order lines = ArePartsAlong same merged g order (missing_in g order) lines

-- the lines along some walk
abbrev pub AreLinesWith : {S : Type 0} → (S → S → Bool) → (S → Option (List S)) → Graph S → List (MessageLine S) → Type 0
AreLinesWith same merged g lines = (order : List NodeIndex) × IsPostOrder g order × AreLinesAlong same merged g order lines

-- the bytes of these lines
abbrev pub text_of : {N S : Type 0} → Meaning N S → List (MessageLine S) → List ℕ
text_of m lines = flat_map (line_text m) lines

-- Of the lines of a message: the bytes of some of them, if fewer than the bound; else some have as
-- many, or more.
abbrev pub IsLengthBelow : {N S : Type 0} → (List (MessageLine S) → Type 0) → Meaning N S → ℕ → Option ℕ → Type 0
IsLengthBelow {N} {S} AreLines m bound (Some n) = (lines : List (MessageLine S)) × AreLines lines × (n ≡ length (text_of m lines)) × (n < bound)
IsLengthBelow {N} {S} AreLines m bound None = (lines : List (MessageLine S)) × AreLines lines × (bound ≤ length (text_of m lines))
