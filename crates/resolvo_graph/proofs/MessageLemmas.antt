-- The parts of the message.
use Rattle.std.proofs.Common.{◌≡◌, true, false, List, [], ◌∷◌, ◌++◌, length, filter, sym, ap, subst, ◌∙◌, arith, append_assoc}
use Rattle.std.specs.Prelude.{◌==◌}
use Rattle.std.proofs.lemmas.Bool.{false≢true, eqb-true}
use Rattle.std.proofs.lemmas.List.{append-nil, nil_from_length}
use Rattle.resolvo_pool_core.specs.declared.id.VersionSetId.{VersionSetId}
use Rattle.resolvo_graph.specs.declared.indenter.ChildOrder.{ChildOrder}
use Rattle.resolvo_graph.specs.declared.display_line.Sentence.TheVariants.{Admitted}
use Rattle.resolvo_graph.specs.Indent.{Indent, level_below}
use Rattle.resolvo_graph.specs.declared.graph.NodeIndex.{NodeIndex}
use Rattle.resolvo_graph.specs.declared.graph.Edge.{Edge}
use Rattle.resolvo_graph.specs.declared.display_line.MessageLine.{MessageLine}
use Rattle.resolvo_graph.specs.Message.{heading, conflict_line, conflict_lines, misses, fits, IsSecondPart, AreParts}
use Rattle.resolvo_graph.specs.Runs.{runs_of}
use Rattle.resolvo_graph.specs.Tree.{Findings, IsTree, order_before, admitted_lines}

module _ {S : Type 0} (f : Findings S) where
  -- no edge remains for the second part
  pub no_second_part : (others all : List (Edge S)) (lines : List (MessageLine S)) → (length others == 0) ≡ true → lines ≡ [] → IsSecondPart f others all lines
  no_second_part [] all lines h k = k
  no_second_part (e ∷ es) all lines h k =
      let none : length (e ∷ es) ≡ 0 = eqb-true (length (e ∷ es)) 0 h in
      absurd (omega arith)

  pub second_part : (others all : List (Edge S)) (tree lines : List (MessageLine S)) → (length others == 0) ≡ false → IsTree f true (runs_of others) tree → lines ≡ heading ∷ tree ++ conflict_lines all → IsSecondPart f others all lines
  second_part [] all tree lines h t k = absurd (false≢true (sym h))
  second_part (e ∷ es) all tree lines h t k = (tree, t, k)

  -- the two parts, up to equal lists
  pub parts : (missing : List NodeIndex) (es first_edges to_tree other_edges to_second : List (Edge S)) (first second lines : List (MessageLine S)) → first_edges ≡ filter (misses missing) es → other_edges ≡ filter (fits missing) es → to_tree ≡ first_edges → to_second ≡ other_edges → IsTree f false (runs_of to_tree) first → IsSecondPart f to_second es second → lines ≡ first ++ second → AreParts f missing es lines
  parts missing es first_edges to_tree other_edges to_second first second lines a b c d tree rest whole = (first, second, subst (λ xs. IsTree f false (runs_of xs) first) (c ∙ a) tree, subst (λ xs. IsSecondPart f xs es second) (d ∙ b) rest, whole)

module _ {S : Type 0} where
  -- the line of one conflict more, if it has one
  pub conflict_more : (all rest below : List (Edge S)) (e : Edge S) (order : ChildOrder) (lines now : List (MessageLine S)) → conflict_lines all ≡ lines ++ conflict_lines rest → rest ≡ e ∷ below → order ≡ order_before below → now ≡ lines ++ conflict_line e.weight (record { levels = order ∷ []; top_level_indent = true }) → conflict_lines all ≡ now ++ conflict_lines below
  conflict_more all rest below e order lines now so is last put =
      let line = conflict_line e.weight (record { levels = order_before below ∷ []; top_level_indent = true }) in
      let added : now ≡ lines ++ line = put ∙ ap (λ o. lines ++ conflict_line e.weight (record { levels = o ∷ []; top_level_indent = true })) last in
      so ∙ ap (λ es. lines ++ conflict_lines es) is ∙ sym (append_assoc lines line (conflict_lines below)) ∙ ap (λ ls. ls ++ conflict_lines below) (sym added)

  pub no_conflict_left : (all rest : List (Edge S)) (lines : List (MessageLine S)) → conflict_lines all ≡ lines ++ conflict_lines rest → length rest ≡ 0 → lines ≡ conflict_lines all
  no_conflict_left all rest lines so none = sym (so ∙ ap (λ es. lines ++ conflict_lines es) (nil_from_length rest none) ∙ append-nil lines)

  -- the line of one version set more
  pub admitted_more : (i : Indent) (all rest below : List VersionSetId) (v : VersionSetId) (order : ChildOrder) (lines now : List (MessageLine S)) → admitted_lines i all ≡ lines ++ admitted_lines i rest → rest ≡ v ∷ below → order ≡ order_before below → now ≡ lines ++ record { indenter = level_below i order; sentence = Admitted v } ∷ [] → admitted_lines i all ≡ now ++ admitted_lines i below
  admitted_more i all rest below v order lines now so is last put =
      let line : MessageLine S = record { indenter = level_below i (order_before below); sentence = Admitted v } in
      let added : now ≡ lines ++ line ∷ [] = put ∙ ap (λ o. lines ++ record { indenter = level_below i o; sentence = Admitted v } ∷ []) last in
      so ∙ ap (λ vs. lines ++ admitted_lines i vs) is ∙ sym (append_assoc lines (line ∷ []) (admitted_lines i below)) ∙ ap (λ ls. ls ++ admitted_lines i below) (sym added)

  pub none_admitted_left : (i : Indent) (all rest : List VersionSetId) (lines : List (MessageLine S)) → admitted_lines i all ≡ lines ++ admitted_lines i rest → length rest ≡ 0 → lines ≡ admitted_lines i all
  none_admitted_left i all rest lines so none = sym (so ∙ ap (λ vs. lines ++ admitted_lines i vs) (nil_from_length rest none) ∙ append-nil lines)
