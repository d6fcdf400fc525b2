use Rattle.std.proofs.Common.{◌≡◌, ◌++◌, [], ◌∙◌, sym, ap, subst, append-nil}
use Rattle.resolvo_graph.specs.Message.{IsMessage}
use Rattle.resolvo_graph.proofs.display_unsat.DisplayUnsat.new.Goals as goal

pub returns-clause-lines : goal.returns-clause-lines
returns-clause-lines g c =
    let (lines, is, more) = c.in_ok-write_lines.ensures.lines in
    let start = c.new-lines.result in
    let kept : c.write_lines.new.sink.items ≡ lines = more start [] (sym (append-nil start.items)) ∙ ap (λ ls. ls ++ lines) c.new-lines.ensures.items in
    subst (λ ls. IsMessage g.I.NameId.PartialEq.eq g.I.SolvableId.PartialEq.eq (g.I.Interner.name_of_solvable c.args.interner.now) c.args.graph.now ls) (sym kept) is
