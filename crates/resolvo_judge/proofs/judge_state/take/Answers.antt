use Rattle.std.proofs.Common.{List, [], ◌∷◌, ◌++◌, sym, subst, ◌∙◌}
use Rattle.resolvo_report.specs.View.{report_line_of}
use Rattle.resolvo_checker.specs.Kept.{Kept}
use Rattle.resolvo_judge.specs.Log.{LogInvariant}
use Rattle.resolvo_judge.proofs.judge_state.take.Goals as goal

pub returns-clause-represents : goal.returns-clause-represents
returns-clause-represents c = λ fine above head same s.
    let t = c.in_ok-take_line.ensures in
    record {
      refused = t.refused ∙ (s.refused ∙ sym same);
      log = subst (λ (ks : List Kept). LogInvariant c.args.catalogue.now c.args.request.now.lines c.take_line.new.judging.log.checker.numbers ks c.take_line.new.judging.log.checker.places.items c.take_line.new.judging.log.checker.rules c.take_line.new.judging.log.scope c.take_line.new.judging.log.ends_empty (above ++ report_line_of c.args.line ∷ []))
          (sym c.name.ensures.kept) (t.log c.if-not-branch.false above head s.log);
      entries = t.entries c.if-not-branch.false above s.entries;
      lines = t.lines c.if-not-branch.false above s.entries s.lines;
      forbidden = t.forbidden c.if-not-branch.false above head s.log s.entries s.forbidden;
    }
