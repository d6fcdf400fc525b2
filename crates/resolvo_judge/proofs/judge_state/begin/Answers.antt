use Rattle.std.proofs.Common.{refl, sym, ◌∙◌}
use Rattle.resolvo_report.specs.Value.{InstallHead, RefusedHead}
use Rattle.resolvo_report.specs.View.{report_line_of}
use Rattle.resolvo_judge.proofs.EndLemmas.{is_refused_head, is_install_head, invariant_head}
use Rattle.resolvo_judge.proofs.judge_state.begin.Goals as goal
use Rattle.resolvo_judge.proofs.judge_state.begin.Goals.{then-refused+in_ok-log, else-refused+in_ok-log-2}

pub returns-clause-represents : goal.returns-clause-represents
returns-clause-represents c =
    let l = report_line_of c.args.first.now in
    let refused = c.is_refusal-refused.ensures in
    elim c.if-refused.branch [
      | then-refused+in_ok-log w ↦ invariant_head _ _ l RefusedHead _ _ w.in_ok-log.log _ _ (is_refused_head l (sym refused ∙ w.if-refused.true)) refl w.log-is refused w.in_ok-log.ensures.represents c.new.ensures.kept (c.new.ensures.lines c.args.request.now.lines)
      | else-refused+in_ok-log-2 w ↦ invariant_head _ _ l InstallHead _ _ w.in_ok-log-2.log _ _ (is_install_head l c.requires (sym refused ∙ w.if-refused.false)) refl w.log-is refused w.in_ok-log-2.ensures.represents c.new.ensures.kept (c.new.ensures.lines c.args.request.now.lines)
    ]
