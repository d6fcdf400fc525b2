use Rattle.std.proofs.Common.{◌≡◌, ◌∙◌, [], ◌++◌, ℕ, List, map, sym, ap, subst}
use Rattle.std.specs.Prelude.{codes}
use Rattle.std.specs.List.{AllByRecursion}
use Rattle.resolvo_text.specs.Spelling.{IsNumber}
use Rattle.resolvo_catalogue_core.specs.Answers as answers
use Rattle.resolvo_catalogue_core.specs.Answers.{IsReasoned}
use Rattle.resolvo_catalogue_core.specs.Listed.{listed}
use Rattle.resolve_order.specs.Order.{AreTurns}
use Rattle.resolve_order.specs.View.{answers_of, turns_of}
use Rattle.resolve_order.specs.declared.entry.Answer.{Answer}
use Rattle.resolvo_report.specs.Value as value
use Rattle.resolvo_report.specs.Text.{lines_text}
use Rattle.resolvo_report.specs.View.{steps_of}
use Rattle.resolvo_judge.specs.Refusal.{answer_of}
use Rattle.resolvo_report.proofs.PushLemmas.{pushed2}
use Rattle.resolvo_report.proofs.WriteLemmas.{install_text as report_is}
use Rattle.resolve_install.specs.Install.{line_of}
use Rattle.resolve_install.specs.Lines.{lines_for}
use Rattle.resolve_install.proofs.InstallLemmas.{install_is}
use Rattle.resolve_install.proofs.LineLemmas.{lines_written}
use Rattle.resolve_install.proofs.TurnLemmas.{are_turns}
use Rattle.resolve_install.proofs.install.install_text.Goals as goal

pub returns : goal.returns
returns c =
    let catalogue = c.args.catalogue.now in
    let request = c.args.request.now.lines in
    let turns = c.args.turns.now in
    let steps = steps_of c.args.steps.now in
    let versions = listed catalogue in
    let list = c.in_ok-answers.answers.items in
    let lines = lines_for versions list in
    let in_order = c.in_ok-answers.ensures in
    let written : map answer_of lines ≡ answers_of versions list = lines_written versions list in
    let pushed = subst (λ (xs : List Answer). c.push_answers.new.out.items ≡ c.in_ok-text.text.items ++ lines_text (map value.Answer (lines_for versions xs))) c.deref.ensures.value c.in_ok-push_answers.ensures.written in
    let begun = pushed ∙ ap (λ (t : List ℕ). t ++ lines_text (map value.Answer lines)) c.in_ok-text.ensures.items in (
      lines,
      pushed2 (codes "install\n") _ _ _ _ begun c.in_ok-push_steps.ensures ∙ sym (report_is lines steps),
      λ serve. (
          let are = are_turns catalogue request turns steps serve in
          install_is catalogue request turns steps serve lines
          (subst (λ (xs : List answers.Answer). AreTurns catalogue request [] [] (turns_of versions turns) xs) (sym written) (in_order.order are))
          (subst (λ (xs : List answers.Answer). IsReasoned catalogue request [] xs) (sym written) (in_order.reasoned are))
          c.lines_are_in_place.ensures
          (subst (λ (xs : List Answer). AllByRecursion (λ l. IsNumber (line_of l)) (lines_for versions xs)) c.deref.ensures.value c.in_ok-push_answers.ensures.numbered)
          ),
    )
