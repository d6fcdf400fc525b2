use Rattle.std.proofs.Common.{ℕ, Bool, List, length, ap, sym, subst, ◌∙◌}
use Rattle.std.specs.Prelude.{◌&&◌}
use Rattle.std.specs.List.{list_all}
use Rattle.resolvo_report.specs.Text.{report_lines}
use Rattle.resolvo_checker.specs.Rup.{is_earlier}
use Rattle.resolvo_judge.specs.Entries.{entries_of}
use Rattle.resolvo_judge.specs.Refusal.{answers_in}
use Rattle.resolvo_judge.specs.EndRules.{KeepsAll}
use Rattle.resolvo_judge.specs.KeptAnswers.{AreWishesAnswered}
use Rattle.resolvo_judge.proofs.EndLemmas.{install_ends}
use Rattle.resolvo_judge.proofs.judge_state.installs.Goals as goal

pub returns-then-judging : goal.returns-then-judging
returns-then-judging c = λ r install represents.
    let cat = c.args.catalogue.now in
    let req = c.args.request.now.lines in
    let answers = answers_in (report_lines r) in
    let j = c.args.judging.now in
    let keeps = subst (λ (b : Bool). KeepsAll cat req (entries_of answers) b) c.if-not-branch.false (c.in_ok-keeps_all.ensures (entries_of answers) represents.entries.chosen) in
    let answered = subst (λ (b : Bool). AreWishesAnswered req answers b) c.if-not-are_wishes_answered.false (c.are_wishes_answered.ensures answers represents.entries represents.lines) in
    install_ends cat req j c.args.clauses.now.kept r _ install represents keeps answered
    (c.are_earlier.ensures
    ∙ (ap (λ (ns : List ℕ). list_all (is_earlier c.len.result) ns) c.steps.ensures
    ∙ (ap (λ (n : ℕ). list_all (is_earlier n) j.entries.forbidden.steps.items) c.len.ensures
    ∙ sym (ap (λ (b : Bool). b && list_all (is_earlier (length c.args.clauses.now.kept)) j.entries.forbidden.steps.items) c.if-judging.true))))

pub returns-else-judging : goal.returns-else-judging
returns-else-judging c = λ r install represents.
    let cat = c.args.catalogue.now in
    let req = c.args.request.now.lines in
    let answers = answers_in (report_lines r) in
    let j = c.args.judging.now in
    let keeps = subst (λ (b : Bool). KeepsAll cat req (entries_of answers) b) c.if-not-branch.false (c.in_ok-keeps_all.ensures (entries_of answers) represents.entries.chosen) in
    let answered = subst (λ (b : Bool). AreWishesAnswered req answers b) c.if-not-are_wishes_answered.false (c.are_wishes_answered.ensures answers represents.entries represents.lines) in
    install_ends cat req j c.args.clauses.now.kept r _ install represents keeps answered
    (c.if-judging.false ∙ sym (ap (λ (b : Bool). b && list_all (is_earlier (length c.args.clauses.now.kept)) j.entries.forbidden.steps.items) c.if-judging.false))
