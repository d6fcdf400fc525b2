use Rattle.std.proofs.Common.{◌≡◌, ◌+◌, ℕ, Bool, List, length, ap, sym, ◌∙◌}
use Rattle.std.specs.Prelude.{◌&&◌}
use Rattle.std.specs.List.{list_all}
use Rattle.resolvo_report.specs.View.{step_of}
use Rattle.resolvo_checker.proofs.CheckLemmas.{same_length}
use Rattle.resolvo_judge.specs.ForbiddenWishes.{ForbiddenWish, named_by}
use Rattle.resolvo_judge.specs.Entries.{entries_of}
use Rattle.resolvo_judge.specs.KeptAnswers.{forbidden_from}
use Rattle.resolvo_judge.specs.Refusal.{answers_in, steps_in}
use Rattle.resolvo_judge.specs.Forbids.{clause_forbids}
use Rattle.resolvo_judge.proofs.ForbidLemmas.{has_clause, flags_step}
use Rattle.resolvo_judge.proofs.judge_state.take_numbered.Goals as goal
use Rattle.resolvo_judge.proofs.judge_state.take_numbered.Goals.{then-judging, else-judging}

pub returns-then-not-branch-clause-answer : goal.returns-then-not-branch-clause-answer
returns-then-not-branch-clause-answer c = λ above n s. sym c.if-not-branch.true ∙ c.in_ok-take_step.ensures.answer above n s

pub returns-clause-answer : goal.returns-clause-answer
returns-clause-answer c = λ above n s. sym c.if-not-branch.false ∙ c.in_ok-take_step.ensures.answer above n s

pub returns-clause-forbidden : goal.returns-clause-forbidden
returns-clause-forbidden c = λ fine above n s kept flags first.
    let cat = c.args.catalogue.now in
    let req = c.args.request.now.lines in
    let st = step_of c.args.step.now in
    let set = entries_of (answers_in above) in
    let bs = forbidden_from 0 (answers_in above) in
    let forbids = c.in_ok-forbids.forbids in
    let there = has_clause cat req above n st (sym (c.in_ok-take_step.ensures.answer above n s) ∙ c.if-not-branch.false) in
    let many : c.len.result ≡ length (steps_in above) = c.len.ensures ∙ same_length cat req c.args.judging.now.log.checker.numbers (steps_in above) c.args.clauses.now.kept s.steps.kept in
    let asked = c.in_ok-forbids.ensures set there.0 kept.chosen there.1
    ∙ ap (λ (ws : List ForbiddenWish). list_all (clause_forbids set there.0) ws) (c.of-wishes.ensures ∙ (kept.forbidden.by_step (c.len.result + 1) ∙ ap (λ (k : ℕ). named_by bs (k + 1)) many)) in
    let joined : c.if-judging.judging ≡ (c.args.judging.now.forbidden && forbids) = elim c.if-judging.branch [
      | then-judging w ↦ w.judging-is ∙ sym (ap (λ (b : Bool). b && forbids) w.if-judging.true)
      | else-judging w ↦ w.judging-is ∙ (w.if-judging.false ∙ sym (ap (λ (b : Bool). b && forbids) w.if-judging.false))
    ] in
    joined ∙ flags_step cat req c.args.judging.now.forbidden above n st there.0 forbids there.1 asked flags first
