use Rattle.std.proofs.Common.{◌≡◌, ap, subst, sym, ◌∙◌, ◌-◌, suc, arith}
use Rattle.std.specs.Option.{option_map}
use Rattle.std.proofs.lemmas.Option.{slice_get_read, slice_get_past}
use Rattle.resolvo_text.specs.View.{specs_of, cases_of, cond_of, condition_of}
use Rattle.resolvo_text.specs.Cases.{cases}
use Rattle.resolvo_text.specs.declared.condition.Cond.{Cond}
use Rattle.resolvo_checker.specs.StepClauses.{case_at}
use Rattle.resolvo_checker.proofs.StepLines.{case_is}
use Rattle.resolvo_checker.proofs.steps.case_at.Goals as goal

pub returns-then-place-len : goal.returns-then-place-len
returns-then-place-len c =
    let case = c.args.case in
    let e : c.args.case ≡ suc (c.args.case - 1) = omega (arith, c.if-case-eq0.false) in
    sym (ap (λ o. case_at (condition_of o) case) c.in-Some.is ∙ (case_is (cond_of c.in-Some.condition.value) case (case - 1) c.in_ok-cases.cases.items e (subst (λ (x : Cond). cases_of c.in_ok-cases.cases.items ≡ cases (cond_of x)) c.deref.ensures c.in_ok-cases.ensures)
    ∙ ap (λ o. option_map (λ x. specs_of x.items) o) (slice_get_read c.in_ok-cases.cases.items c.len.result (case - 1) c.swap_remove.result (omega (arith, c.len.ensures)) c.if-place-len.true c.swap_remove.ensures.value)))

pub returns : goal.returns
returns c =
    let case = c.args.case in
    let e : c.args.case ≡ suc (c.args.case - 1) = omega (arith, c.if-case-eq0.false) in
    sym (ap (λ o. case_at (condition_of o) case) c.in-Some.is ∙ (case_is (cond_of c.in-Some.condition.value) case (case - 1) c.in_ok-cases.cases.items e (subst (λ (x : Cond). cases_of c.in_ok-cases.cases.items ≡ cases (cond_of x)) c.deref.ensures c.in_ok-cases.ensures)
    ∙ ap (λ o. option_map (λ x. specs_of x.items) o) (slice_get_past c.in_ok-cases.cases.items (case - 1) (omega (arith, c.len.ensures, c.if-place-len.false)))))
