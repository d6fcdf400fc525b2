use Rattle.std.proofs.Common.{◌∙◌, ap}
use Rattle.resolvo_text.specs.View.{cond_of}
use Rattle.resolvo_terms.proofs.KnownLemmas.{cond_and, cond_or}
use Rattle.resolvo_terms.proofs.terms.Terms.+cond_of.Goals as goal

pub returns-in_ok-new-in-Binary-And-default-default-2 :
    goal.returns-in_ok-new-in-Binary-And-default-default-2
returns-in_ok-new-in-Binary-And-default-default-2 t c =
    let arm = c.in-Binary-And-default-default in
    let left = c.in_ok-new-in-Binary-And-default-default in
    let right = c.in_ok-new-in-Binary-And-default-default-2 in
    cond_and c.args.self.now c.args.condition arm.field-0 arm.left arm.right (cond_of left.field-0.value) (cond_of right.field-0.value) arm.ensures arm.field-0-is
    (ap cond_of left.ensures.ok ∙ c.in_ok-left-in-Binary-And-default-default.ensures) (ap cond_of right.ensures.ok ∙ c.in_ok-right-in-Binary-And-default-default.ensures)

pub returns-in_ok-new-in-Binary-Or-default-default-2 :
    goal.returns-in_ok-new-in-Binary-Or-default-default-2
returns-in_ok-new-in-Binary-Or-default-default-2 t c =
    let arm = c.in-Binary-Or-default-default in
    let left = c.in_ok-new-in-Binary-Or-default-default in
    let right = c.in_ok-new-in-Binary-Or-default-default-2 in
    cond_or c.args.self.now c.args.condition arm.field-0 arm.left arm.right (cond_of left.field-0.value) (cond_of right.field-0.value) arm.ensures arm.field-0-is
    (ap cond_of left.ensures.ok ∙ c.in_ok-left-in-Binary-Or-default-default.ensures) (ap cond_of right.ensures.ok ∙ c.in_ok-right-in-Binary-Or-default-default.ensures)
