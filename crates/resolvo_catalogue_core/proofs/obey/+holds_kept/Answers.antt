use Rattle.std.proofs.Common.{Bool, ◌&&◌, ◌||◌, ◌∙◌, sym, ap}
use Rattle.resolvo_text.specs.Line.{Spec}
use Rattle.resolvo_text.specs.Matches.{is_met, holds}
use Rattle.resolvo_pool_core.specs.declared.condition.Condition.TheVariants.{Requirement}
use Rattle.resolvo_terms.specs.Known.{cond_at}
use Rattle.resolvo_catalogue_core.specs.Listed.{members}
use Rattle.resolvo_catalogue_core.proofs.KeptConditions.{holds_by, holds_and, holds_or}
use Rattle.resolvo_catalogue_core.proofs.obey.+holds_kept.Goals as goal

pub returns-in-Requirement : goal.returns-in-Requirement
returns-in-Requirement t c =
    let set = members c.args.versions.now c.args.set.now in
    c.is_met.ensures ∙ ap (λ (s : Spec). is_met s set) c.kept_spec.ensures ∙ holds_by c.args.terms.now c.args.condition set (Requirement c.in-Requirement.spec) c.in-Requirement.ensures

pub returns-then-holds_kept : goal.returns-then-holds_kept
returns-then-holds_kept t c =
    let set = members c.args.versions.now c.args.set.now in
    let arm = c.in-Binary-And-default-default in
    let right = holds (cond_at c.args.terms.now arm.right) set in
    c.holds_kept-then-holds_kept.ensures ∙ ap (λ (left : Bool). left && right) (sym c.if-holds_kept.true ∙ c.holds_kept.ensures) ∙ holds_and c.args.terms.now c.args.condition set arm.field-0 arm.left arm.right arm.ensures arm.field-0-is

pub returns-else-holds_kept : goal.returns-else-holds_kept
returns-else-holds_kept t c =
    let set = members c.args.versions.now c.args.set.now in
    let arm = c.in-Binary-And-default-default in
    let right = holds (cond_at c.args.terms.now arm.right) set in
    c.if-holds_kept.false ∙ ap (λ (left : Bool). left && right) (sym c.if-holds_kept.false ∙ c.holds_kept.ensures) ∙ holds_and c.args.terms.now c.args.condition set arm.field-0 arm.left arm.right arm.ensures arm.field-0-is

pub returns-then-holds_kept-2 : goal.returns-then-holds_kept-2
returns-then-holds_kept-2 t c =
    let set = members c.args.versions.now c.args.set.now in
    let arm = c.in-Binary-Or-default-default in
    let right = holds (cond_at c.args.terms.now arm.right) set in
    c.if-holds_kept-2.true ∙ ap (λ (left : Bool). left || right) (sym c.if-holds_kept-2.true ∙ c.holds_kept-in-Binary-Or-default-default.ensures) ∙ holds_or c.args.terms.now c.args.condition set arm.field-0 arm.left arm.right arm.ensures arm.field-0-is

pub returns-else-holds_kept-2 : goal.returns-else-holds_kept-2
returns-else-holds_kept-2 t c =
    let set = members c.args.versions.now c.args.set.now in
    let arm = c.in-Binary-Or-default-default in
    let right = holds (cond_at c.args.terms.now arm.right) set in
    c.holds_kept-else-holds_kept-2.ensures ∙ ap (λ (left : Bool). left || right) (sym c.if-holds_kept-2.false ∙ c.holds_kept-in-Binary-Or-default-default.ensures) ∙ holds_or c.args.terms.now c.args.condition set arm.field-0 arm.left arm.right arm.ensures arm.field-0-is
