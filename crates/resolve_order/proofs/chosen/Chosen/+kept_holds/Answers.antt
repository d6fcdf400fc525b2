use Rattle.std.proofs.Common.{Bool, ◌&&◌, ◌||◌, ◌∙◌, sym, ap}
use Rattle.resolvo_text.specs.Matches.{holds}
use Rattle.resolvo_pool_core.specs.declared.condition.Condition.TheVariants.{Requirement}
use Rattle.resolvo_terms.specs.Terms.{Terms}
use Rattle.resolvo_terms.specs.Known.{spec_at, condition_at, cond_at}
use Rattle.resolvo_catalogue_core.proofs.KeptConditions.{holds_by, holds_and, holds_or}
use Rattle.resolve_order.proofs.chosen.Chosen.+kept_holds.Goals as goal

pub returns-in-Requirement : goal.returns-in-Requirement
returns-in-Requirement t c = λ chosen entries h.
    let terms = c.args.kept.now.terms in
    let spec = c.in-Requirement.spec in
    c.is_met.ensures c.args.catalogue.now chosen entries (spec_at terms spec) c.kept_span.ensures h
    ∙ holds_by terms c.args.condition entries (Requirement spec) (c.in-Requirement.ensures ∙ ap (λ (x : Terms). condition_at x c.args.condition) c.terms.ensures.terms)

pub returns-then-kept_holds : goal.returns-then-kept_holds
returns-then-kept_holds t c = λ chosen entries h.
    let terms = c.args.kept.now.terms in
    let arm = c.in-Binary-And-default-default in
    let is = arm.ensures ∙ ap (λ (x : Terms). condition_at x c.args.condition) c.terms.ensures.terms in
    let right = holds (cond_at terms arm.right) entries in
    c.kept_holds-then-kept_holds.ensures chosen entries h ∙ ap (λ (left : Bool). left && right) (sym c.if-kept_holds.true ∙ c.kept_holds.ensures chosen entries h) ∙ holds_and terms c.args.condition entries arm.field-0 arm.left arm.right is arm.field-0-is

pub returns-else-kept_holds : goal.returns-else-kept_holds
returns-else-kept_holds t c = λ chosen entries h.
    let terms = c.args.kept.now.terms in
    let arm = c.in-Binary-And-default-default in
    let is = arm.ensures ∙ ap (λ (x : Terms). condition_at x c.args.condition) c.terms.ensures.terms in
    let right = holds (cond_at terms arm.right) entries in
    c.if-kept_holds.false ∙ ap (λ (left : Bool). left && right) (sym c.if-kept_holds.false ∙ c.kept_holds.ensures chosen entries h) ∙ holds_and terms c.args.condition entries arm.field-0 arm.left arm.right is arm.field-0-is

pub returns-then-kept_holds-2 : goal.returns-then-kept_holds-2
returns-then-kept_holds-2 t c = λ chosen entries h.
    let terms = c.args.kept.now.terms in
    let arm = c.in-Binary-Or-default-default in
    let is = arm.ensures ∙ ap (λ (x : Terms). condition_at x c.args.condition) c.terms.ensures.terms in
    let right = holds (cond_at terms arm.right) entries in
    c.if-kept_holds-2.true ∙ ap (λ (left : Bool). left || right) (sym c.if-kept_holds-2.true ∙ c.kept_holds-in-Binary-Or-default-default.ensures chosen entries h) ∙ holds_or terms c.args.condition entries arm.field-0 arm.left arm.right is arm.field-0-is

pub returns-else-kept_holds-2 : goal.returns-else-kept_holds-2
returns-else-kept_holds-2 t c = λ chosen entries h.
    let terms = c.args.kept.now.terms in
    let arm = c.in-Binary-Or-default-default in
    let is = arm.ensures ∙ ap (λ (x : Terms). condition_at x c.args.condition) c.terms.ensures.terms in
    let right = holds (cond_at terms arm.right) entries in
    c.kept_holds-else-kept_holds-2.ensures chosen entries h ∙ ap (λ (left : Bool). left || right) (sym c.if-kept_holds-2.false ∙ c.kept_holds-in-Binary-Or-default-default.ensures chosen entries h) ∙ holds_or terms c.args.condition entries arm.field-0 arm.left arm.right is arm.field-0-is
