use Rattle.std.proofs.Common.{◌≡◌, ◌++◌, List, IfOk, ap, subst, ◌∙◌}
use Rattle.std.specs.Global.{Vec}
use Rattle.std.proofs.lemmas.List.{map-append}
use Rattle.resolvo_pool_core.specs.declared.id.VersionSetId.{VersionSetId}
use Rattle.resolvo_store_core.specs.Cases.{cases, cases_of, pairs}
use Rattle.resolvo_store_core.proofs.CaseLaws.{cases_and, cases_or}
use Rattle.resolvo_store_core.proofs.conditions.+convert_conditions_to_dnf.Goals as goal

pub returns-in_ok-right-in-Binary-And-default-default-clause-cases :
    goal.returns-in_ok-right-in-Binary-And-default-default-clause-cases
returns-in_ok-right-in-Binary-And-default-default-clause-cases g t c =
    let of = g.I.Interner.condition_of c.args.interner.now in
    let arm = c.in-Binary-And-default-default in
    let whole : pairs (cases of arm.left) (cases of arm.right) ≡ cases of c.args.condition =
    cases_and of (g.met.I.Interner.operands_below c.args.interner.now) c.args.condition arm.field-0 arm.left arm.right arm.ensures arm.field-0-is in
    let left : cases_of c.deref.result.now ≡ cases of arm.left = ap cases_of c.deref.ensures.value ∙ c.in_ok-left-in-Binary-And-default-default.ensures.cases in
    let right : cases_of c.deref-in-Binary-And-default-default.result.now ≡ cases of arm.right = ap cases_of c.deref-in-Binary-And-default-default.ensures.value ∙ c.in_ok-right-in-Binary-And-default-default.ensures.cases in
    subst (λ (cs : List (List VersionSetId)). IfOk c.pairs_of.result (λ v. cases_of v.items ≡ cs))
    (ap (λ cs. pairs cs (cases_of c.deref-in-Binary-And-default-default.result.now)) left ∙ ap (λ cs. pairs (cases of arm.left) cs) right ∙ whole) c.pairs_of.ensures.cases

pub returns-in_ok-append-in-Binary-Or-default-default-clause-cases :
    goal.returns-in_ok-append-in-Binary-Or-default-default-clause-cases
returns-in_ok-append-in-Binary-Or-default-default-clause-cases g t c =
    let of = g.I.Interner.condition_of c.args.interner.now in
    let arm = c.in-Binary-Or-default-default in
    let all = c.in_ok-all-in-Binary-Or-default-default.all.items in
    let others = c.in_ok-others-in-Binary-Or-default-default.others.items in
    let whole : cases of arm.left ++ cases of arm.right ≡ cases of c.args.condition =
    cases_or of (g.met.I.Interner.operands_below c.args.interner.now) c.args.condition arm.field-0 arm.left arm.right arm.ensures arm.field-0-is in
    ap cases_of c.in_ok-append-in-Binary-Or-default-default.ensures.items ∙ map-append (λ (v : Vec VersionSetId). v.items) all others
    ∙ ap (λ cs. cs ++ cases_of others) c.in_ok-all-in-Binary-Or-default-default.ensures.cases ∙ ap (λ cs. cases of arm.left ++ cs) c.in_ok-others-in-Binary-Or-default-default.ensures.cases ∙ whole
