use Rattle.std.proofs.Common.{◌≡◌, Bool, Option, false, IfOk, sym, subst, ◌∙◌, ap, is_some}
use Rattle.std.specs.Option.{option_map, option_map_or}
use Rattle.resolvo_text.specs.View.{version_of}
use Rattle.resolvo_pool_core.specs.declared.requirement.ConditionalRequirement.{ConditionalRequirement}
use Rattle.resolvo_terms.specs.Terms.{Terms}
use Rattle.resolvo_terms.specs.Known.{cond_at, need_at}
use Rattle.resolvo_report.specs.Value.{OfVersion}
use Rattle.resolvo_checker.specs.StepClauses.{line_of, case_at}
use Rattle.resolvo_checker.proofs.KeptRules.{case_there}
use Rattle.resolvo_checker.proofs.steps.has_kept_case.Goals as goal

pub returns-in-Some : goal.returns-in-Some
returns-in-Some c = λ request.
    let cat = c.args.catalogue.now in
    let w = version_of c.args.version.now in
    let k = c.args.case in
    let t = c.kept-kept.result.terms in
    let n = c.in-Some.need in
    let e = c.need_of.ensures cat request c.kept-kept.ensures c.versions.ensures.listed in
    subst (λ (b : Bool). IfOk c.has_need_case.result (λ fine. fine ≡ b))
    (ap (λ (u : Terms). is_some (case_at (option_map (cond_at u) n.condition) k)) c.terms.ensures.terms
    ∙ sym (case_there cat (OfVersion w) k (line_of cat request (OfVersion w) c.args.line) t c.need_of.result e
    ∙ ap (λ (o : Option ConditionalRequirement). option_map_or (λ m. is_some (case_at (need_at t m).1 k)) o false) c.in-Some.is))
    c.has_need_case.ensures

pub returns-in-None : goal.returns-in-None
returns-in-None c = λ request.
    let cat = c.args.catalogue.now in
    let w = version_of c.args.version.now in
    let k = c.args.case in
    let t = c.kept-kept.result.terms in
    let e = c.need_of.ensures cat request c.kept-kept.ensures c.versions.ensures.listed in
    sym (case_there cat (OfVersion w) k (line_of cat request (OfVersion w) c.args.line) t c.need_of.result e
    ∙ ap (λ (o : Option ConditionalRequirement). option_map_or (λ m. is_some (case_at (need_at t m).1 k)) o false) c.in-None.is)
