use Rattle.std.proofs.Common.{◌∙◌, ap, subst}
use Rattle.resolvo_terms.specs.Terms.{Terms}
use Rattle.resolvo_terms.specs.Known.{spec_at, condition_at, cond_at}
use Rattle.resolvo_catalogue_core.specs.Listed.{listed}
use Rattle.resolve_order.specs.Kept.{IsKeptForAll, specs_in}
use Rattle.resolve_order.proofs.NeedLemmas.{on_ok, on_both, specs_of_one, specs_of_two, kept_one, kept_both}
use Rattle.resolve_order.proofs.package_lines.PackageLines.+add_kept_parts.Goals as goal

pub returns-in-Requirement-clause-added : goal.returns-in-Requirement-clause-added
returns-in-Requirement-clause-added t c =
    let terms = c.args.kept.now.terms in
    let versions = listed c.args.catalogue.now in
    let spec = spec_at terms c.in-Requirement.spec in
    let is = specs_of_one terms c.args.condition c.in-Requirement.spec (c.in-Requirement.ensures ∙ ap (λ (x : Terms). condition_at x c.args.condition) c.terms.ensures.terms) in
    on_ok c.add_spec.result (λ added. subst (IsKeptForAll versions c.add_spec.new.self c.args.line) is (kept_one versions c.add_spec.new.self c.args.line spec (added spec c.kept_span.ensures))) c.add_spec.ensures.added

pub returns-in_ok-add_kept_parts-in-Binary-clause-added : goal.returns-in_ok-add_kept_parts-in-Binary-clause-added
returns-in_ok-add_kept_parts-in-Binary-clause-added t c =
    let terms = c.args.kept.now.terms in
    let versions = listed c.args.catalogue.now in
    let arm = c.in-Binary in
    let last = c.add_kept_parts-in-Binary in
    let is = specs_of_two terms c.args.condition arm.left arm.right arm.field-0 (arm.ensures ∙ ap (λ (x : Terms). condition_at x c.args.condition) c.terms.ensures.terms) in
    on_both last.result (λ added keeps. subst (IsKeptForAll versions last.new.self c.args.line) is
    (kept_both versions c.add_kept_parts.new.self last.new.self c.args.line (specs_in (cond_at terms arm.left)) (specs_in (cond_at terms arm.right)) keeps c.in_ok-add_kept_parts-in-Binary.ensures.added added))
    last.ensures.added last.ensures.kept
