use Rattle.std.proofs.Common.{◌≡◌, ◌∙◌, List, Option, None, sym, ap, subst}
use Rattle.std.specs.Option.{option_map}
use Rattle.resolvo_text.specs.Line.{Version, Line}
use Rattle.resolvo_text.specs.View.{version_of}
use Rattle.resolvo_pool_core.specs.declared.requirement.ConditionalRequirement.{ConditionalRequirement}
use Rattle.resolvo_catalogue_core.specs.Listed.{listed}
use Rattle.resolvo_report.specs.Value.{OfVersion}
use Rattle.resolvo_checker.specs.StepClauses.{line_of}
use Rattle.resolvo_checker.specs.RuleLines.{need_line, line_of_need, need_kept}
use Rattle.resolvo_checker.proofs.KeptRules.{kept_need, no_kept_need}
use Rattle.resolvo_checker.proofs.line_rule.need_of.Goals as goal

pub returns-in-Some : goal.returns-in-Some
returns-in-Some c = λ catalogue request lines same.
    let k = c.args.kept.now in
    let v = version_of c.args.version.now in
    let r = c.in-Some.rule in
    subst (λ (ls : List Line). need_line (line_of ls request (OfVersion v) c.args.line) ≡ option_map (line_of_need k.terms) (need_kept (listed ls) r v)) lines (kept_need k.lines c.args.line k.terms r v c.in-Some.ensures.of_line)
    ∙ ap (λ (o : Option ConditionalRequirement). option_map (line_of_need k.terms) o) (ap (λ (vs : List Version). need_kept vs r v) (sym same) ∙ sym c.need_kept.ensures)

pub returns-in-None : goal.returns-in-None
returns-in-None c = λ catalogue request lines same.
    subst (λ (ls : List Line). need_line (line_of ls request (OfVersion (version_of c.args.version.now)) c.args.line) ≡ None) lines (no_kept_need _ _ c.in-None.ensures.none)
