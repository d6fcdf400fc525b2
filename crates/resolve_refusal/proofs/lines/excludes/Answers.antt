use Rattle.std.proofs.Common.{◌≡◌, rules, subst, sym, ◌∙◌}
use Rattle.std.specs.Prelude.{Decides}
use Rattle.std.proofs.lemmas.Bool.{eq-eqb, eqb-true}
use Rattle.std.proofs.lemmas.Slice.Eq.{bytes_eq-Decides}
use Rattle.resolvo_catalogue_core.specs.Kept.{IsKeptLine}
use Rattle.resolvo_catalogue_core.specs.declared.kept_rule.KeptRule.{KeptRule}
use Rattle.resolve_refusal.proofs.KeptLemmas.{excluded_so, excludes_it}
use Rattle.resolve_refusal.proofs.lines.excludes.Goals as goal

pub returns-then-excluded-version : goal.returns-then-excluded-version
returns-then-excluded-version c = λ versions owner line v distinct kept at.
    let terms = c.args.terms.now in
    let word = c.args.word.now in
    let excluded = c.in-Exclude.excluded in
    let source = c.in-Exclude.source in
    let is = subst (λ (r : KeptRule). IsKeptLine terms versions r owner line) c.in-Exclude.is kept in
    let same : Decides c.eq.result (c.text.result.now ≡ word) = search (rules, bytes_eq-Decides) in (
      λ e. excludes_it terms versions owner line excluded source c.args.version.0 v at is word c.if-excluded-version.true (sym c.text.ensures ∙ same.0 e),
      λ e. same.1 (c.text.ensures ∙ (excluded_so terms versions owner line excluded source c.args.version.0 v at is word distinct e).1),
    )

pub returns-else-excluded-version : goal.returns-else-excluded-version
returns-else-excluded-version c = λ versions owner line v distinct kept at.
    let terms = c.args.terms.now in
    let is = subst (λ (r : KeptRule). IsKeptLine terms versions r owner line) c.in-Exclude.is kept in (
      λ e. absurd (c.if-excluded-version.false (eqb-true c.in-Exclude.excluded.0 c.args.version.0 e)),
      λ e. eq-eqb c.in-Exclude.excluded.0 c.args.version.0 (excluded_so terms versions owner line c.in-Exclude.excluded c.in-Exclude.source c.args.version.0 v at is c.args.word.now distinct e).0,
    )
