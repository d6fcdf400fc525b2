use Rattle.std.proofs.Common.{◌≡◌, ◌∙◌, List, None, subst, ap}
use Rattle.resolvo_text.specs.Line.{Line}
use Rattle.resolvo_catalogue_core.specs.Grammar.{line_at, owner_of}
use Rattle.resolvo_catalogue_core.specs.Listed.{listed}
use Rattle.resolvo_checker.specs.RuleLines.{rule_line, line_of_kept, IsValid}
use Rattle.resolvo_checker.proofs.RuleLineLemmas.{none_encoded}
use Rattle.resolvo_checker.proofs.KeptRules.{kept_encodes, valid}
use Rattle.resolvo_checker.proofs.line_rule.rule_of.Goals as goal

pub returns-in-Some-clause-from_line : goal.returns-in-Some-clause-from_line
returns-in-Some-clause-from_line c =
    let k = c.kept.result in
    let r = c.in-Some.rule in
    let s = c.in-Some.ensures.of_line in
    (k.terms, subst (λ (ls : List Line). rule_line (line_at ls c.args.line) ≡ line_of_kept k.terms (listed ls) r) c.kept.ensures (ap rule_line s.1 ∙ kept_encodes k.terms (listed k.lines) r (owner_of k.lines c.args.line) s.0 s.2))

pub returns-in-Some-clause-valid : goal.returns-in-Some-clause-valid
returns-in-Some-clause-valid c =
    let k = c.kept.result in
    let s = c.in-Some.ensures.of_line in
    subst (λ (ls : List Line). IsValid (listed ls) (owner_of ls c.args.line) c.in-Some.rule) c.kept.ensures (valid k.terms (listed k.lines) c.in-Some.rule (owner_of k.lines c.args.line) s.0 s.2)

pub returns-in-None-clause-from_line : goal.returns-in-None-clause-from_line
returns-in-None-clause-from_line c = (c.kept.result.terms, subst (λ (ls : List Line). rule_line (line_at ls c.args.line) ≡ None) c.kept.ensures (none_encoded _ c.in-None.ensures.none))
