use Rattle.std.proofs.Common.{◌≡◌, ◌∙◌, Some, ap, sym, subst}
use Rattle.resolvo_text.specs.Line.{Line}
use Rattle.resolvo_terms.specs.Terms.{Terms}
use Rattle.resolvo_catalogue_core.specs.Grammar.{line_at, owner_of}
use Rattle.resolvo_catalogue_core.specs.Kept.{IsKeptLine, KeptLines, rule_at}
use Rattle.resolvo_catalogue_core.specs.Listed.{listed}
use Rattle.resolvo_catalogue_core.specs.Table.{kinds_in}
use Rattle.resolvo_catalogue_core.proofs.CatalogueFacts.{rule_is_line, no_rule, some_then, none_then}
use Rattle.resolvo_catalogue_core.proofs.KeptLemmas.{rule_at_kind}
use Rattle.resolvo_catalogue_core.proofs.kept_lines.KeptLines.rule.Goals as goal

pub returns-clause-value : goal.returns-clause-value
returns-clause-value c = c.rule.ensures ∙ rule_at_kind (kinds_in c.self.inside.table.now) c.args.line ∙ ap (λ (k : KeptLines). rule_at k.rules c.args.line) c.self.view_is

pub returns-clause-of_line : goal.returns-clause-of_line
returns-clause-of_line c =
    let k = c.args.self.now in
    some_then c.rule.result (λ r is.
    subst (λ (u : Terms). (l : Line) × (line_at k.lines c.args.line ≡ Some l) × IsKeptLine u (listed k.lines) r (owner_of k.lines c.args.line) l) (ap (λ (s : KeptLines). s.terms) c.self.view_is)
    (rule_is_line c.self.inside.table.now k.lines (ap (λ (s : KeptLines). s.lines) c.self.view_is) c.self.invariant.0 c.args.line r (sym c.rule.ensures ∙ is)))

pub returns-clause-none : goal.returns-clause-none
returns-clause-none c = none_then c.rule.result (λ is. no_rule c.self.inside.table.now c.args.self.now.lines (ap (λ (s : KeptLines). s.lines) c.self.view_is) c.args.line (sym c.rule.ensures ∙ is))
