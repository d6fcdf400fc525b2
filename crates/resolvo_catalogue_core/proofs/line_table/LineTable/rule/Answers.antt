use Rattle.std.proofs.Common.{◌∙◌, sym, ap, Option, Some}
use Rattle.std.specs.Prelude.{option_and_then}
use Rattle.resolvo_catalogue_core.specs.declared.kept_rule.KeptRule.{KeptRule}
use Rattle.resolvo_catalogue_core.specs.declared.stored_lines.StoredLine.{StoredLine}
use Rattle.resolvo_catalogue_core.specs.Held.{rule_of, kind_in}
use Rattle.resolvo_catalogue_core.proofs.HeldLemmas.{rule_held, rule_placed, no_rule_held}
use Rattle.resolvo_catalogue_core.proofs.line_table.LineTable.rule.Goals as goal

pub returns-in-Need : goal.returns-in-Need
returns-in-Need c =
    let rules = c.args.self.now.rules.items in
    let marked = c.args.self.now.marked.items in
    let rule_here = λ (h : StoredLine). rule_of (kind_in rules marked h) in
    ap (λ (r : KeptRule). Some r) c.plain.ensures ∙ sym (rule_held rules marked c.args.self.now.held c.args.line ∙ ap (λ (o : Option StoredLine). option_and_then rule_here o) (sym c.in_ok-held.ensures) ∙ ap rule_here c.in-Need.is)

pub returns-in-AnyOf : goal.returns-in-AnyOf
returns-in-AnyOf c =
    let rules = c.args.self.now.rules.items in
    let marked = c.args.self.now.marked.items in
    let rule_here = λ (h : StoredLine). rule_of (kind_in rules marked h) in
    ap (λ (r : KeptRule). Some r) c.plain-in-AnyOf.ensures ∙ sym (rule_held rules marked c.args.self.now.held c.args.line ∙ ap (λ (o : Option StoredLine). option_and_then rule_here o) (sym c.in_ok-held.ensures) ∙ ap rule_here c.in-AnyOf.is)

pub returns-in-Limit : goal.returns-in-Limit
returns-in-Limit c =
    let rules = c.args.self.now.rules.items in
    let marked = c.args.self.now.marked.items in
    let rule_here = λ (h : StoredLine). rule_of (kind_in rules marked h) in
    sym (rule_held rules marked c.args.self.now.held c.args.line ∙ ap (λ (o : Option StoredLine). option_and_then rule_here o) (sym c.in_ok-held.ensures) ∙ ap rule_here c.in-Limit.is)

pub returns-in-Rule : goal.returns-in-Rule
returns-in-Rule c =
    let rules = c.args.self.now.rules.items in
    let marked = c.args.self.now.marked.items in
    let rule_here = λ (h : StoredLine). rule_of (kind_in rules marked h) in
    c.rule_at.ensures ∙ sym (rule_held rules marked c.args.self.now.held c.args.line ∙ ap (λ (o : Option StoredLine). option_and_then rule_here o) (sym c.in_ok-held.ensures) ∙ ap rule_here c.in-Rule.is ∙ rule_placed _)

pub returns-in_default : goal.returns-in_default
returns-in_default c =
    let rules = c.args.self.now.rules.items in
    let marked = c.args.self.now.marked.items in
    let rule_here = λ (h : StoredLine). rule_of (kind_in rules marked h) in
    sym (rule_held rules marked c.args.self.now.held c.args.line ∙ ap (λ (o : Option StoredLine). option_and_then rule_here o) (sym c.in_ok-held.ensures) ∙ no_rule_held rules marked c.in_ok-held.held c.in_default.not-Need c.in_default.not-AnyOf c.in_default.not-Limit c.in_default.not-Rule)
