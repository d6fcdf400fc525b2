use Rattle.std.proofs.Common.{List, [], Option, None}
use Rattle.resolvo_text.specs.Line.{Version, Line}
use Rattle.resolvo_text.specs.View.{specs_of}
use Rattle.resolvo_catalogue_core.specs.Questions.{IsRuleLine}
use Rattle.resolve_refusal.proofs.KeptLemmas.{case_found, no_case}
use Rattle.resolve_refusal.proofs.NumberLemmas.{many_at}
use Rattle.resolve_refusal.proofs.lines.Texts.case_number.Goals as goal

pub returns-in-Some-rule-clause-case : goal.returns-in-Some-rule-clause-case
returns-in-Some-rule-clause-case c =
    let (l, at, states) = c.in-Some-rule.ensures.of_line in
    rw c.in-None.is (case_found c.args.self.request.now.lines c.args.line l at (specs_of c.args.alternatives.now) (specs_of c.args.case.now)
    (λ (vs : List Version) (o : Option Version) (line : Line). IsRuleLine vs c.in-Some-rule.rule.now o line) [] None (states []) c.need_case.result c.need_case.ensures.case)

pub returns-in-Some-rule-clause-ids : goal.returns-in-Some-rule-clause-ids
returns-in-Some-rule-clause-ids c = λ is.
    let (l, at, states) = c.in-Some-rule.ensures.of_line in
    rw c.in-None.is (many_at c.args.self.request.now.lines c.args.line l at (c.need_case.ensures.ids is [] None l (states [])))

pub returns-in-None-rule-clause-case : goal.returns-in-None-rule-clause-case
returns-in-None-rule-clause-case c = rw c.in-None.is (no_case c.args.self.request.now.lines c.args.line (specs_of c.args.alternatives.now) (specs_of c.args.case.now) c.in-None-rule.ensures.none)
