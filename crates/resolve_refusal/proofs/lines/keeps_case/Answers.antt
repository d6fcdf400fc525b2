use Rattle.std.proofs.Common.{List, Option, ap, ◌∙◌}
use Rattle.resolvo_text.specs.Line.{Version, Line}
use Rattle.resolvo_text.specs.View.{specs_of}
use Rattle.resolvo_catalogue_core.specs.Grammar.{line_at}
use Rattle.resolvo_catalogue_core.specs.Kept.{IsKeptLine}
use Rattle.resolve_refusal.proofs.KeptLemmas.{kept_at, case_found, no_case}
use Rattle.resolve_refusal.proofs.NumberLemmas.{many_at}
use Rattle.resolve_refusal.proofs.lines.keeps_case.Goals as goal

pub returns-in-Some-clause-case : goal.returns-in-Some-clause-case
returns-in-Some-clause-case c =
    let lines = c.args.catalogue.now in
    let (l, at, is) = kept_at lines c.kept-kept.result.lines c.kept-kept.ensures c.kept-kept.result.terms c.terms.result.now c.terms.ensures.terms c.args.line c.in-Some.rule c.in-Some.ensures.of_line in
    case_found lines c.args.line l at (specs_of c.args.alternatives.now) (specs_of c.args.case.now)
    (λ (vs : List Version) (o : Option Version) (line : Line). IsKeptLine c.terms.result.now vs c.in-Some.rule o line) _ _ is c.need_case_kept.result c.need_case_kept.ensures.case

pub returns-in-Some-clause-ids : goal.returns-in-Some-clause-ids
returns-in-Some-clause-ids c = λ e.
    let lines = c.args.catalogue.now in
    let (l, at, is) = kept_at lines c.kept-kept.result.lines c.kept-kept.ensures c.kept-kept.result.terms c.terms.result.now c.terms.ensures.terms c.args.line c.in-Some.rule c.in-Some.ensures.of_line in
    many_at lines c.args.line l at (c.need_case_kept.ensures.ids e _ _ l is)

pub returns-in-None-clause-case : goal.returns-in-None-clause-case
returns-in-None-clause-case c = no_case c.args.catalogue.now c.args.line (specs_of c.args.alternatives.now) (specs_of c.args.case.now)
    (λ l at. c.in-None.ensures.none l (ap (λ (ls : List Line). line_at ls c.args.line) c.kept-kept.ensures ∙ at))
