use Rattle.std.proofs.Common.{◌∙◌, sym, ap, None, []}
use Rattle.resolvo_text.specs.View.{cases_of}
use Rattle.resolvo_catalogue_core.specs.Questions.{cases_of_line}
use Rattle.resolvo_catalogue_core.proofs.CatalogueFacts.{no_cases, ok_map}
use Rattle.resolvo_catalogue_core.proofs.request.Request.cases.Goals as goal

pub returns-in-Some : goal.returns-in-Some
returns-in-Some c =
    let s = c.in-Some.ensures.of_line in
    ok_map c.cases.result c.cases.ensures (λ v answer. answer [] None s.0 (s.2 []) ∙ ap cases_of_line (sym s.1))

pub returns-in-None : goal.returns-in-None
returns-in-None c = ap cases_of c.new.ensures.items ∙ no_cases c.args.self.now.lines c.args.line c.in-None.ensures.none
