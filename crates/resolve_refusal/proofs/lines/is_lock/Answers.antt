use Rattle.std.proofs.Common.{List, ◌∙◌, ap}
use Rattle.resolvo_text.specs.Line.{Line}
use Rattle.resolvo_catalogue_core.specs.Grammar.{line_at}
use Rattle.resolve_refusal.specs.Lines.{locks}
use Rattle.resolve_refusal.proofs.ForbidLemmas.{no_lock}
use Rattle.resolve_refusal.proofs.KeptLemmas.{one_line}
use Rattle.resolve_refusal.proofs.lines.is_lock.Goals as goal

pub returns-in-Some : goal.returns-in-Some
returns-in-Some c = λ l at.
    let (line, there, is) = c.in-Some.ensures.of_line in
    c.locks.ensures _ _ _ line is ∙ ap locks (one_line c.args.catalogue.now c.kept.result.lines c.kept.ensures c.args.line line l there at)

pub returns-in-None : goal.returns-in-None
returns-in-None c = λ l at. no_lock l (c.in-None.ensures.none l (ap (λ (ls : List Line). line_at ls c.args.line) c.kept.ensures ∙ at))
