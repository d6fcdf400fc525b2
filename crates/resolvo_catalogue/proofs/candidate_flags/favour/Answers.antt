use Rattle.std.proofs.Common.{◌≡◌, Some, sym, ap, ◌∙◌}
use Rattle.std.specs.Prelude.{slice_get}
use Rattle.std.proofs.lemmas.Option.{slice_get-get_or}
use Rattle.resolvo_catalogue.specs.declared.candidate_flags.CandidateFlags.{CandidateFlags}
use Rattle.resolvo_catalogue.proofs.MarkLemmas.{marked_favour, not_past}
use Rattle.resolvo_catalogue.proofs.candidate_flags.favour.Goals as goal

pub returns-in-Some : goal.returns-in-Some
returns-in-Some c ids versions lines favours v distinct there h =
    let item = c.in-Some.ensures.item in
    let at : slice_get c.args.marks.now.items c.args.version.0 ≡ Some c.in-Some.found.now = slice_get-get_or c.args.marks.now.items _ c.in-Some.found.now item.3.0 ∙ ap (λ (m : CandidateFlags). Some m) (sym item.1) in
    marked_favour ids lines favours versions c.args.marks.now.items distinct h c.args.version.0 c.in-Some.found.now v at there

pub returns-in_default : goal.returns-in_default
returns-in_default c ids versions lines favours v distinct there h = not_past ids lines favours versions c.args.marks.now.items distinct h c.args.version.0 v there c.in_default.ensures.item.3
