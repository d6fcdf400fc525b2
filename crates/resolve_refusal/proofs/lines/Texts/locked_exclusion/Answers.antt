use Rattle.resolve_refusal.proofs.ForbidLemmas.{excluded_once}
use Rattle.resolve_refusal.proofs.lines.Texts.locked_exclusion.Goals as goal

pub returns-then-excludes : goal.returns-then-excludes
returns-then-excludes c = λ v at.
    let here = (c.excludes.ensures v at).0 c.if-excludes.true in
    (here, λ m below content. excluded_once c.args.self.catalogue.now c.lines_are_in_place.ensures v c.args.word.now m c.in-Some.line content here below)
