use Rattle.resolve_refusal.proofs.ForbidLemmas.{marks_least}
use Rattle.resolve_refusal.proofs.lines.Texts.word_line.Goals as goal

pub returns : goal.returns
returns c = λ v at. c.earlier.ensures c.args.self.catalogue.now v c.args.word.now (c.exclusion_line-excludes.ensures v at) (marks_least c.args.self.catalogue.now c.args.self.request.now.lines c.args.version v c.args.word.now c.unknown_line-unknown.result at c.unknown_line-unknown.ensures)
