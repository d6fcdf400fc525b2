use Rattle.resolve_refusal.proofs.ForbidLemmas.{no_exclusion, one_exclusion}
use Rattle.resolve_refusal.proofs.lines.Texts.this_exclusion.Goals as goal

pub returns-then-excludes : goal.returns-then-excludes
returns-then-excludes c = λ forbidden v at. one_exclusion c.args.self.catalogue.now c.args.version.0 v c.args.word.now c.args.line c.excludes.result at forbidden (c.excludes.ensures v at) c.if-excludes.true

pub returns-else-excludes : goal.returns-else-excludes
returns-else-excludes c = λ forbidden v at. no_exclusion c.args.self.catalogue.now c.args.version.0 v c.args.word.now c.args.line c.excludes.result at forbidden (c.excludes.ensures v at) c.if-excludes.false
