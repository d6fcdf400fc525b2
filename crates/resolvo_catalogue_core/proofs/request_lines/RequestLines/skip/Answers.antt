use Rattle.std.proofs.Common.{refl}
use Rattle.resolvo_text.specs.Line.{Skipped}
use Rattle.resolvo_catalogue_core.specs.Listed.{listed}
use Rattle.resolvo_catalogue_core.specs.declared.request_lines.RequestLine.TheVariants as ask
use Rattle.resolvo_catalogue_core.proofs.AskSteps.{plain}
use Rattle.resolvo_catalogue_core.proofs.request_lines.RequestLines.skip.Goals as goal

pub returns-clause-ok : goal.returns-clause-ok
returns-clause-ok c = plain (listed c.args.catalogue.now) c.args.self.now (record c.args.self.now { asks = c.push.new.self }) ask.Nothing Skipped c.requires c.in_ok-push.ensures.items refl tt (λ v o h. h) (λ o h. h)
