use Rattle.std.proofs.Common.{None, refl}
use Rattle.resolvo_text.specs.View.{spec_of}
use Rattle.resolvo_catalogue_core.specs.declared.rule.Rule.TheVariants as rule
use Rattle.resolvo_text.specs.Line.{Limits}
use Rattle.resolvo_catalogue_core.specs.Listed.{listed}
use Rattle.resolvo_catalogue_core.specs.declared.request_lines.RequestLine.TheVariants as ask
use Rattle.resolvo_catalogue_core.proofs.AskSteps.{plain}
use Rattle.resolvo_catalogue_core.proofs.request_lines.RequestLines.limit.Goals as goal

pub returns-clause-ok : goal.returns-clause-ok
returns-clause-ok c = plain (listed c.args.catalogue.now) c.args.self.now (record c.args.self.now { asks = c.push.new.self }) (ask.Rule (rule.Limits None c.args.spec)) (Limits (spec_of c.args.spec)) c.requires c.in_ok-push.ensures.items refl refl (λ v o h. h) (λ o h. h)
