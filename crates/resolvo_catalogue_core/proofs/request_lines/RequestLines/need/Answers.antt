use Rattle.std.proofs.Common.{None, refl}
use Rattle.resolvo_text.specs.View.{specs_of, list_of, condition_of}
use Rattle.resolvo_catalogue_core.specs.declared.rule.Rule.TheVariants as rule
use Rattle.resolvo_text.specs.Line.{Needs}
use Rattle.resolvo_catalogue_core.specs.Listed.{listed}
use Rattle.resolvo_catalogue_core.specs.declared.request_lines.RequestLine.TheVariants as ask
use Rattle.resolvo_catalogue_core.proofs.AskSteps.{plain}
use Rattle.resolvo_catalogue_core.proofs.request_lines.RequestLines.need.Goals as goal

pub returns-clause-ok : goal.returns-clause-ok
returns-clause-ok c = plain (listed c.args.catalogue.now) c.args.self.now (record c.args.self.now { asks = c.push.new.self }) (ask.Rule (rule.Needs None c.args.alternatives c.args.condition)) (Needs (specs_of (list_of c.args.alternatives)) (condition_of c.args.condition)) c.requires c.in_ok-push.ensures.items refl refl (λ v o h. h) (λ o h. h)
