use Rattle.std.proofs.Common.{option_map, ap, ◌∙◌}
use Rattle.resolvo_text.specs.View.{version_of}
use Rattle.resolvo_catalogue_core.specs.Questions.{ReadRequest}
use Rattle.resolvo_catalogue_core.proofs.AskSteps.{asked_wish}
use Rattle.resolvo_catalogue_core.proofs.request.Request.wish.Goals as goal

pub returns : goal.returns
returns c = ap (option_map version_of) c.wished_at.ensures ∙ asked_wish c.self.inside.asks c.args.self.now.lines (ap (λ (s : ReadRequest). s.lines) c.self.view_is) c.args.line
