use Rattle.std.proofs.Common.{◌∙◌}
use Rattle.resolvo_catalogue_core.proofs.Members.{has_number}
use Rattle.resolvo_catalogue_core.proofs.obey.is_member.Goals as goal

pub returns : goal.returns
returns c = λ versions v distinct at. c.has_number.ensures ∙ has_number versions distinct c.args.number.0 v at c.args.set.now
