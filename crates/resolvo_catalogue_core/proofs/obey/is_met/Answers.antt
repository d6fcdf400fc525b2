use Rattle.std.proofs.Common.{◌∙◌}
use Rattle.resolvo_catalogue_core.specs.Kept.{lent_spec}
use Rattle.resolvo_text.specs.Matches.{matches}
use Rattle.resolvo_catalogue_core.proofs.Members.{some_member}
use Rattle.resolvo_catalogue_core.proofs.obey.is_met.Goals as goal

pub returns : goal.returns
returns c = c.any_matches.ensures ∙ some_member (matches (lent_spec c.args.spec)) c.args.versions.now c.args.set.now
