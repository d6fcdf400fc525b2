use Rattle.std.proofs.Common.{◌∙◌}
use Rattle.resolvo_text.specs.View.{version_of}
use Rattle.resolvo_text.specs.Matches.{same_version}
use Rattle.resolvo_text.proofs.Mapped.{any_mapped}
use Rattle.resolvo_text.proofs.spec.is_member.Goals as goal

pub returns : goal.returns
returns c = c.any_is.ensures ∙ any_mapped (same_version (version_of c.args.version.now)) version_of c.args.set.now
