use Rattle.std.proofs.Common.{◌∙◌}
use Rattle.resolvo_text.specs.View.{version_of, spec_of}
use Rattle.resolvo_text.specs.Matches.{matches}
use Rattle.resolvo_text.proofs.Mapped.{any_mapped}
use Rattle.resolvo_text.proofs.spec.is_met.Goals as goal

pub returns : goal.returns
returns c = c.any_matches.ensures ∙ any_mapped (matches (spec_of c.args.spec.now)) version_of c.args.set.now
