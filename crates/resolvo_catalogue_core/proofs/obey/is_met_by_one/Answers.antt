use Rattle.std.proofs.Common.{◌∙◌}
use Rattle.resolvo_text.specs.View.{spec_of}
use Rattle.resolvo_text.specs.Matches.{is_met}
use Rattle.resolvo_text.proofs.Mapped.{any_mapped}
use Rattle.resolvo_catalogue_core.specs.Listed.{members}
use Rattle.resolvo_catalogue_core.proofs.obey.is_met_by_one.Goals as goal

pub returns : goal.returns
returns c = c.any_is_met.ensures ∙ any_mapped (λ s. is_met s (members c.args.versions.now c.args.set.now)) spec_of c.args.alternatives.now
