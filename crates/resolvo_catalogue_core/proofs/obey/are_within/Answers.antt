use Rattle.std.proofs.Common.{◌∙◌, not, ◌||◌}
use Rattle.std.specs.Str.{bytes_eq}
use Rattle.resolvo_catalogue_core.specs.Kept.{lent_spec}
use Rattle.resolvo_text.specs.Matches.{matches}
use Rattle.resolvo_catalogue_core.proofs.Members.{each_member}
use Rattle.resolvo_catalogue_core.proofs.obey.are_within.Goals as goal

pub returns : goal.returns
returns c = c.all_are_within.ensures ∙ each_member (λ v. not (bytes_eq v.name (lent_spec c.args.spec).name) || matches (lent_spec c.args.spec) v) c.args.versions.now c.args.set.now
