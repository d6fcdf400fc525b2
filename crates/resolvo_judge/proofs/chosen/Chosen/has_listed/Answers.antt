use Rattle.std.proofs.Common.{◌∙◌}
use Rattle.resolvo_catalogue_core.specs.Listed.{version_by}
use Rattle.resolvo_judge.proofs.ChosenLemmas.{has_by}
use Rattle.resolvo_judge.proofs.chosen.Chosen.has_listed.Goals as goal

pub returns : goal.returns
returns c = λ set h.
    c.is_some.ensures
    ∙ has_by c.args.self.now set (version_by c.args.version.0.now c.args.version.1) c.index.result h c.index.ensures
