use Rattle.std.proofs.Common.{◌∙◌, List, ℕ, ap}
use Rattle.resolvo_catalogue_core.specs.Sets.{is_many}
use Rattle.resolvo_catalogue.proofs.candidate_flags.is_many.Goals as goal

pub returns : goal.returns
returns c = c.is_many.ensures ∙ ap (λ (text : List ℕ). is_many c.args.catalogue.now text) c.name.ensures
