use Rattle.std.proofs.Common.{◌∙◌, ℕ, List, ap}
use Rattle.std.specs.BTreeMap.{get_by_text}
use Rattle.resolvo_text.specs.View.{version_of}
use Rattle.resolvo_judge.specs.Chosen.{index_in}
use Rattle.resolvo_judge.proofs.ChosenLemmas.{has_by}
use Rattle.resolvo_judge.proofs.chosen.Chosen.has.Goals as goal

pub returns : goal.returns
returns c = λ set h.
    c.is_some.ensures
    ∙ has_by c.args.self.now set (version_of c.args.version.now) c.index.result h (c.index.ensures ∙ ap (λ (name : List ℕ). index_in (get_by_text c.args.self.now.packages name) c.args.version.now.number) c.deref.ensures)
