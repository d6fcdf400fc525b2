use Rattle.std.proofs.Common.{refl}
use Rattle.resolvo_text.specs.View.{version_of}
use Rattle.resolvo_judge.proofs.ChosenLemmas.{adds}
use Rattle.resolvo_judge.proofs.chosen.Chosen.add.Goals as goal

pub returns-clause-added : goal.returns-clause-added
returns-clause-added c = λ set h none. adds c.args.self.now _ set (version_of c.args.version.now) h none c.in_ok-add_number.ensures refl
