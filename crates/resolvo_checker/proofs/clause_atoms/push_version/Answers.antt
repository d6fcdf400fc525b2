use Rattle.std.proofs.Common.{[], ◌∷◌}
use Rattle.resolvo_checker.proofs.BuiltLemmas.{version_named}
use Rattle.resolvo_checker.proofs.NameLemmas.{extends_one}
use Rattle.resolvo_checker.proofs.clause_atoms.push_version.Goals as goal

pub returns : goal.returns
returns c = λ vs clause e. version_named vs c.args.numbers.now c.args.out.now.items c.number_of_version.new.self c.push.new.self.items c.args.version.0 c.args.positive
    (λ a is. rw c.in_ok-push.ensures.items (extends_one vs c.args.numbers.now c.args.out.now.items c.number_of_version.new.self a (0 ∷ c.args.version.0 ∷ []) c.in_ok-atom.atom c.args.positive c.in_ok-atom.ensures.keeps is c.in_ok-atom.ensures.found)) clause e
