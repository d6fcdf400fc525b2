use Rattle.resolvo_checker.proofs.NameLemmas.{extends_one}
use Rattle.resolvo_checker.proofs.clause_atoms.push_key.Goals as goal

pub returns : goal.returns
returns c = λ vs a is. rw c.in_ok-push.ensures.items (extends_one vs c.args.numbers.now c.args.out.now.items c.number.new.self a c.args.key.now c.in_ok-atom.atom c.args.positive c.in_ok-atom.ensures.keeps is c.in_ok-atom.ensures.found)
