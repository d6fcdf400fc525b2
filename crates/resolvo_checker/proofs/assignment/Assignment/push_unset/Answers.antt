use Rattle.resolvo_checker.proofs.MarkLemmas.{known_in-push}
use Rattle.resolvo_checker.proofs.assignment.Assignment.push_unset.Goals as goal

pub returns-clause-known : goal.returns-clause-known
returns-clause-known c = rw c.in_ok-push.ensures.items (known_in-push c.args.self.now.marks.items c.args.self.now.pass 0)
