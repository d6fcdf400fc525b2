use Rattle.resolvo_state.proofs.MemberLemmas.{included_known, included_last}
use Rattle.resolvo_state.proofs.members.Members.insert.Goals as goal

pub returns-then-is_last-clause-included : goal.returns-then-is_last-clause-included
returns-then-is_last-clause-included g c = included_known c.args.member _ (c.is_last.ensures c.if-is_last.true)

pub returns-clause-included : goal.returns-clause-included
returns-clause-included g c = rw (← c.self.view_is) (included_last c.args.member c.self.inside.keys.items _ c.in_ok-push.ensures.items)
