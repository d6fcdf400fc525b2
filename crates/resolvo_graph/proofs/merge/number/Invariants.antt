use Rattle.std.proofs.Common.{◌≡◌, All, map}
use Rattle.resolvo_graph.proofs.MemberLemmas.{member_in, IsThere}
use Rattle.resolvo_graph.proofs.merge.number.Given as goal

-- the profiles so far have the numbers of their likenesses
abbrev pub invariant-loop-profile : goal.invariant-loop-profile
invariant-loop-profile g l = (l.members.items ≡ map (member_in g.N.PartialEq.eq l.likenesses.keys) l.yielded) × All (IsThere g.N.PartialEq.eq l.likenesses.keys) l.yielded
