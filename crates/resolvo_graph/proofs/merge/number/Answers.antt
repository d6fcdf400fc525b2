use Rattle.std.proofs.Common.{◌≡◌, ◌∙◌, ◌++◌, ◌∷◌, [], subst, All, map}
use Rattle.std.proofs.lemmas.Iterator.Consumers.{YieldsList-end}
use Rattle.std.proofs.lemmas.Iterator.Adapters.{YieldsList-from_vec}
use Rattle.resolvo_graph.proofs.TreeLemmas.{all_yielded}
use Rattle.resolvo_graph.proofs.MemberLemmas.{with_likeness, like_own, member_in, IsThere, members_more, are_members}
use Rattle.resolvo_graph.proofs.merge.number.Goals as goal

pub loop-profile-preserved : goal.loop-profile-preserved
loop-profile-preserved g c =
    let k = c.profile.inside.likeness in
    let s = c.profile.inside.solvable in
    let ps = c.loop-profile.yielded in
    let was = c.loop-profile.likenesses.keys in
    let now = c.insert_full.new.self.keys in
    subst (λ p. (c.push.new.self.items ≡ map (member_in g.N.PartialEq.eq now) (ps ++ p ∷ [])) × All (IsThere g.N.PartialEq.eq now) (ps ++ p ∷ [])) c.profile.view_is
    (members_more g.N.PartialEq.eq was now k (with_likeness g.N.PartialEq.eq k s) ps c.loop-profile.members.items c.push.new.self.items c.in_ok-group.group c.in_ok-group.ensures.keys (like_own g.N.PartialEq.eq g.met.N.Eq.laws k s) c.in_ok-group.ensures.index c.in_ok-push.ensures.items c.loop-profile.invariant)

pub returns-clause-members : goal.returns-clause-members
returns-clause-members g c =
    let given = c.into_iter-profile-iterator.ensures.into_iter_gives in
    let ended = YieldsList-end (YieldsList-from_vec {s = c.into_iter-profile-iterator.result} c.args.profiles.items given.0 (given.1 ∙ c.args.profiles.ok.0)) c.loop-profile.yielded c.loop-profile.profile-iterator c.loop-profile.yielded_by c.next.result c.next.new.self c.in-None.is c.next.ensures.steps in
    let all : c.loop-profile.yielded ≡ c.args.profiles.items = all_yielded c.loop-profile.yielded c.args.profiles.items ended.0 in
    are_members g.N.PartialEq.eq g.met.N.Eq.laws c.loop-profile.likenesses.keys c.args.profiles.items c.loop-profile.members.items (subst (λ ps. (c.loop-profile.members.items ≡ map (member_in g.N.PartialEq.eq c.loop-profile.likenesses.keys) ps) × All (IsThere g.N.PartialEq.eq c.loop-profile.likenesses.keys) ps) all c.loop-profile.invariant)
