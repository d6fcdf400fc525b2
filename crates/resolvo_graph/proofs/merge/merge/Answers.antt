use Rattle.std.proofs.Common.{◌≡◌, ◌∙◌, ℕ, ap, map}
use Rattle.resolvo_graph.specs.Kept.{ids_at}
use Rattle.resolvo_graph.specs.Merge.{numbered, group_among}
use Rattle.resolvo_graph.proofs.ResultLemmas.{ok_map}
use Rattle.resolvo_graph.proofs.MemberLemmas.{group_among_is_group}
use Rattle.resolvo_graph.proofs.merge.merge.Goals as goal

pub returns-clause-merged : goal.returns-clause-merged
returns-clause-merged g c =
    let ps = c.args.profiles.items in
    let ms = c.in_ok-members.members.items in
    let groups = map (λ r. r.value) c.deref-3.result.now in
    let ids : (n : ℕ) → ids_at groups n ≡ numbered ms n = λ n. ap (λ rs. ids_at (map (λ r. r.value) rs) n) c.deref-3.ensures.value ∙ ap (λ ns. ids_at ns n) c.in_ok-groups-2.ensures.groups ∙ c.in_ok-groups.ensures.groups n ∙ ap (λ ns. numbered ns n) c.deref.ensures.value in
    ok_map c.merged.result (λ m so. λ s. so s ∙ ap (λ ns. group_among g.S.PartialEq.eq (ids_at groups) ns s) c.deref-2.ensures.value ∙ group_among_is_group g.N.PartialEq.eq g.S.PartialEq.eq (ids_at groups) ps ms ids ps ms c.in_ok-members.ensures.members s) c.merged.ensures.merged
