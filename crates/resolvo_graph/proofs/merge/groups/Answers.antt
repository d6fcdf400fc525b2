use Rattle.std.proofs.Common.{◌∙◌, ◌++◌, ◌∷◌, [], ap, sym, cond, refl}
use Rattle.std.specs.Prelude.{◌==◌}
use Rattle.resolvo_graph.proofs.MergeLemmas.{numbered_more}
use Rattle.resolvo_graph.specs.Kept.{ids_at}
use Rattle.resolvo_graph.specs.Merge.{numbered}
use Rattle.resolvo_graph.proofs.ListLemmas.{whole}
use Rattle.resolvo_graph.proofs.merge.groups.Goals as goal

pub loop-member-preserved : goal.loop-member-preserved
loop-member-preserved g c = λ n.
    let m = c.member-item.result in
    c.in_ok-add.ensures.ids n ∙ ap (λ xs. xs ++ cond (m.group == n) (m.solvable ∷ []) []) (c.cover.ensures.same n ∙ c.loop-member.invariant n)
    ∙ sym (numbered_more c.args.members.now c.loop-member.member-index m c.loop-member-test.true c.member-item.is n)

pub returns-clause-groups : goal.returns-clause-groups
returns-clause-groups g c = λ n. whole (λ ms. numbered ms n) c.args.members.now c.args.members.now c.loop-member.member-index (ids_at c.loop-member.groups.items n) c.loop-member-test.false refl (c.loop-member.invariant n)
