use Rattle.std.proofs.Common.{◌≡◌, ◌∙◌, ◌+◌, false, [], List, Some, cond, ap, sym, drop, map, length}
use Rattle.std.specs.Prelude.{◌&&◌, nat_lt}
use Rattle.std.specs.Option.{option_or}
use Rattle.resolvo_graph.specs.declared.merge.Member.{Member}
use Rattle.resolvo_graph.specs.Kept.{merged_with, ids_at}
use Rattle.resolvo_graph.specs.Merge.{together, group_among}
use Rattle.resolvo_graph.proofs.ListLemmas.{left}
use Rattle.resolvo_graph.proofs.MergeLemmas.{and_false, kept_one, ids_found, ids_past, dropped}
use Rattle.resolvo_graph.proofs.merge.merged.Goals as goal
use Rattle.resolvo_graph.proofs.merge.merged.Goals.{in-Some+in_ok-keep, in_default}

pub loop-member-preserved : goal.loop-member-preserved
loop-member-preserved g c = λ s.
    let ms = c.args.members.now in
    let i = c.loop-member.member-index in
    let m = c.member-item.result in
    let ids = ids_at (map (λ r. r.value) c.args.groups.now) in
    let among = λ (ns : List (Member g.row.S.Denot)). group_among g.S.PartialEq.eq ids ns s in
    let at : among (drop i ms) ≡ option_or (among (drop (i + 1) ms)) (together g.S.PartialEq.eq ids m s) = ap among (left ms i m m c.loop-member-test.true c.member-item.is) in
    let from = c.loop-member.invariant s ∙ ap (λ o. option_or o (merged_with g.S.PartialEq.eq c.loop-member.merged s)) at in
    let eq = g.S.PartialEq.eq in
    let old = merged_with eq c.loop-member.merged s in
    elim c.match-get.branch [
      | in-Some+in_ok-keep w ↦
          let found : ids m.group ≡ w.in-Some.group.now.value.ids.items = ids_found (λ r. r.value) c.args.groups.now m.group w.in-Some.group.now w.in-Some.ensures.lookup.3.0 w.in-Some.ensures.lookup.1 in
          kept_one _ (among (drop (i + 1) ms)) old (merged_with eq c.match-get.merged s) (eq m.solvable s && nat_lt 1 (length (ids m.group))) (ids m.group) from
          (ap (λ n. merged_with eq n s) w.merged-is ∙ w.in_ok-keep.ensures.kept s ∙ ap (λ xs. cond (eq m.solvable s && nat_lt 1 (length xs)) (Some xs) old) (sym found))
      | in_default w ↦
          let none : ids m.group ≡ [] = ids_past (λ r. r.value) c.args.groups.now m.group w.in_default.ensures.lookup.3 in
          let alone : (eq m.solvable s && nat_lt 1 (length (ids m.group))) ≡ false = ap (λ xs. eq m.solvable s && nat_lt 1 (length xs)) none ∙ and_false (eq m.solvable s) in
          kept_one _ (among (drop (i + 1) ms)) old (merged_with eq c.match-get.merged s) (eq m.solvable s && nat_lt 1 (length (ids m.group))) (ids m.group) from
          (ap (λ n. merged_with eq n s) w.merged-is ∙ ap (λ b. cond b (Some (ids m.group)) old) (sym alone))
    ]

pub returns-clause-merged : goal.returns-clause-merged
returns-clause-merged g c = λ s.
    let ids = ids_at (map (λ r. r.value) c.args.groups.now) in
    sym (c.loop-member.invariant s ∙ ap (λ ms. option_or (group_among g.S.PartialEq.eq ids ms s) (merged_with g.S.PartialEq.eq c.loop-member.merged s)) (dropped c.args.members.now c.loop-member.member-index c.loop-member-test.false))
