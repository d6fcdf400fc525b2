use Rattle.std.proofs.Common.{◌<◌, length, refl, arith}
use Rattle.std.proofs.lemmas.Option.{slice_get_read}
use Rattle.resolvo_graph.proofs.MergeLemmas.{ids_at-put}
use Rattle.resolvo_graph.proofs.merge.add.Goals as goal

pub returns-clause-ids : goal.returns-clause-ids
returns-clause-ids g c =
    let groups = c.args.groups.now.items in
    let less : c.args.member.group < length groups = omega (arith, c.args.groups.now.ok) in
    ids_at-put groups c.args.member.group c.index_mut.result.now (record { ids = c.push.new.self }) c.args.member.solvable (slice_get_read groups (length groups) c.args.member.group c.index_mut.result.now refl less c.index_mut.ensures.value) c.in_ok-push.ensures.items
