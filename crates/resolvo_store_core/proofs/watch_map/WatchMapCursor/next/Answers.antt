use Rattle.std.proofs.Common.{◌<◌, length, sym, ◌∙◌, arith}
use Rattle.resolvo_store_core.specs.Signed.{index_in}
use Rattle.resolvo_store_core.proofs.LinkLemmas.{named_at-read}
use Rattle.resolvo_store_core.proofs.WatchLemmas.{not_at_end, next_at_cursor, place_small}
use Rattle.resolvo_store_core.proofs.watch_map.WatchMapCursor.next.Goals as goal

pub overflow_add-self : goal.overflow_add-self
overflow_add-self c =
    let m = c.args.map.now in
    let h : c.args.self.now.place < length m.nexts.items = place_small m c.args.self.now.literal c.args.self.now.place c.requires.in_list in
    omega (arith, m.nexts.ok, m.nexts.small)

pub unreachable-requires : goal.unreachable-requires
unreachable-requires c = not_at_end c.args.map.now c.args.self.now c.requires.at c.requires.in_list c.in-None.is

pub returns-clause-at : goal.returns-clause-at
returns-clause-at c =
    let m = c.args.map.now in
    let k = c.args.self.now in
    next_at_cursor m k c.in-Some.link c.link_at-self.result c.requires.at c.in-Some.is (c.link_at-self.ensures ∙ sym (named_at-read m.nexts.items c.in-Some.link c.index.result.now (m.linked.in_range (index_in k.literal) k.place c.in-Some.link (sym c.requires.at.current ∙ c.in-Some.is)) c.index.ensures))
