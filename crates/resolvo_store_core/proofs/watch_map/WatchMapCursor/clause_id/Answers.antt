use Rattle.std.proofs.Common.{◌<◌, length, Some, sym, ◌∙◌, ap, arith}
use Rattle.resolvo_store_core.specs.Watches.{links}
use Rattle.resolvo_store_core.proofs.WatchLemmas.{clause_here, within_from, place_small, map_none}
use Rattle.resolvo_store_core.proofs.watch_map.WatchMapCursor.clause_id.Goals as goal

pub returns-in-Some-clause-clause : goal.returns-in-Some-clause-clause
returns-in-Some-clause-clause c = ap Some c.clause_at.ensures ∙ sym (clause_here c.args.map.now c.args.self.now c.in-Some.link c.requires c.in-Some.is)

pub returns-in-Some-clause-small : goal.returns-in-Some-clause-small
returns-in-Some-clause-small c =
    let m = c.args.map.now in
    let k = c.args.self.now in
    let h : k.place < length m.nexts.items = place_small m k.literal k.place (within_from m k c.in-Some.link c.requires c.in-Some.is) in
    omega (arith, m.nexts.ok, m.nexts.small)

pub returns-in-None-clause-clause : goal.returns-in-None-clause-clause
returns-in-None-clause-clause c =
    let m = c.args.map.now in
    let k = c.args.self.now in
    sym (map_none _ (links m k.literal) k.place (sym c.requires.current ∙ c.in-None.is))
