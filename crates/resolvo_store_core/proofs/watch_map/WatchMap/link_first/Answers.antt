use Rattle.std.proofs.Common.{◌≡◌, ◌+◌, ℕ, suc, slice_set, length-set, subst, arith}
use Rattle.resolvo_store_core.specs.Links.{AreLinked}
use Rattle.resolvo_store_core.proofs.LinkLemmas.{first_linked, few_set, linked}
use Rattle.resolvo_store_core.proofs.WatchLemmas.{put_others, put_watchers, put_free}
use Rattle.resolvo_store_core.proofs.watch_map.WatchMap.link_first.Goals as goal

pub overflow_add-link : goal.overflow_add-link
overflow_add-link c =
    let there = c.requires.free.in_range in
    let few = c.args.self.now.few in
    omega arith

pub invariant_of-self : goal.invariant_of-self
invariant_of-self c =
    let s = c.args.self.now in
    let room = c.requires.room in
    let at = c.to_index-index.ensures.index in
    let e : suc c.args.link ≡ c.args.link + 1 = omega arith in
    let set = linked _ _ _ (first_linked s.firsts.items s.nexts.items c.to_index-index.result c.args.link c.index.result.now s.linked c.requires.free.free (omega arith) c.requires.free.in_range c.index.ensures) in
    record { linked = subst (λ (k : ℕ). AreLinked (slice_set s.firsts.items c.to_index-index.result k) (slice_set s.nexts.items c.args.link c.index.result.now)) e set; few = few_set s.nexts.items c.args.link _ s.few }

pub returns-clause-put : goal.returns-clause-put
returns-clause-put c =
    let s = c.args.self.now in
    let room = c.requires.room in
    let at = c.to_index-index.ensures.index in
    let e : c.args.link + 1 ≡ suc c.args.link = omega arith in
    rw e (put_watchers s _ _ c.args.literal c.to_index-index.result c.args.link at
    (first_linked s.firsts.items s.nexts.items c.to_index-index.result c.args.link c.index.result.now s.linked c.requires.free.free (omega arith) c.requires.free.in_range c.index.ensures))

pub returns-clause-others : goal.returns-clause-others
returns-clause-others c =
    let s = c.args.self.now in
    let room = c.requires.room in
    let at = c.to_index-index.ensures.index in
    let e : c.args.link + 1 ≡ suc c.args.link = omega arith in
    rw e (put_others s _ _ c.args.literal c.to_index-index.result c.args.link at
    (first_linked s.firsts.items s.nexts.items c.to_index-index.result c.args.link c.index.result.now s.linked c.requires.free.free (omega arith) c.requires.free.in_range c.index.ensures))

pub returns-clause-later : goal.returns-clause-later
returns-clause-later c = λ m apart free.
    let s = c.args.self.now in
    let room = c.requires.room in
    let at = c.to_index-index.ensures.index in
    let e : c.args.link + 1 ≡ suc c.args.link = omega arith in
    rw e (put_free s _ _ c.to_index-index.result c.args.link m
    (first_linked s.firsts.items s.nexts.items c.to_index-index.result c.args.link c.index.result.now s.linked c.requires.free.free (omega arith) c.requires.free.in_range c.index.ensures)
    (length-set s.nexts.items c.args.link c.index.result.now) apart free)
