use Rattle.std.proofs.Common.{◌≡◌, ℕ, Some, set, length-set, refl, sym, ◌∙◌, subst}
use Rattle.std.specs.Prelude.{slice_get}
use Rattle.resolvo_store_core.specs.Signed.{index_in}
use Rattle.resolvo_store_core.specs.Links.{list_in, AreLists}
use Rattle.resolvo_store_core.specs.Watches.{links}
use Rattle.resolvo_store_core.proofs.LinkLemmas.{taken_in, linked, out_behind, out_front, few_set, named_at-read}
use Rattle.resolvo_store_core.proofs.WatchLemmas.{not_at_end, taken_at, taken_free, taken_watchers}
use Rattle.resolvo_store_core.proofs.watch_map.WatchMap.take_out.Goals as goal

pub invariant_of-self : goal.invariant_of-self
invariant_of-self c =
    let s = c.args.self.now in
    let k = c.args.cursor.now in
    let are = out_behind s.firsts.items s.nexts.items (index_in k.literal) k.place c.in-Some.link c.in-Some-before.before c.index-next.result.now s.linked (sym c.requires.at.current ∙ c.in-Some.is) (sym c.requires.at.before ∙ c.in-Some-before.is) c.index-next.ensures in
    record { linked = linked _ _ _ are; few = few_set s.nexts.items c.in-Some-before.before _ s.few }

pub invariant_of-self-in-None-before : goal.invariant_of-self-in-None-before
invariant_of-self-in-None-before c =
    let s = c.args.self.now in
    let k = c.args.cursor.now in
    let are = subst (λ (i : ℕ). AreLists (set s.firsts.items i c.index-next.result.now) s.nexts.items (taken_in (index_in k.literal) k.place (list_in s.firsts.items s.nexts.items))) (sym c.to_index.ensures.index)
    (out_front s.firsts.items s.nexts.items (index_in k.literal) k.place c.in-Some.link c.index-next.result.now s.linked (sym c.requires.at.current ∙ c.in-Some.is) (sym c.requires.at.before ∙ c.in-None-before.is) c.index-next.ensures) in
    record { linked = linked _ _ _ are; few = s.few }

pub unreachable-requires : goal.unreachable-requires
unreachable-requires c = not_at_end c.args.self.now c.args.cursor.now c.requires.at c.requires.in_list c.in-None.is

pub returns-in-Some-before-clause-taken : goal.returns-in-Some-before-clause-taken
returns-in-Some-before-clause-taken c =
    let s = c.args.self.now in
    let k = c.args.cursor.now in
    let are = out_behind s.firsts.items s.nexts.items (index_in k.literal) k.place c.in-Some.link c.in-Some-before.before c.index-next.result.now s.linked (sym c.requires.at.current ∙ c.in-Some.is) (sym c.requires.at.before ∙ c.in-Some-before.is) c.index-next.ensures in
    taken_watchers s _ _ k.literal k.place are

pub returns-in-Some-before-clause-at : goal.returns-in-Some-before-clause-at
returns-in-Some-before-clause-at c =
    let s = c.args.self.now in
    let k = c.args.cursor.now in
    let are = out_behind s.firsts.items s.nexts.items (index_in k.literal) k.place c.in-Some.link c.in-Some-before.before c.index-next.result.now s.linked (sym c.requires.at.current ∙ c.in-Some.is) (sym c.requires.at.before ∙ c.in-Some-before.is) c.index-next.ensures in
    let at : slice_get (links s k.literal) k.place ≡ Some c.in-Some.link = sym c.requires.at.current ∙ c.in-Some.is in
    taken_at s _ _ k c.in-Some.link c.link_at-following.result are c.requires.at c.in-Some.is (c.link_at-following.ensures ∙ sym (named_at-read s.nexts.items c.in-Some.link c.index-next.result.now (s.linked.in_range (index_in k.literal) k.place c.in-Some.link at) c.index-next.ensures))

pub returns-in-Some-before-clause-free : goal.returns-in-Some-before-clause-free
returns-in-Some-before-clause-free c = λ n is.
    let s = c.args.self.now in
    let k = c.args.cursor.now in
    let are = out_behind s.firsts.items s.nexts.items (index_in k.literal) k.place c.in-Some.link c.in-Some-before.before c.index-next.result.now s.linked (sym c.requires.at.current ∙ c.in-Some.is) (sym c.requires.at.before ∙ c.in-Some-before.is) c.index-next.ensures in
    taken_free s _ _ k.literal k.place n are (sym c.requires.at.current ∙ is) (length-set s.nexts.items c.in-Some-before.before _)

pub returns-in-None-before-clause-taken : goal.returns-in-None-before-clause-taken
returns-in-None-before-clause-taken c =
    let s = c.args.self.now in
    let k = c.args.cursor.now in
    let are = subst (λ (i : ℕ). AreLists (set s.firsts.items i c.index-next.result.now) s.nexts.items (taken_in (index_in k.literal) k.place (list_in s.firsts.items s.nexts.items))) (sym c.to_index.ensures.index)
    (out_front s.firsts.items s.nexts.items (index_in k.literal) k.place c.in-Some.link c.index-next.result.now s.linked (sym c.requires.at.current ∙ c.in-Some.is) (sym c.requires.at.before ∙ c.in-None-before.is) c.index-next.ensures) in
    taken_watchers s _ _ k.literal k.place are

pub returns-in-None-before-clause-at : goal.returns-in-None-before-clause-at
returns-in-None-before-clause-at c =
    let s = c.args.self.now in
    let k = c.args.cursor.now in
    let are = subst (λ (i : ℕ). AreLists (set s.firsts.items i c.index-next.result.now) s.nexts.items (taken_in (index_in k.literal) k.place (list_in s.firsts.items s.nexts.items))) (sym c.to_index.ensures.index)
    (out_front s.firsts.items s.nexts.items (index_in k.literal) k.place c.in-Some.link c.index-next.result.now s.linked (sym c.requires.at.current ∙ c.in-Some.is) (sym c.requires.at.before ∙ c.in-None-before.is) c.index-next.ensures) in
    let at : slice_get (links s k.literal) k.place ≡ Some c.in-Some.link = sym c.requires.at.current ∙ c.in-Some.is in
    taken_at s _ _ k c.in-Some.link c.link_at-following.result are c.requires.at c.in-Some.is (c.link_at-following.ensures ∙ sym (named_at-read s.nexts.items c.in-Some.link c.index-next.result.now (s.linked.in_range (index_in k.literal) k.place c.in-Some.link at) c.index-next.ensures))

pub returns-in-None-before-clause-free : goal.returns-in-None-before-clause-free
returns-in-None-before-clause-free c = λ n is.
    let s = c.args.self.now in
    let k = c.args.cursor.now in
    let are = subst (λ (i : ℕ). AreLists (set s.firsts.items i c.index-next.result.now) s.nexts.items (taken_in (index_in k.literal) k.place (list_in s.firsts.items s.nexts.items))) (sym c.to_index.ensures.index)
    (out_front s.firsts.items s.nexts.items (index_in k.literal) k.place c.in-Some.link c.index-next.result.now s.linked (sym c.requires.at.current ∙ c.in-Some.is) (sym c.requires.at.before ∙ c.in-None-before.is) c.index-next.ensures) in
    taken_free s _ _ k.literal k.place n are (sym c.requires.at.current ∙ is) (refl)
