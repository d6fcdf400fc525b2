use Rattle.std.proofs.Common.{◌≡◌, ◌≤◌, ℕ, true, false, Bool, cond, length, vec_len, is_ok, refl, ap, arith}
use Rattle.resolvo_store_core.specs.Links.{link_of}
use Rattle.resolvo_store_core.proofs.LinkLemmas.{linked, added_lists}
use Rattle.resolvo_store_core.proofs.WatchLemmas.{same_added}
use Rattle.resolvo_store_core.proofs.watch_map.WatchMap.reserve_links.Goals as goal

-- the length of a list that grew, or stayed
grown : (b : Bool) (len wanted n : ℕ) → n ≡ cond b wanted len → len ≤ wanted → wanted ≤ 4294967294 → (len ≤ n) × (n ≤ 4294967294)
grown true len wanted n e more few = (omega arith, omega arith)
grown false len wanted n e more few = (omega arith, omega arith)

pub invariant_of-self : goal.invariant_of-self
invariant_of-self c =
    let s = c.args.self.now in
    let wanted = c.min-wanted.ensures in
    let size : vec_len s.nexts ≡ length s.nexts.items = s.nexts.ok.0 in
    let size' : vec_len c.resize.new.self ≡ length c.resize.new.self.items = c.resize.new.self.ok.0 in
    let bounds = grown (is_ok c.resize.result) (vec_len s.nexts) c.min-wanted.result (vec_len c.resize.new.self) c.resize.ensures.len (omega arith) (omega arith) in
    let longer : vec_len s.nexts ≤ vec_len c.resize.new.self = bounds.0 in
    let few : vec_len c.resize.new.self ≤ 4294967294 = bounds.1 in
    record {
      linked = linked _ _ _ (added_lists s.firsts.items s.nexts.items c.resize.new.self.items s.linked (λ n h. ap link_of (c.resize.ensures.by_index.0 n 0 (omega arith) (omega arith))) (omega arith));
      few = omega arith;
    }

pub returns-in_ok-resize-clause-same : goal.returns-in_ok-resize-clause-same
returns-in_ok-resize-clause-same c =
    let s = c.args.self.now in
    let wanted = c.min-wanted.ensures in
    let size : vec_len s.nexts ≡ length s.nexts.items = s.nexts.ok.0 in
    let size' : vec_len c.resize.new.self ≡ length c.resize.new.self.items = c.resize.new.self.ok.0 in
    let bounds = grown (is_ok c.resize.result) (vec_len s.nexts) c.min-wanted.result (vec_len c.resize.new.self) c.resize.ensures.len (omega arith) (omega arith) in
    let longer : vec_len s.nexts ≤ vec_len c.resize.new.self = bounds.0 in
    same_added s _ _ _ refl refl (λ n h. ap link_of (c.resize.ensures.by_index.0 n 0 (omega arith) (omega arith))) (omega arith)
