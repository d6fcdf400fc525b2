use Rattle.std.proofs.Common.{◌≡◌, ◌∙◌, ◌+◌, ◌≤◌, ◌<◌, ◌∷◌, ◌++◌, [], ℕ, List, length, ap, arith}
use Rattle.resolvo_pool_core.proofs.FlatLemmas.{list_pushed, ends_pushed}
use Rattle.resolvo_pool_core.proofs.flat_lists.FlatLists.push.Goals as goal

pub invariant_of-self-2 : goal.invariant_of-self-2
invariant_of-self-2 g c =
    let inside = c.self.inside in
    let p : ℕ = c.len-begin.result + length c.args.list.now in
    let to : p ≡ length inside.items.items + length c.args.list.now = omega (arith, inside.items.ok, c.len-begin.ensures) in
    let room : p ≤ 4294967295 = omega (arith, inside.items.ok, c.len-begin.ensures, c.self.invariant.few) in
    let put : c.push_reserved.new.self.items ≡ inside.ends.items ++ p ∷ [] = c.push_reserved.ensures.items ∙ ap (λ (xs : List ℕ). xs ++ p ∷ []) c.in_ok-reserve.ensures.items in
    let next : length inside.ends.items < 4294967295 = omega (arith, inside.ends.ok, c.len.ensures) in
    ends_pushed inside.items.items c.args.list.now c.extend_from_slice.new.self.items inside.ends.items c.push_reserved.new.self.items p c.self.invariant c.in_ok-extend_from_slice.ensures.items put to room next

pub returns-clause-put : goal.returns-clause-put
returns-clause-put g c =
    let inside = c.self.inside in
    let p : ℕ = c.len-begin.result + length c.args.list.now in
    let to : p ≡ length inside.items.items + length c.args.list.now = omega (arith, inside.items.ok, c.len-begin.ensures) in
    let put : c.push_reserved.new.self.items ≡ inside.ends.items ++ p ∷ [] = c.push_reserved.ensures.items ∙ ap (λ (xs : List ℕ). xs ++ p ∷ []) c.in_ok-reserve.ensures.items in
    list_pushed inside.items.items c.args.list.now c.extend_from_slice.new.self.items inside.ends.items c.push_reserved.new.self.items p c.self.invariant c.in_ok-extend_from_slice.ensures.items put to
    ∙ ap (λ (ls : List (List _)). ls ++ c.args.list.now ∷ []) c.self.view_is
