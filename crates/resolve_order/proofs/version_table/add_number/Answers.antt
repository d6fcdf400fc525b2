use Rattle.std.proofs.Common.{◌≡◌, ℕ, Some, subst, rules}
use Rattle.std.specs.BTreeMap.{get}
use Rattle.std.specs.Prelude.{nat_eq}
use Rattle.std.specs.Ordering.{nat_cmp}
use Rattle.std.specs.Map.{update}
use Rattle.resolvo_catalogue_core.proofs.Sorted.{updates_number}
use Rattle.resolve_order.proofs.NumberLemmas.{put_number, number_updated, number_new}
use Rattle.resolve_order.proofs.version_table.add_number.Goals as goal

pub returns-in-Some : goal.returns-in-Some
returns-in-Some c =
    let w = c.insert.new.self in
    let kept = c.args.packages.now in
    let p = c.args.place.0 in
    let number = c.args.place.1 in
    let updates = (c.get_mut.follows.holds w).3 (search rules) in
    put_number kept (c.get_mut.follows.lender w) p number (Some c.args.version) w
    (updates_number p kept (c.get_mut.follows.lender w) (Some w) updates.0)
    (number_updated c.in-Some.numbers.now w (get nat_cmp kept p) number (Some c.args.version) c.in-Some.ensures.value (updates_number number c.in-Some.numbers.now w _ c.in_ok-insert.ensures.updates.0))

pub returns : goal.returns
returns c =
    let kept = c.args.packages.now in
    let p = c.args.place.0 in
    let number = c.args.place.1 in
    let w = c.insert-2.new.self in
    let after = c.insert-3.new.self in
    let updated = updates_number p c.get_mut.follows.lender-at-none after (Some w) c.in_ok-insert-3.ensures.updates.0 in
    put_number kept after p number (Some c.args.version) w
    (subst (λ m. (q : ℕ) → get nat_cmp after q ≡ update nat_eq (get nat_cmp m) p (Some w) q) c.get_mut.follows.holds-at-none updated)
    (number_new c.new-numbers.result w (get nat_cmp kept p) number (Some c.args.version) c.in_default.ensures.value c.new-numbers.ensures.empty (updates_number number c.new-numbers.result w _ c.in_ok-insert-2.ensures.updates.0))
