use Rattle.std.proofs.Common.{◌≡◌, ◌∙◌, ◌∷◌, ◌++◌, [], List, ℕ, Option, Some, map, nat_eq, ap, subst, rules}
use Rattle.std.specs.Global.{Vec}
use Rattle.std.specs.BTreeMap.{get}
use Rattle.std.specs.Ordering.{nat_cmp}
use Rattle.std.specs.Map.{update}
use Rattle.std.proofs.lemmas.List.{map_push}
use Rattle.resolvo_judge.specs.declared.forbidden_wishes.Forbidden.{Forbidden}
use Rattle.resolvo_judge.specs.ForbiddenWishes.{forbidden_of, wishes_kept}
use Rattle.resolvo_catalogue_core.proofs.Sorted.{updates_number}
use Rattle.resolvo_judge.proofs.ForbidLemmas.{puts_wish}
use Rattle.resolvo_judge.proofs.forbidden_wishes.add_wish.Goals as goal

pub returns-in-Some : goal.returns-in-Some
returns-in-Some c =
    let w = c.push.new.self in
    let kept = c.args.by_step.now in
    let updates = (c.get_mut.follows.holds w).3 (search rules) in
    puts_wish (get nat_cmp kept) (get nat_cmp (c.get_mut.follows.lender w)) (forbidden_of c.args.forbidden) w (updates_number c.args.forbidden.step kept (c.get_mut.follows.lender w) _ updates.0)
    (ap (λ (bs : List Forbidden). map forbidden_of bs) c.in_ok-push.ensures.items ∙ map_push forbidden_of c.in-Some.kept.now.items c.args.forbidden
    ∙ ap (λ (o : Option (Vec Forbidden)). wishes_kept o ++ forbidden_of c.args.forbidden ∷ []) c.in-Some.ensures.value)

pub returns : goal.returns
returns c =
    let kept = c.args.by_step.now in
    let w = c.push-2.new.self in
    let b = forbidden_of c.args.forbidden in
    let updated = updates_number c.args.forbidden.step c.get_mut.follows.lender-at-none c.insert.new.self _ c.in_ok-insert.ensures.updates.0 in
    puts_wish (get nat_cmp kept) (get nat_cmp c.insert.new.self) b w
    (subst (λ m. (q : ℕ) → get nat_cmp c.insert.new.self q ≡ update nat_eq (get nat_cmp m) c.args.forbidden.step (Some w) q) c.get_mut.follows.holds-at-none updated)
    (ap (λ (bs : List Forbidden). map forbidden_of bs) (c.in_ok-push-2.ensures.items ∙ ap (λ (bs : List Forbidden). bs ++ c.args.forbidden ∷ []) c.new-kept.ensures.items)
    ∙ ap (λ (o : Option (Vec Forbidden)). wishes_kept o ++ b ∷ []) c.in_default.ensures.value)
