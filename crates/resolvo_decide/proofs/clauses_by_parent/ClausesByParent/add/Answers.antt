use Rattle.std.proofs.Common.{◌≡◌, ℕ, ◌+◌, length, sym, subst, arith}
use Rattle.resolvo_decide.specs.Links.{IsLinked}
use Rattle.resolvo_decide.proofs.LinkLemmas.{added_here, added_kept}
use Rattle.resolvo_decide.proofs.clauses_by_parent.ClausesByParent.add.Goals as goal

pub returns-clause-added : goal.returns-clause-added
returns-clause-added c =
    let ls = c.args.self.now.links.items in
    let number : c.in_ok-link.link ≡ length ls + 1 = omega (arith, c.in_ok-link.ensures.same, c.len.ensures) in
    added_here ls c.push.new.self.items c.make_place.new.last.items c.args.parent.0 c.in_ok-link.link _ c.in_ok-make_place.ensures.long c.in_ok-push.ensures.items number c.args.position c.in_ok-position.ensures.same

pub returns-clause-kept : goal.returns-clause-kept
returns-clause-kept c =
    let ls = c.args.self.now.links.items in
    let last = c.make_place.new.last.items in
    let number : c.in_ok-link.link ≡ length ls + 1 = omega (arith, c.in_ok-link.ensures.same, c.len.ensures) in
    λ v i h. added_kept ls c.push.new.self.items last c.args.parent.0 c.in_ok-link.link _ c.in_ok-make_place.ensures.long c.in_ok-push.ensures.items number c.index-previous.ensures v i
    (subst (λ (n : ℕ). IsLinked ls n i) (sym (c.make_place.ensures.same v)) h)
