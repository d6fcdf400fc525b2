use Rattle.std.proofs.Common.{◌++◌, ◌+◌, drop, ap, sym, ◌∙◌}
use Rattle.resolvo_proof.specs.LinkRules.{each_limit_once, once_after}
use Rattle.resolvo_proof.proofs.LinkLemmas.{once_new, once_again}
use Rattle.resolvo_proof.proofs.link_rules.each_limit_once.Goals as goal
use Rattle.resolvo_proof.proofs.link_rules.each_limit_once.Goals.{then-branch+in_ok-push, else-branch}

pub loop-link-init : goal.loop-link-init
unfolding each_limit_once
loop-link-init g c =
    ap (λ xs. xs ++ once_after g.S.PartialEq.eq c.new-limits.result.keys c.args.links.now) c.new-kept.ensures.items
    ∙ ap (λ ks. once_after g.S.PartialEq.eq ks c.args.links.now) c.new-limits.ensures.empty

pub loop-link-preserved : goal.loop-link-preserved
loop-link-preserved g c =
    elim c.if-branch.branch [
      | then-branch+in_ok-push w ↦
          once_new g.S.PartialEq.eq c.loop-link.limits.keys c.is_new.new.limits.keys c.args.links.now c.loop-link.kept.items c.if-branch.kept.items c.loop-link.link-index c.link-item.result c.loop-link-test.true c.link-item.is
          (sym c.in_ok-is_new.ensures.new ∙ w.if-branch.true) c.in_ok-is_new.ensures.recorded (ap (λ v. v.items) w.kept-is ∙ w.in_ok-push.ensures.items) ∙ c.loop-link.invariant
      | else-branch w ↦
          ap (λ v. v.items ++ once_after g.S.PartialEq.eq c.is_new.new.limits.keys (drop (c.loop-link.link-index + 1) c.args.links.now)) w.kept-is
          ∙ once_again g.S.PartialEq.eq c.loop-link.limits.keys c.is_new.new.limits.keys c.args.links.now c.loop-link.kept.items c.loop-link.link-index c.link-item.result c.loop-link-test.true c.link-item.is
          (sym c.in_ok-is_new.ensures.new ∙ w.if-branch.false) c.in_ok-is_new.ensures.recorded ∙ c.loop-link.invariant
    ]
