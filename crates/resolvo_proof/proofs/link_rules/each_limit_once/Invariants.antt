use Rattle.std.proofs.Common.{◌≡◌, ◌++◌, drop}
use Rattle.resolvo_proof.specs.LinkRules.{each_limit_once, once_after}
use Rattle.resolvo_proof.proofs.link_rules.each_limit_once.Given as goal

abbrev pub invariant-loop-link : goal.invariant-loop-link
invariant-loop-link g l = l.kept.items ++ once_after g.S.PartialEq.eq l.limits.keys (drop l.link-index l.links) ≡ each_limit_once g.S.PartialEq.eq l.links
