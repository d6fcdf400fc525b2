use Rattle.std.proofs.Common.{◌≡◌, ◌+◌, Some, None, get_or, take, ap, sym, ◌∙◌}
use Rattle.std.specs.List.{filter_map}
use Rattle.std.specs.Option.{option_copied}
use Rattle.std.proofs.lemmas.List.{take_all}
use Rattle.resolvo_graph.specs.Tree.{same_set}
use Rattle.resolvo_sat.specs.RuleClauses.{same_requirement}
use Rattle.resolvo_proof.specs.Order.{rules_at}
use Rattle.resolvo_proof.specs.LinkRules.{gate_in, limit_in, outside_in, requirers, under_set}
use Rattle.resolvo_proof.specs.Shares.{parents_in, limiters_in, outsiders_in}
use Rattle.resolvo_proof.proofs.RuleLemmas.{rule_of}
use Rattle.resolvo_proof.proofs.LinkLemmas.{rules_same}
use Rattle.resolvo_proof.proofs.ShareLemmas.{shared_more}
use Rattle.resolvo_proof.proofs.shared_rules.shares_of.Goals as goal
use Rattle.resolvo_proof.proofs.shared_rules.shares_of.Goals.{in-Some+in_ok-share, in_default}

pub loop-place-init : goal.loop-place-init
loop-place-init g c = record {
  gates = λ q. c.new.ensures q;
  limits = λ v. c.new-2.ensures v;
  outsides = λ v. c.new-3.ensures v;
}

pub loop-place-preserved : goal.loop-place-preserved
loop-place-preserved g c =
    let steps = c.args.steps.now in
    let places = c.args.order.now in
    let k = c.loop-place.place-index in
    elim c.match-rule_at.branch [
      | in-Some+in_ok-share w ↦
          let r = w.in-Some.rule.now in
          let at : rule_of steps (get_or places k 0) ≡ Some r = sym c.rule_at.ensures ∙ ap option_copied w.in-Some.is in
          record {
            gates = λ q. shared_more gate_in (λ s. same_requirement s.0 q) (λ s. s.1) steps places k r (parents_in c.loop-place.shares q) (parents_in c.match-rule_at.shares q) c.loop-place-test.true at (c.loop-place.invariant.gates q) (ap (λ s. parents_in s q) w.shares-is ∙ w.in_ok-share.ensures.gates q);
            limits = λ v. shared_more limit_in (λ s. same_set s.0 v) (λ s. s.1) steps places k r (limiters_in c.loop-place.shares v) (limiters_in c.match-rule_at.shares v) c.loop-place-test.true at (c.loop-place.invariant.limits v) (ap (λ s. limiters_in s v) w.shares-is ∙ w.in_ok-share.ensures.limits v);
            outsides = λ v. shared_more outside_in (λ s. same_set s.0 v) (λ s. s.1) steps places k r (outsiders_in c.loop-place.shares v) (outsiders_in c.match-rule_at.shares v) c.loop-place-test.true at (c.loop-place.invariant.outsides v) (ap (λ s. outsiders_in s v) w.shares-is ∙ w.in_ok-share.ensures.outsides v);
          }
      | in_default w ↦
          let at : rule_of steps (get_or places k 0) ≡ None = sym c.rule_at.ensures ∙ ap option_copied w.in_default.is in
          let same : rules_at steps (take k places) ≡ rules_at steps (take (k + 1) places) = rules_same steps places k c.loop-place-test.true at in
          record {
            gates = λ q. ap (λ s. parents_in s q) w.shares-is ∙ c.loop-place.invariant.gates q ∙ ap (λ rs. requirers (filter_map gate_in rs) q) same;
            limits = λ v. ap (λ s. limiters_in s v) w.shares-is ∙ c.loop-place.invariant.limits v ∙ ap (λ rs. under_set (filter_map limit_in rs) v) same;
            outsides = λ v. ap (λ s. outsiders_in s v) w.shares-is ∙ c.loop-place.invariant.outsides v ∙ ap (λ rs. under_set (filter_map outside_in rs) v) same;
          }
    ]

pub returns-clause-gates : goal.returns-clause-gates
returns-clause-gates g c q = c.loop-place.invariant.gates q ∙ ap (λ ps. requirers (filter_map gate_in (rules_at c.args.steps.now ps)) q) (take_all c.loop-place.place-index c.args.order.now c.loop-place-test.false)

pub returns-clause-limits : goal.returns-clause-limits
returns-clause-limits g c v = c.loop-place.invariant.limits v ∙ ap (λ ps. under_set (filter_map limit_in (rules_at c.args.steps.now ps)) v) (take_all c.loop-place.place-index c.args.order.now c.loop-place-test.false)

pub returns-clause-outsides : goal.returns-clause-outsides
returns-clause-outsides g c v = c.loop-place.invariant.outsides v ∙ ap (λ ps. under_set (filter_map outside_in (rules_at c.args.steps.now ps)) v) (take_all c.loop-place.place-index c.args.order.now c.loop-place-test.false)
