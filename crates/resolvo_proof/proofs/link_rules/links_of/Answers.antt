use Rattle.std.proofs.Common.{◌≡◌, ◌+◌, ◌++◌, ◌∷◌, [], Some, None, get_or, take, drop, ap, sym, ◌∙◌}
use Rattle.std.specs.HashMap.{get}
use Rattle.std.specs.Map.{lookup}
use Rattle.std.specs.Option.{option_copied, option_or, option_to_list}
use Rattle.std.proofs.lemmas.List.{append-nil, drop_all}
use Rattle.resolvo_proof.specs.Offered.{offered_by}
use Rattle.resolvo_proof.specs.Order.{rules_at}
use Rattle.resolvo_proof.specs.LinkRules.{all_links, links_after, last_instance, named, instance_in}
use Rattle.resolvo_proof.specs.Shares.{parents_in, limiters_in, outsiders_in}
use Rattle.resolvo_proof.proofs.RuleLemmas.{rule_of, rules_more}
use Rattle.resolvo_proof.proofs.LinkLemmas.{links_more, rules_left_some, rules_left_none, rules_same, last_push}
use Rattle.resolvo_proof.proofs.link_rules.links_of.Goals as goal
use Rattle.resolvo_proof.proofs.link_rules.links_of.Goals.{in-Some+in_ok-before+in_ok-link, in_default}

pub loop-place-init : goal.loop-place-init
unfolding all_links
loop-place-init g c = record {
  links = ap (λ xs. xs ++ links_after g.I.NameId.PartialEq.eq (g.I.Interner.name_of_solvable c.args.interner.now) (offered_by c.args.offers.now) (rules_at c.args.steps.now c.args.order.now) [] (rules_at c.args.steps.now c.args.order.now)) c.new-links.ensures.items;
  recorded = λ n. ap (lookup (g.I.NameId.PartialEq.eq n)) c.new-instances.ensures.empty;
}

pub loop-place-preserved : goal.loop-place-preserved
loop-place-preserved g c =
    let eq = g.I.NameId.PartialEq.eq in
    let name = g.I.Interner.name_of_solvable c.args.interner.now in
    let offered = offered_by c.args.offers.now in
    let steps = c.args.steps.now in
    let places = c.args.order.now in
    let k = c.loop-place.place-index in
    let rules = rules_at steps places in
    let rest = rules_at steps (drop (k + 1) places) in
    elim c.match-rule_at.branch [
      | in-Some+in_ok-before+in_ok-link w ↦
          let r = w.in-Some.rule.now in
          let at : rule_of steps (get_or places k 0) ≡ Some r = sym c.rule_at.ensures ∙ ap option_copied w.in-Some.is in
          let more : rules_at steps (take (k + 1) places) ≡ rules_at steps (take k places) ++ r ∷ [] = rules_more steps places k c.loop-place-test.true ∙ ap (λ o. rules_at steps (take k places) ++ option_to_list o) at in
          record {
            links =
                ap (λ rs. c.match-rule_at.links.items ++ links_after eq name offered rules rs rest) more
                ∙ links_more eq name offered rules (rules_at steps (take k places)) rest r c.loop-place.links.items c.match-rule_at.links.items (parents_in c.in_ok-shares.shares) (limiters_in c.in_ok-shares.shares) (outsiders_in c.in_ok-shares.shares) w.in_ok-before.before (get eq c.loop-place.instances)
                c.in_ok-shares.ensures.gates c.in_ok-shares.ensures.limits c.in_ok-shares.ensures.outsides w.in_ok-before.ensures.before c.loop-place.invariant.recorded (ap (λ v. v.items) w.links-is ∙ w.in_ok-link.ensures.links)
                ∙ ap (λ rs. c.loop-place.links.items ++ links_after eq name offered rules (rules_at steps (take k places)) rs) (sym (rules_left_some steps places k r c.loop-place-test.true at))
                ∙ c.loop-place.invariant.links;
            recorded = λ n.
                ap (λ m. get eq m n) w.instances-is ∙ w.in_ok-before.ensures.recorded n ∙ ap (option_or (named eq name n (instance_in r))) (c.loop-place.invariant.recorded n)
                ∙ sym (ap (λ rs. last_instance eq name rs n) more ∙ last_push eq name (rules_at steps (take k places)) r n);
          }
      | in_default w ↦
          let at : rule_of steps (get_or places k 0) ≡ None = sym c.rule_at.ensures ∙ ap option_copied w.in_default.is in
          let same : rules_at steps (take k places) ≡ rules_at steps (take (k + 1) places) = rules_same steps places k c.loop-place-test.true at in
          record {
            links =
                ap (λ v. v.items ++ links_after eq name offered rules (rules_at steps (take (k + 1) places)) rest) w.links-is
                ∙ ap (λ rs. c.loop-place.links.items ++ links_after eq name offered rules rs rest) (sym same)
                ∙ ap (λ rs. c.loop-place.links.items ++ links_after eq name offered rules (rules_at steps (take k places)) rs) (sym (rules_left_none steps places k c.loop-place-test.true at))
                ∙ c.loop-place.invariant.links;
            recorded = λ n. ap (λ m. get eq m n) w.instances-is ∙ c.loop-place.invariant.recorded n ∙ ap (λ rs. last_instance eq name rs n) same;
          }
    ]

pub returns-clause-links : goal.returns-clause-links
returns-clause-links g c =
    let places = c.args.order.now in
    let none : rules_at c.args.steps.now (drop c.loop-place.place-index places) ≡ [] = ap (rules_at c.args.steps.now) (drop_all c.loop-place.place-index places c.loop-place-test.false) in
    sym (append-nil c.loop-place.links.items)
    ∙ ap (λ rs. c.loop-place.links.items ++ links_after g.I.NameId.PartialEq.eq (g.I.Interner.name_of_solvable c.args.interner.now) (offered_by c.args.offers.now) (rules_at c.args.steps.now places) (rules_at c.args.steps.now (take c.loop-place.place-index places)) rs) (sym none)
    ∙ c.loop-place.invariant.links
