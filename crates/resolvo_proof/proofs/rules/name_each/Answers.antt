use Rattle.std.proofs.Common.{◌≡◌, take, ◌+◌, get_or, ap, sym, ◌∙◌}
use Rattle.std.specs.Prelude.{option_and_then}
use Rattle.indexmap.specs.IndexSet.{insert_key}
use Rattle.resolvo_proof.specs.Order.{requirements_in, rules_at, named_by}
use Rattle.resolvo_proof.proofs.RuleLemmas.{rule_of, rules_more, names_more, with_named}
use Rattle.resolvo_proof.proofs.TestLemmas.{requirement_test}
use Rattle.resolvo_proof.proofs.rules.name_each.Goals as goal
use Rattle.resolvo_proof.proofs.rules.name_each.Goals.{in-Some+in_ok-insert_full, in_default}

pub loop-place-preserved : goal.loop-place-preserved
loop-place-preserved g c =
    let places = c.args.places.now in
    let k = c.loop-place.place-index in
    let rest : with_named (option_and_then named_by (rule_of c.args.steps.now (get_or places k 0))) (requirements_in (rules_at c.args.steps.now (take k places))) ≡ requirements_in (rules_at c.args.steps.now (take (k + 1) places)) =
    sym (ap requirements_in (rules_more c.args.steps.now places k c.loop-place-test.true) ∙ names_more (rules_at c.args.steps.now (take k places)) (rule_of c.args.steps.now (get_or places k 0))) in
    let before : with_named (option_and_then named_by (rule_of c.args.steps.now (get_or places k 0))) c.loop-place.named.keys ≡ with_named (option_and_then named_by (rule_of c.args.steps.now (get_or places k 0))) (requirements_in (rules_at c.args.steps.now (take k places))) =
    ap (with_named (option_and_then named_by (rule_of c.args.steps.now (get_or places k 0)))) c.loop-place.invariant in
    elim c.match-requirement_at.branch [
      | in-Some+in_ok-insert_full w ↦
          ap (λ s. s.keys) w.named-is ∙ w.in_ok-insert_full.ensures.keys ∙ ap (λ eq. insert_key eq c.loop-place.named.keys w.in-Some.requirement) requirement_test
          ∙ ap (λ o. with_named o c.loop-place.named.keys) (sym w.in-Some.is ∙ c.requirement_at.ensures) ∙ before ∙ rest
      | in_default w ↦
          ap (λ s. s.keys) w.named-is ∙ ap (λ o. with_named o c.loop-place.named.keys) (sym w.in_default.is ∙ c.requirement_at.ensures) ∙ before ∙ rest
    ]
