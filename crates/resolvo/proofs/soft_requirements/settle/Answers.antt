use Rattle.std.proofs.Common.{◌≡◌, true, false, refl, sym, ◌∙◌, subst}
use Rattle.resolvo_store_core.specs.Signed.{Signed, has}
use Rattle.resolvo_sat.specs.Entries.{made_true}
use Rattle.resolvo_sat.specs.State.{history}
use Rattle.resolvo.proofs.Outcomes.{chosen_settles, found_open, unfound_open}
use Rattle.resolvo.proofs.soft_requirements.settle.Goals as goal

pub returns-in_default-clause-settled : goal.returns-in_default-clause-settled
returns-in_default-clause-settled g c = (refl, unfound_open c.args.encoding.now c.args.soft c.in_default.ensures.found)

pub record_chosen-requires-clause-chosen : goal.record_chosen-requires-clause-chosen
record_chosen-requires-clause-chosen g c = (
  c.in-Some.variable,
  c.in-Some.ensures.found,
  subst (λ (l : Signed). has (made_true (history c.args.encoding.now.coding.search)) l ≡ true) c.new.ensures (sym c.is_true.ensures ∙ c.if-is_true.true),
)

pub returns-then-is_true-clause-settled : goal.returns-then-is_true-clause-settled
returns-then-is_true-clause-settled g c = chosen_settles g.S.PartialEq.eq c.args.encoding.now c.record_chosen.new.self c.args.soft (c.in-Some.variable, c.in-Some.ensures.found, subst (λ (l : Signed). has (made_true (history c.args.encoding.now.coding.search)) l ≡ true) c.new.ensures (sym c.is_true.ensures ∙ c.if-is_true.true)) c.in_ok-record_chosen.ensures.recorded

pub returns-then-not-is_true-clause-settled : goal.returns-then-not-is_true-clause-settled
returns-then-not-is_true-clause-settled g c = (
  refl,
  found_open c.args.encoding.now c.args.soft c.in-Some.variable c.requires.coding c.in-Some.ensures.found (record {
    not_true = subst (λ (l : Signed). has (made_true (history c.args.encoding.now.coding.search)) l ≡ false) c.new.ensures (sym c.is_true.ensures ∙ c.if-is_true.false);
    not_false = subst (λ (l : Signed). has (made_true (history c.args.encoding.now.coding.search)) l ≡ false) c.new-2.ensures (sym c.is_true-2.ensures ∙ c.if-not-is_true.true);
  }),
)

pub refuse_denied-requires-clause-denied : goal.refuse_denied-requires-clause-denied
refuse_denied-requires-clause-denied g c = subst (λ (l : Signed). has (made_true (history c.args.encoding.now.coding.search)) l ≡ true) c.new-2.ensures (sym c.is_true-2.ensures ∙ c.if-not-is_true.false)
