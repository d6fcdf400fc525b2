use Rattle.std.proofs.Common.{◌≡◌, ℕ, ◌+◌, ◌++◌, ◌∷◌, [], List, Option, take, refl, sym, ◌∙◌, ap, subst}
use Rattle.std.proofs.lemmas.List.{take_more, take_all}
use Rattle.resolvo_sat.specs.declared.analyze.FinalConflict.{FinalConflict}
use Rattle.resolvo_pool_core.specs.RuleKeeping.{Rules}
use Rattle.resolvo_sat.specs.RuleClauses.{IsExact}
use Rattle.resolvo_state.proofs.Positions.{prefix_same, prefix_then}
use Rattle.resolvo_turn.specs.Encoder.{IsInOrder}
use Rattle.resolvo.specs.Turns.{AreRight, HaveReasons, IsNextRight, AreAtOrRefused}
use Rattle.resolvo_turn.specs.TurnRules.{IsRootOf}
use Rattle.resolvo.specs.SoftTurns.{IsCandidate, IsJustified}
use Rattle.resolvo.proofs.ListLemmas.{item_contained}
use Rattle.resolvo.proofs.Next.{at_parents, outcome_prefix, outcome_right, outcome_at}
use Rattle.resolvo.proofs.soft_requirements.run_soft_requirements.Goals as goal

pub loop-soft-init : goal.loop-soft-init
loop-soft-init g c = record { same = refl; right = λ root first is candidates e right reasons. (e, right, reasons); prefix = prefix_same c.args.turns.now.chosen.keys; at = c.requires.at; rooted = c.requires.rooted; built = c.requires.built }

pub run_soft_requirement-requires-clause-built : goal.run_soft_requirement-requires-clause-built
run_soft_requirement-requires-clause-built g c = c.loop-soft.invariant.built

pub run_soft_requirement-requires-clause-rooted : goal.run_soft_requirement-requires-clause-rooted
run_soft_requirement-requires-clause-rooted g c = c.loop-soft.invariant.rooted

pub run_soft_requirement-requires-clause-taken : goal.run_soft_requirement-requires-clause-taken
run_soft_requirement-requires-clause-taken g c = at_parents c.loop-soft.encoding c.loop-soft.turns c.loop-soft.invariant.at

pub record_outcome-requires : goal.record_outcome-requires
record_outcome-requires g c = c.in_ok-status.ensures.built

pub loop-soft-preserved : goal.loop-soft-preserved
loop-soft-preserved g c =
    let same = g.A.SolvableId.PartialEq.eq in
    let exact : IsExact same = record { one = g.met.A.SolvableId.Exact.exact; own = g.met.A.SolvableId.Eq.laws.refl } in
    let xs = c.args.softs.now in
    let i = c.loop-soft.soft-index in
    let item = c.soft-item.result in
    let before = c.loop-soft.invariant in
    let old = c.loop-soft.encoding in
    let new = c.run_soft_requirement.new.encoding in
    let status = c.in_ok-status.ensures in
    let names : IsExact g.A.NameId.PartialEq.eq = record { one = g.met.A.NameId.Exact.exact; own = g.met.A.NameId.Eq.laws.refl } in
    let p = g.A.PackageSource.packages c.args.answers.now in
    let orders = g.A.PackageSource.orders c.args.answers.now in
    let stays = subst (λ (a : g.row.A.Denot). (root : Rules) → IsRootOf c.args.input.now root → IsCandidate same (g.A.PackageSource.packages a) item → IsInOrder same (g.A.PackageSource.packages a) (g.A.PackageSource.orders a) root old
    → IsInOrder same (g.A.PackageSource.packages a) (g.A.PackageSource.orders a) root new × IsJustified same (g.A.PackageSource.packages a) root old new item c.in_ok-status.status) before.same status.stays in
    let more : take (i + 1) xs ≡ take i xs ++ item ∷ [] = take_more xs i item c.loop-soft-test.true ∙ ap (λ x. take i xs ++ x ∷ []) (sym c.soft-item.is) in
    record {
      same = status.same ∙ before.same;
      right = λ root first is candidates e started reasons. (
          let (order, are_right, why) = before.right root first is candidates e started reasons in
          let (order', outcome) = stays root is (candidates item (item_contained xs i item c.loop-soft-test.true c.soft-item.is)) order in
          let next = outcome_right same old new c.loop-soft.turns c.record_outcome.new.turns item before.built.coding before.at status.keeps exact p root first (take i xs) are_right g.A.NameId.PartialEq.eq names (g.met.A.PackageSource.lawful c.args.answers.now) orders order' status.built.coding why c.in_ok-status.status c.in_ok-conflict.conflict status.outcome outcome c.in_ok-conflict.ensures in
          let (are_right', why') = subst (λ (o : Option FinalConflict). IsNextRight same p root first (take i xs ++ item ∷ []) new c.record_outcome.new.turns o) c.in_default.is next in
          (order', subst (λ (ys : List g.row.A-SolvableId.Denot). AreRight same p root first ys c.record_outcome.new.turns) (sym more) are_right', why'));
      prefix = prefix_then c.args.turns.now.chosen.keys c.loop-soft.turns.chosen.keys c.record_outcome.new.turns.chosen.keys before.prefix (outcome_prefix same old new c.loop-soft.turns c.record_outcome.new.turns item before.built.coding before.at status.keeps c.in_ok-status.status c.in_ok-conflict.conflict c.in_ok-conflict.ensures);
      at = subst (λ (o : Option FinalConflict). AreAtOrRefused new c.record_outcome.new.turns o) c.in_default.is (outcome_at same old new c.loop-soft.turns c.record_outcome.new.turns item before.built.coding before.at status.keeps exact status.built.coding c.in_ok-status.status c.in_ok-conflict.conflict status.outcome c.in_ok-conflict.ensures);
      rooted = status.keeps.rooted before.rooted;
      built = status.built;
    }

pub returns-in-Some-clause-right : goal.returns-in-Some-clause-right
returns-in-Some-clause-right g c = λ root first is candidates e started reasons.
    let same = g.A.SolvableId.PartialEq.eq in
    let exact : IsExact same = record { one = g.met.A.SolvableId.Exact.exact; own = g.met.A.SolvableId.Eq.laws.refl } in
    let xs = c.args.softs.now in
    let i = c.loop-soft.soft-index in
    let item = c.soft-item.result in
    let before = c.loop-soft.invariant in
    let old = c.loop-soft.encoding in
    let new = c.run_soft_requirement.new.encoding in
    let status = c.in_ok-status.ensures in
    let names : IsExact g.A.NameId.PartialEq.eq = record { one = g.met.A.NameId.Exact.exact; own = g.met.A.NameId.Eq.laws.refl } in
    let p = g.A.PackageSource.packages c.args.answers.now in
    let orders = g.A.PackageSource.orders c.args.answers.now in
    let stays = subst (λ (a : g.row.A.Denot). (root : Rules) → IsRootOf c.args.input.now root → IsCandidate same (g.A.PackageSource.packages a) item → IsInOrder same (g.A.PackageSource.packages a) (g.A.PackageSource.orders a) root old
    → IsInOrder same (g.A.PackageSource.packages a) (g.A.PackageSource.orders a) root new × IsJustified same (g.A.PackageSource.packages a) root old new item c.in_ok-status.status) before.same status.stays in
    let (order, are_right, why) = before.right root first is candidates e started reasons in
    let (order', outcome) = stays root is (candidates item (item_contained xs i item c.loop-soft-test.true c.soft-item.is)) order in
    let next = outcome_right same old new c.loop-soft.turns c.record_outcome.new.turns item before.built.coding before.at status.keeps exact p root first (take i xs) are_right g.A.NameId.PartialEq.eq names (g.met.A.PackageSource.lawful c.args.answers.now) orders order' status.built.coding why c.in_ok-status.status c.in_ok-conflict.conflict status.outcome outcome c.in_ok-conflict.ensures in
    (order', subst (λ (o : Option FinalConflict). IsNextRight same p root first (take i xs ++ item ∷ []) new c.record_outcome.new.turns o) c.in-Some.is next)

pub returns-in-Some-clause-at_or_refused : goal.returns-in-Some-clause-at_or_refused
returns-in-Some-clause-at_or_refused g c =
    let same = g.A.SolvableId.PartialEq.eq in
    let exact : IsExact same = record { one = g.met.A.SolvableId.Exact.exact; own = g.met.A.SolvableId.Eq.laws.refl } in
    let xs = c.args.softs.now in
    let i = c.loop-soft.soft-index in
    let item = c.soft-item.result in
    let before = c.loop-soft.invariant in
    let old = c.loop-soft.encoding in
    let new = c.run_soft_requirement.new.encoding in
    let status = c.in_ok-status.ensures in
    subst (λ (o : Option FinalConflict). AreAtOrRefused new c.record_outcome.new.turns o) c.in-Some.is (outcome_at same old new c.loop-soft.turns c.record_outcome.new.turns item before.built.coding before.at status.keeps exact status.built.coding c.in_ok-status.status c.in_ok-conflict.conflict status.outcome c.in_ok-conflict.ensures)

pub returns-clause-right : goal.returns-clause-right
returns-clause-right g c = λ root first is candidates e right reasons.
    let (order, are_right, why) = c.loop-soft.invariant.right root first is candidates e right reasons in
    (order, (subst (λ (ys : List g.row.A-SolvableId.Denot). AreRight g.A.SolvableId.PartialEq.eq (g.A.PackageSource.packages c.args.answers.now) root first ys c.loop-soft.turns) (take_all c.loop-soft.soft-index c.args.softs.now c.loop-soft-test.false) are_right, why))

pub returns-in-Some-clause-prefix : goal.returns-in-Some-clause-prefix
returns-in-Some-clause-prefix g c =
    let same = g.A.SolvableId.PartialEq.eq in
    let item = c.soft-item.result in
    let before = c.loop-soft.invariant in
    let old = c.loop-soft.encoding in
    let new = c.run_soft_requirement.new.encoding in
    let status = c.in_ok-status.ensures in
    prefix_then c.args.turns.now.chosen.keys c.loop-soft.turns.chosen.keys c.record_outcome.new.turns.chosen.keys before.prefix (outcome_prefix same old new c.loop-soft.turns c.record_outcome.new.turns item before.built.coding before.at status.keeps c.in_ok-status.status c.in_ok-conflict.conflict c.in_ok-conflict.ensures)
