use Rattle.std.proofs.Common.{◌≡◌, Option, None, ◌∙◌, subst}
use Rattle.resolvo_pool_core.specs.RuleKeeping.{Rules}
use Rattle.resolvo_sat.specs.RuleClauses.{IsExact}
use Rattle.resolvo_sat.specs.declared.analyze.FinalConflict.{FinalConflict}
use Rattle.resolvo_encoder.proofs.BuildLemmas.{built_begun}
use Rattle.resolvo_turn.specs.Turn.{IsTurn}
use Rattle.resolvo_turn.specs.Encoder.{IsInOrder}
use Rattle.resolvo_turn.specs.TurnRules.{IsRootOf}
use Rattle.resolvo.specs.SoftTurns.{AreCandidates}
use Rattle.resolvo.specs.Solve.{IsFound, IsPreferred}
use Rattle.resolvo.proofs.Found.{begun_rooted, root_denial, root_refused}
use Rattle.resolvo_turn.proofs.TakenLemmas.{first_taken}
use Rattle.resolvo.proofs.search.run_turns.Goals as goal

pub run_turn-requires-clause-built : goal.run_turn-requires-clause-built
run_turn-requires-clause-built g c = built_begun c.args.encoding.now c.requires

pub run_turn-requires-clause-rooted : goal.run_turn-requires-clause-rooted
run_turn-requires-clause-rooted g c = begun_rooted c.args.encoding.now c.requires

pub run_turn-requires-clause-taken : goal.run_turn-requires-clause-taken
run_turn-requires-clause-taken g c = first_taken c.args.encoding.now c.requires.coding.coding c.requires.coding.base_level

pub run_others-requires-clause-turn : goal.run_others-requires-clause-turn
run_others-requires-clause-turn g c = c.in_ok-turn.ensures.adds.grows.base_level ∙ c.requires.coding.base_level

pub returns-in-Some-clause-found : goal.returns-in-Some-clause-found
returns-in-Some-clause-found g c = λ root is candidates e.
    let same = g.A.SolvableId.PartialEq.eq in
    let exact : IsExact same = record { one = g.met.A.SolvableId.Exact.exact; own = g.met.A.SolvableId.Eq.laws.refl } in
    let names : IsExact g.A.NameId.PartialEq.eq = record { one = g.met.A.NameId.Exact.exact; own = g.met.A.NameId.Eq.laws.refl } in
    let holds = c.in_ok-turn.ensures.stays root is e in
    let first : c.run_turn.new.encoding.coding.search.base_level ≡ 1 = c.in_ok-turn.ensures.adds.grows.base_level ∙ c.requires.coding.base_level in
    let refusal = subst (λ (t : Option FinalConflict). IsTurn same None c.run_turn.new.encoding t) c.in-Some.is c.in_ok-turn.ensures.ended in
    (holds, (root_refused g.A.NameId.PartialEq.eq names same exact (g.A.PackageSource.packages c.args.answers.now) (g.A.PackageSource.orders c.args.answers.now) root (g.met.A.PackageSource.lawful c.args.answers.now) c.run_turn.new.encoding holds first c.in-Some.refusal refusal, refusal), tt)

pub returns-in-Some-clause-denial : goal.returns-in-Some-clause-denial
returns-in-Some-clause-denial g c =
    root_denial c.run_turn.new.encoding c.in_ok-turn.ensures.built.coding (c.in_ok-turn.ensures.adds.grows.base_level ∙ c.requires.coding.base_level) c.in-Some.refusal (subst (λ (t : Option FinalConflict). IsTurn g.A.SolvableId.PartialEq.eq None c.run_turn.new.encoding t) c.in-Some.is c.in_ok-turn.ensures.ended)

pub returns-clause-found : goal.returns-clause-found
returns-clause-found g c = λ root is candidates e.
    (subst (λ (a : g.row.A.Denot). (root : Rules) → IsRootOf c.args.input.now root → AreCandidates g.A.SolvableId.PartialEq.eq (g.A.PackageSource.packages a) c.args.softs.now
    → IsInOrder g.A.SolvableId.PartialEq.eq (g.A.PackageSource.packages a) (g.A.PackageSource.orders a) root c.run_turn.new.encoding → IsInOrder g.A.SolvableId.PartialEq.eq (g.A.PackageSource.packages a) (g.A.PackageSource.orders a) root c.run_others.new.encoding
    × IsFound g.A.SolvableId.PartialEq.eq (g.A.PackageSource.packages a) root c.args.softs.now c.run_others.new.encoding c.in_ok-found.found × IsPreferred g.A.SolvableId.PartialEq.eq (g.A.PackageSource.packages a) (g.A.PackageSource.orders a) root c.in_ok-found.found)
    c.in_ok-turn.ensures.same c.in_ok-found.ensures.found) root is candidates (c.in_ok-turn.ensures.stays root is e)
