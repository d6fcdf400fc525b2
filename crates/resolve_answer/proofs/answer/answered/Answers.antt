use Rattle.std.proofs.Common.{◌≡◌, Bool, true, ◌&&◌, List, Ok, Err, refl, ap, ◌∙◌, sym, subst}
use Rattle.std.specs.Prelude.{◌==◌}
use Rattle.std.proofs.lemmas.Bool.{and_parts, and_from, eqb-true, eq-eqb}
use Rattle.resolvo_pool_core.specs.RuleKeeping.{Rules}
use Rattle.resolvo_sat.specs.RuleClauses.{IsExact}
use Rattle.resolvo_catalogue_core.specs.Grammar.{AreRequestLines}
use Rattle.resolvo_catalogue.specs.Ids.{SolvableId}
use Rattle.resolvo_terms.specs.Terms.{NameId}
use Rattle.resolvo_catalogue.specs.Over.{IsOver, AreAsked}
use Rattle.resolvo_catalogue.specs.Provider.{Provider, packages_of}
use Rattle.resolvo_catalogue.specs.declared.dependency_provider.GivenUp.{GivenUp}
use Rattle.resolvo.specs.Solver.{IsAnswer, IfEnded, Leaves, Kept, root_of as asked_of}
use Rattle.resolvo.specs.declared.conflict.Conflict.{Conflict}
use Rattle.resolvo.specs.declared.solver.UnsolvableOrCancelled.{UnsolvableOrCancelled}
use Rattle.resolvo.specs.SoftTurns.{AreCandidates}
use Rattle.resolvo.specs.declared.solver.UnsolvableOrCancelled.TheVariants.{Unsolvable}
use Rattle.resolve_answer.specs.TryOrder.{orders_of}
use Rattle.resolve_answer.specs.Solved.{IsInstalledOver, IsRefutedOver}
use Rattle.resolve_answer.specs.Verdict.{Verdict}
use Rattle.resolve_answer.specs.Wishes.{AreWishesAt, free_of}
use Rattle.resolve_answer.proofs.StopLemmas.{if_stopped}
use Rattle.resolve_answer.proofs.Upheld.{answer_installed, answer_refuted, if_ok}
use Rattle.resolve_answer.proofs.answer.answered.Goals as goal

-- the test of solvables that the solver runs, and that it is exact
abbrev same : SolvableId → SolvableId → Bool
same x y = (x.raw == y.raw) && true

exact : IsExact same
exact = record { one = λ x y h. ap (λ k. record { raw = k; tag = record {} }) (eqb-true x.raw y.raw (and_parts (x.raw == y.raw) true h).0); own = λ x. and_from (x.raw == x.raw) true (eq-eqb x.raw x.raw refl) refl }

-- the answer for these wishes, for a root of these rules
abbrev IsAnswerUnder : Rules → List SolvableId → Verdict → Kept Provider NameId SolvableId → Provider → Type 0
IsAnswerUnder root free verdict solver p = AreCandidates same (packages_of p) free → IsAnswer same (packages_of p) root (orders_of same p) free verdict solver

abbrev IfGiven : Verdict → Type 0 → Type 0
IfGiven verdict P = IfEnded verdict P

abbrev IsLeftBy : Verdict → Kept Provider NameId SolvableId → Type 0
IsLeftBy verdict solver = Leaves verdict solver

-- a search that refuses is complete
ended : {P : Type 0} {e : UnsolvableOrCancelled GivenUp} {conflict : Conflict} → e ≡ Unsolvable conflict → IfGiven (Err e) P → P
ended {P} is h = subst (λ (x : UnsolvableOrCancelled GivenUp). IfGiven (Err x) P) is h

pub returns-in-Ok-clause-report : goal.returns-in-Ok-clause-report
returns-in-Ok-clause-report c =
    let catalogue = c.args.catalogue.now in
    let source = c.args.request.now in
    let solver = c.solve_with.new.self in
    let old = c.args.solver.now.provider in
    let wishes = c.in_ok-wishes.wishes.items in
    let (free, whole, answers, alone) = c.in-Ok.ensures.answer in
    let free_is : free ≡ free_of wishes = c.problem_of.ensures.wishes free whole ∙ (c.in_ok-free.ensures.wishes ∙ ap free_of c.as_slice.ensures.value) in
    λ asks versions over asked. c.in_ok-installed-in-Ok.ensures asks
    (subst (λ (xs : List SolvableId). IsInstalledOver catalogue source solver.provider wishes xs solver.turns solver.proof) (sym c.as_slice-in-Ok.ensures.value)
    (answer_installed catalogue source wishes c.args.asked same exact old solver asks c.in_ok-wishes.ensures.lines versions c.in_ok-wishes.ensures.wishes c.solve_with.ensures.provider over asked free free_is c.in-Ok.chosen
    (subst (λ (root : Rules). IsAnswerUnder root free (Ok c.in-Ok.chosen) solver old) c.problem_of.ensures.root answers)))

pub returns-in-Err-Unsolvable : goal.returns-in-Err-Unsolvable
returns-in-Err-Unsolvable c =
    let catalogue = c.args.catalogue.now in
    let source = c.args.request.now in
    let solver = c.solve_with.new.self in
    let old = c.args.solver.now.provider in
    let wishes = c.in_ok-wishes.wishes.items in
    let conflict = c.in-Err-Unsolvable.conflict in
    let is = c.in-Err-Unsolvable.field-0-is in
    let (free, whole, answers, alone) = ended is c.in-Err-Unsolvable.ensures.answer in
    let (count, ends, turnless, holds, listed) = subst (λ (e : UnsolvableOrCancelled GivenUp). IsLeftBy (Err e) solver) is c.in-Err-Unsolvable.ensures.leaves in
    let free_is : free ≡ free_of wishes = c.problem_of.ensures.wishes free whole ∙ (c.in_ok-free.ensures.wishes ∙ ap free_of c.as_slice.ensures.value) in
    let refuted : AreRequestLines catalogue source.lines → AreWishesAt catalogue source → IsOver catalogue old → AreAsked old.ids source c.args.asked → IsRefutedOver same catalogue source solver =
    λ asks versions over asked. answer_refuted catalogue source wishes c.args.asked same exact old solver asks c.in_ok-wishes.ensures.lines versions c.in_ok-wishes.ensures.wishes c.solve_with.ensures.provider over asked free free_is conflict
    (subst (λ (root : Rules). IsAnswerUnder root free (Err (Unsolvable conflict)) solver old) c.problem_of.ensures.root (subst (λ (e : UnsolvableOrCancelled GivenUp). IsAnswerUnder (asked_of c.problem_of.result) free (Err e) solver old) is answers)) ends in
    record {
      report = if_ok c.refused.result (λ r reports asks versions over asked. reports asks (refuted asks versions over asked)) c.refused.ensures.report;
      stop = if_stopped c.refused.result (λ (no : ⊥). absurd no) (λ long asks versions over asked. long asks (refuted asks versions over asked)) c.refused.ensures.stop;
    }
