use Rattle.std.proofs.Common.{Option, subst, rules}
use Rattle.resolvo_sat.specs.declared.analyze.FinalConflict.{FinalConflict}
use Rattle.resolvo_encoder.proofs.Bases.{turn_has, turn_then}
use Rattle.resolvo_encoder.proofs.StayLemmas.{goes_then}
use Rattle.resolvo_turn.specs.Turn.{HasSoft, IsBegunBy}
use Rattle.resolvo_turn.proofs.AddLemmas.{goes_in_order}
use Rattle.resolvo_turn.proofs.EndLemmas.{begun_of, decided_of, decided_turn, soft_kept}
use Rattle.resolvo_turn.specs.LacksIds.{StopsInOrder}
use Rattle.resolvo_turn.proofs.turn.choose_and_decide.Goals as goal

pub returns-in-Some-clause-stays : goal.returns-in-Some-clause-stays
returns-in-Some-clause-stays g c = λ root e.
    goes_in_order g.A.SolvableId.PartialEq.eq (g.A.PackageSource.packages c.args.answers.now) (g.A.PackageSource.orders c.args.answers.now) root c.args.encoding.now c.begin_search.new.encoding c.in_ok-refusal.ensures.goes_on
    (c.in_ok-refusal.ensures.stays (g.A.PackageSource.packages c.args.answers.now) root (g.met.A.PackageSource.lawful c.args.answers.now)) e

pub returns-in-Some-clause-decided : goal.returns-in-Some-clause-decided
returns-in-Some-clause-decided g c =
    begun_of c.args.soft c.begin_search.new.encoding c.in-Some.refusal (subst (λ (o : Option FinalConflict). IsBegunBy c.args.soft c.begin_search.new.encoding o) c.in-Some.is c.in_ok-refusal.ensures.begun)

pub returns-clause-stays : goal.returns-clause-stays
returns-clause-stays g c = λ root e.
    c.in_ok-refusal-2.ensures.stays root
    (goes_in_order g.A.SolvableId.PartialEq.eq (g.A.PackageSource.packages c.args.answers.now) (g.A.PackageSource.orders c.args.answers.now) root c.args.encoding.now c.begin_search.new.encoding c.in_ok-refusal.ensures.goes_on
    (c.in_ok-refusal.ensures.stays (g.A.PackageSource.packages c.args.answers.now) root (g.met.A.PackageSource.lawful c.args.answers.now)) e)

pub returns-clause-goes_on : goal.returns-clause-goes_on
returns-clause-goes_on g c = goes_then c.args.encoding.now c.begin_search.new.encoding c.run_cdcl.new.encoding c.in_ok-refusal.ensures.goes_on c.in_ok-refusal-2.ensures.goes_on

pub returns-clause-turn : goal.returns-clause-turn
returns-clause-turn g c =
    let has : HasSoft c.args.soft c.begin_search.new.encoding = subst (λ (o : Option FinalConflict). IsBegunBy c.args.soft c.begin_search.new.encoding o) c.in_default.is c.in_ok-refusal.ensures.begun in
    turn_then c.args.soft c.args.encoding.now c.begin_search.new.encoding c.run_cdcl.new.encoding c.in_ok-refusal.ensures.turn
    (decided_turn c.args.soft c.begin_search.new.encoding c.run_cdcl.new.encoding c.in_ok-refusal-2.ensures.goes_on c.in_ok-refusal-2.ensures.first has)

pub returns-clause-decided : goal.returns-clause-decided
returns-clause-decided g c =
    let has : HasSoft c.args.soft c.begin_search.new.encoding = subst (λ (o : Option FinalConflict). IsBegunBy c.args.soft c.begin_search.new.encoding o) c.in_default.is c.in_ok-refusal.ensures.begun in
    let turn = turn_has c.args.soft c.args.encoding.now c.begin_search.new.encoding c.requires.turn c.in_ok-refusal.ensures.turn in
    decided_of c.args.soft c.run_cdcl.new.encoding c.in_ok-refusal-2.refusal c.in_ok-refusal-2.ensures.decided (soft_kept c.args.soft c.begin_search.new.encoding c.run_cdcl.new.encoding turn has c.in_ok-refusal-2.ensures.first)

pub returns-in_err-refusal-2-clause-ids : goal.returns-in_err-refusal-2-clause-ids
returns-in_err-refusal-2-clause-ids g c = λ is root e.
    let stops : StopsInOrder g.A.SolvableId.PartialEq.eq g.A.PackageSource c.args.answers.now c.begin_search.new.encoding c.run_cdcl.new.encoding = search (rules, is) in
    stops root
    (goes_in_order g.A.SolvableId.PartialEq.eq (g.A.PackageSource.packages c.args.answers.now) (g.A.PackageSource.orders c.args.answers.now) root c.args.encoding.now c.begin_search.new.encoding c.in_ok-refusal.ensures.goes_on
    (c.in_ok-refusal.ensures.stays (g.A.PackageSource.packages c.args.answers.now) root (g.met.A.PackageSource.lawful c.args.answers.now)) e)
