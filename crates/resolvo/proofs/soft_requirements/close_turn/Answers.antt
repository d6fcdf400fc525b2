use Rattle.std.proofs.Common.{Option, refl, sym, subst}
use Rattle.std.specs.Prelude.{IfSome}
use Rattle.resolvo_sat.specs.declared.analyze.FinalConflict.{FinalConflict}
use Rattle.resolvo.specs.SoftTurns.{IsClosed, IsRefusable}
use Rattle.resolvo.specs.declared.soft_requirements.SoftOutcome.TheVariants.{Chosen, Refused}
use Rattle.resolvo.proofs.soft_requirements.close_turn.Goals as goal

pub returns-in-None-clause-closed : goal.returns-in-None-clause-closed
returns-in-None-clause-closed g c = subst (λ (t : Option FinalConflict). IsClosed t c.args.encoding.now c.args.encoding.now Chosen) (sym c.in-None.is) (refl, refl)

pub refuse-requires-clause-refused : goal.refuse-requires-clause-refused
refuse-requires-clause-refused g c = subst (λ (t : Option FinalConflict). IfSome t (IsRefusable c.args.encoding.now)) c.in-Some.is c.requires.refused

pub returns-in_ok-clause-in-Some-clause-closed : goal.returns-in_ok-clause-in-Some-clause-closed
returns-in_ok-clause-in-Some-clause-closed g c =
    subst (λ (t : Option FinalConflict). IsClosed t c.args.encoding.now c.refuse.new.encoding (Refused c.in_ok-clause-in-Some.clause)) (sym c.in-Some.is) c.in_ok-clause-in-Some.ensures.refused
