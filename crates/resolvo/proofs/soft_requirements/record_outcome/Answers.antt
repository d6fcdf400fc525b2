use Rattle.std.proofs.Common.{ℕ, Some, None, refl, sym, subst}
use Rattle.resolvo.specs.declared.soft_requirements.SoftOutcome.{SoftOutcome}
use Rattle.resolvo.specs.declared.soft_requirements.SoftOutcome.TheVariants as Soft
use Rattle.resolvo.specs.Turns.{RecordsOutcome, Records}
use Rattle.resolvo.proofs.soft_requirements.record_outcome.Goals as goal

pub returns-in-Unsat : goal.returns-in-Unsat
returns-in-Unsat g c = subst (λ (w : SoftOutcome). RecordsOutcome g.S.PartialEq.eq c.args.soft c.args.encoding.now c.args.turns.now c.args.turns.now w (Some c.in-Unsat.refusal)) (sym c.in-Unsat.is) (refl, refl)

pub returns-in_ok-record-in-AlreadyChosen : goal.returns-in_ok-record-in-AlreadyChosen
returns-in_ok-record-in-AlreadyChosen g c = subst (λ (w : SoftOutcome). RecordsOutcome g.S.PartialEq.eq c.args.soft c.args.encoding.now c.args.turns.now c.record.new.self w None) (sym c.in-AlreadyChosen.is) (subst (λ (n : ℕ). Records c.args.soft n Soft.AlreadyChosen c.args.turns.now c.record.new.self) c.len-begin.ensures c.in_ok-record-in-AlreadyChosen.ensures)

pub returns-in_ok-record-in-Refused : goal.returns-in_ok-record-in-Refused
returns-in_ok-record-in-Refused g c = subst (λ (w : SoftOutcome). RecordsOutcome g.S.PartialEq.eq c.args.soft c.args.encoding.now c.args.turns.now c.record-in-Refused.new.self w None) (sym c.in-Refused.is) (subst (λ (n : ℕ). Records c.args.soft n (Soft.Refused c.in-Refused.clause) c.args.turns.now c.record-in-Refused.new.self) c.len-begin.ensures c.in_ok-record-in-Refused.ensures)

pub returns-in_ok-record-in-Chosen : goal.returns-in_ok-record-in-Chosen
returns-in_ok-record-in-Chosen g c = subst (λ (w : SoftOutcome). RecordsOutcome g.S.PartialEq.eq c.args.soft c.args.encoding.now c.args.turns.now c.record-in-Chosen.new.self w None) (sym c.in-Chosen.is) (c.list.new.self, c.in_ok-list-in-Chosen.ensures.listed, c.in_ok-list-in-Chosen.ensures.in_order, c.in_ok-list-in-Chosen.ensures.turns, subst (λ (n : ℕ). Records c.args.soft n Soft.Chosen c.list.new.self c.record-in-Chosen.new.self) c.len-begin.ensures c.in_ok-record-in-Chosen.ensures)
