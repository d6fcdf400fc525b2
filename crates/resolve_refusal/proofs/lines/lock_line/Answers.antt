use Rattle.std.proofs.Common.{Some, ap, inl, subst}
use Rattle.resolve_refusal.specs.Lines.{IsForbidLineOf}
use Rattle.resolve_refusal.specs.declared.lines.ForbidLine.{ForbidLine}
use Rattle.resolve_refusal.proofs.ForbidLemmas.{lock_of_line, no_lock_of_line}
use Rattle.resolve_refusal.proofs.lines.lock_line.Goals as goal

pub returns-in-Some-Lock : goal.returns-in-Some-Lock
returns-in-Some-Lock c = λ v at. lock_of_line c.args.catalogue.now c.args.version.0 c.in-Some-Lock.line v at (subst (IsForbidLineOf c.args.catalogue.now c.args.version.0) (ap (λ (l : ForbidLine). Some l) c.in-Some-Lock.field-0-is) c.in-Some-Lock.ensures)

pub returns-in-Some-Exclude : goal.returns-in-Some-Exclude
returns-in-Some-Exclude c = λ v at. no_lock_of_line c.args.catalogue.now c.args.version.0 _ v at (subst (IsForbidLineOf c.args.catalogue.now c.args.version.0) (ap (λ (l : ForbidLine). Some l) c.in-Some-Exclude.field-0-is) c.in-Some-Exclude.ensures)

pub returns-in-None : goal.returns-in-None
returns-in-None c = λ v at m lock. c.in-None.ensures v at m (inl lock)
