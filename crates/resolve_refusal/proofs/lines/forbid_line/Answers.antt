use Rattle.std.proofs.Common.{sym, subst}
use Rattle.resolve_refusal.specs.Lines.{IsForbidLineOf}
use Rattle.resolve_refusal.proofs.ForbidLemmas.{lock_found, exclusion_found, none_found, forbidden_listed}
use Rattle.resolve_refusal.proofs.lines.forbid_line.Goals as goal

pub returns-in_err-line : goal.returns-in_err-line
returns-in_err-line c = subst (IsForbidLineOf c.args.catalogue.now c.args.version.0) (sym c.from_residual.ensures) (λ v at. none_found c.args.catalogue.now c.args.version.0 v at c.in_err-line.ensures)

pub returns-then-is_lock : goal.returns-then-is_lock
returns-then-is_lock c =
    let (v, at) = forbidden_listed c.args.catalogue.now c.args.version.0 c.in_ok-line.line c.in_ok-line.ensures in
    (v, at, lock_found c.args.catalogue.now c.args.version.0 v c.in_ok-line.line c.is_lock.result at c.in_ok-line.ensures c.is_lock.ensures c.if-is_lock.true)

pub returns-else-is_lock : goal.returns-else-is_lock
returns-else-is_lock c =
    let (v, at) = forbidden_listed c.args.catalogue.now c.args.version.0 c.in_ok-line.line c.in_ok-line.ensures in
    (v, at, exclusion_found c.args.catalogue.now c.args.version.0 v c.in_ok-line.line c.is_lock.result at c.in_ok-line.ensures c.is_lock.ensures c.if-is_lock.false)
