use Rattle.std.proofs.Common.{List, Some, subst}
use Rattle.std.specs.Prelude.{IfOk}
use Rattle.resolvo_text.specs.Line.{Spec, Needs}
use Rattle.resolvo_text.specs.View.{specs_of, cond_of}
use Rattle.resolvo_text.specs.declared.condition.Cond.{Cond}
use Rattle.resolve_refusal.specs.Lines.{IsCaseOf}
use Rattle.resolve_refusal.proofs.lines.condition_case.Goals as goal

pub returns-in-Some-clause-case : goal.returns-in-Some-clause-case
returns-in-Some-clause-case c =
    rw c.in-Some.is (subst (λ (x : Cond). IfOk c.case_in.result (λ found. (alternatives : List Spec) → IsCaseOf alternatives (specs_of c.args.case.now) (Needs alternatives (Some (cond_of x))) found)) c.deref.ensures c.case_in.ensures.case)
