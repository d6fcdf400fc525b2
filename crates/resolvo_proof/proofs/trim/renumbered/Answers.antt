use Rattle.std.proofs.Common.{refl, sym, subst}
use Rattle.resolvo_proof.specs.declared.step.ProofStep.{ProofStep}
use Rattle.resolvo_proof.specs.declared.step.ProofStep.TheVariants.{Derived}
use Rattle.resolvo_proof.specs.Trimmed.{IsNumbered}
use Rattle.resolvo_proof.proofs.trim.renumbered.Goals as goal

pub returns-in-Derived : goal.returns-in-Derived
returns-in-Derived g c = subst (λ (x : ProofStep g.row.N.Denot g.row.S.Denot). IsNumbered c.args.numbers.now x (Derived c.in-Derived.literals c.renumber.new.causes)) (sym c.in-Derived.is) (c.renumber.new.causes, refl, c.renumber.ensures)
