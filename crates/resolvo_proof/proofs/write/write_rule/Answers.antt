use Rattle.std.proofs.Common.{subst, sym, Some, refl}
use Rattle.resolvo_state.specs.declared.clause_kind.ClauseKind.{ClauseKind}
use Rattle.resolvo_state.specs.StoredKinds.{kind_in}
use Rattle.resolvo_proof.specs.declared.step.ProofRule.{ProofRule}
use Rattle.resolvo_proof.specs.declared.step.ProofRule.TheVariants.{Needs}
use Rattle.resolvo_proof.specs.Written.{IsRuleOf}
use Rattle.resolvo_proof.proofs.write.write_rule.Goals as goal

pub returns-in-Requires-clause-encoded : goal.returns-in-Requires-clause-encoded
returns-in-Requires-clause-encoded g c =
    let rule : ProofRule g.row.N.Denot g.row.S.Denot = Needs c.in-Requires.parent c.in-Requires.requirement c.new.result in
    subst (λ (x : ClauseKind g.row.N.Denot g.row.S.Denot). IsRuleOf (kind_in c.args.kinds.now.needs x) (Some rule)) (sym c.in-Requires.is) (c.new.result, refl, c.new.ensures.items)
