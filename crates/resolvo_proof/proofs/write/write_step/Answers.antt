use Rattle.std.proofs.Common.{◌≡◌, ◌∙◌, List, sym, subst}
use Rattle.resolvo_pool_core.specs.declared.id.ClauseId.{ClauseId}
use Rattle.resolvo_store_core.specs.Signed.{Signed}
use Rattle.resolvo_sat.specs.Steps.{AreInRange}
use Rattle.resolvo_sat.specs.State.{count_of}
use Rattle.resolvo_sat.proofs.Clauses.{literals_at}
use Rattle.resolvo_state.proofs.Positions.{get_below}
use Rattle.resolvo_state.specs.StoredKinds.{kind_in}
use Rattle.resolvo_proof.specs.Written.{IsRuleOf, IsDerivation}
use Rattle.resolvo_proof.proofs.Parts.{causes_are, clause_in_range, rule_step, learnt_step}
use Rattle.resolvo_proof.proofs.write.write_step.Goals as goal

pub write_derived-requires-clause-in_range : goal.write_derived-requires-clause-in_range
write_derived-requires-clause-in_range g c =
    let coding = c.args.coding.now in
    let (clause, present) = get_below coding.search.clauses c.args.number c.requires.in_range in
    let literals : c.as_slice.result.now ≡ clause.literals = c.as_slice.ensures.value ∙ (c.in_ok-literals-in-None.ensures.joined ∙ (c.literals.ensures ∙ literals_at coding.search.clauses c.args.number clause present)) in
    subst (AreInRange (count_of coding.search)) (sym literals) (clause_in_range coding c.requires.coding c.args.number clause present)

pub returns-in-Some-clause-step : goal.returns-in-Some-clause-step
returns-in-Some-clause-step g c =
    rule_step c.args.coding.now c.args.number (kind_in c.args.coding.now.kinds.needs c.get-kind.result) c.in-Some.rule c.requires.in_range c.get-kind.ensures.kind
    (subst (IsRuleOf (kind_in c.args.coding.now.kinds.needs c.get-kind.result)) c.in-Some.is c.in_ok-rule.ensures.encoded)

pub returns-in_ok-step-in-None-clause-step : goal.returns-in_ok-step-in-None-clause-step
returns-in_ok-step-in-None-clause-step g c =
    let coding = c.args.coding.now in
    let atoms = coding.atoms.keys in
    let (clause, present) = get_below coding.search.clauses c.args.number c.requires.in_range in
    let literals : c.as_slice.result.now ≡ clause.literals = c.as_slice.ensures.value ∙ (c.in_ok-literals-in-None.ensures.joined ∙ (c.literals.ensures ∙ literals_at coding.search.clauses c.args.number clause present)) in
    let causes : c.causes-causes.result.now ≡ clause.causes = c.causes-causes.ensures ∙ causes_are coding.search.clauses c.args.number clause present in
    learnt_step coding c.requires.coding c.args.number (kind_in c.args.coding.now.kinds.needs c.get-kind.result) clause c.in_ok-step-in-None.step c.requires.behind c.get-kind.ensures.kind present
    (subst (IsRuleOf (kind_in c.args.coding.now.kinds.needs c.get-kind.result)) c.in-None.is c.in_ok-rule.ensures.encoded)
    (subst (λ (ls : List Signed). IsDerivation atoms ls clause.causes c.in_ok-step-in-None.step) literals
    (subst (λ (cs : List ClauseId). IsDerivation atoms c.as_slice.result.now cs c.in_ok-step-in-None.step) causes c.in_ok-step-in-None.ensures.step))
