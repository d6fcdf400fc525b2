use Rattle.std.proofs.Common.{List, sym, ◌∙◌, ap, subst}
use Rattle.resolvo_proof.specs.declared.step.ProofStep.{ProofStep}
use Rattle.resolvo_terms.specs.Terms.{NameId}
use Rattle.resolvo_catalogue.specs.Ids.{SolvableId}
use Rattle.resolvo_catalogue.specs.Provider.{Provider}
use Rattle.resolvo.specs.Solver.{Kept}
use Rattle.resolvo.specs.declared.turns.Turn.{Turn}
use Rattle.resolve_answer.specs.Solved.{IsInstalledOver}
use Rattle.resolve_answer.proofs.Upheld.{if_ok}
use Rattle.resolve_answer.proofs.answer.installed.Goals as goal

pub returns : goal.returns
returns c =
    let catalogue = c.args.catalogue.now in
    let source = c.args.request.now in
    let wishes = c.args.wishes.items in
    let chosen = c.args.chosen.now in
    let left = c.take_proof-proof.ensures.left in
    if_ok c.installed_over.result (λ r reports asks is. reports asks
    (subst (λ (q : Provider). IsInstalledOver catalogue source q wishes chosen c.turns.result.now c.take_proof-proof.result.items) (sym (c.provider.ensures ∙ ap (λ (k : Kept Provider NameId SolvableId). k.provider) left))
    (subst (λ (ts : List (Turn SolvableId)). IsInstalledOver catalogue source c.args.solver.now.provider wishes chosen ts c.take_proof-proof.result.items) (sym (c.turns.ensures ∙ ap (λ (k : Kept Provider NameId SolvableId). k.turns) left))
    (subst (λ (steps : List (ProofStep NameId SolvableId)). IsInstalledOver catalogue source c.args.solver.now.provider wishes chosen c.args.solver.now.turns steps) (sym c.take_proof-proof.ensures.steps) is))))
    c.installed_over.ensures
