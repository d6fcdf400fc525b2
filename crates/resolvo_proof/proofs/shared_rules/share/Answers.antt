use Rattle.std.proofs.Common.{◌++◌, ◌∷◌, [], map, filter, ap, sym, ◌∙◌}
use Rattle.std.specs.Option.{option_to_list}
use Rattle.std.proofs.lemmas.Result.{on_ok_weaker}
use Rattle.resolvo_pool_core.specs.declared.requirement.Requirement.{Requirement}
use Rattle.resolvo_pool_core.specs.contracts.requirement.RequirementPartialEq.TheImpl as Requirements
use Rattle.resolvo_graph.specs.Tree.{same_set}
use Rattle.resolvo_proof.specs.LinkRules.{gate_in, outside_in, requirers, under_set}
use Rattle.resolvo_proof.specs.Shares.{parents_in, outsiders_in}
use Rattle.resolvo_proof.proofs.ShareLemmas.{listed_more, one_requirement, one_set}
use Rattle.resolvo_proof.proofs.TestLemmas.{requirement_test}
use Rattle.resolvo_proof.proofs.shared_rules.share.Goals as goal

pub returns-in-GateOf-clause-gates : goal.returns-in-GateOf-clause-gates
returns-in-GateOf-clause-gates g c =
    let before = parents_in c.args.shares.now in
    let key = c.in-GateOf.requirement in
    let parent = c.in-GateOf.parent in
    on_ok_weaker c.add.result
    (λ h q.
    h q ∙ listed_more Requirements.ghosts.eq (λ a b e. one_requirement a b (ap (λ same. same a b) (sym requirement_test) ∙ e)) before key q parent
    ∙ ap (λ same. before q ++ map (λ (e : Requirement × g.row.S.Denot). e.1) (filter (λ (e : Requirement × g.row.S.Denot). same e.0 q) ((key, parent) ∷ []))) requirement_test
    ∙ ap (λ r. before q ++ requirers (option_to_list (gate_in r)) q) (sym c.in-GateOf.is))
    c.add.ensures.added

pub returns-in-Outside-clause-outsides : goal.returns-in-Outside-clause-outsides
returns-in-Outside-clause-outsides g c =
    let before = outsiders_in c.args.shares.now in
    on_ok_weaker c.add-in-Outside.result (λ h v. h v ∙ listed_more same_set one_set before c.in-Outside.version_set v c.in-Outside.solvable ∙ ap (λ r. before v ++ under_set (option_to_list (outside_in r)) v) (sym c.in-Outside.is)) c.add-in-Outside.ensures.added
