use Rattle.std.proofs.Common.{◌≡◌, ◌++◌, ◌∷◌, [], cond, ap, sym, ◌∙◌}
use Rattle.std.specs.List.{list_any}
use Rattle.std.specs.Option.{option_to_list}
use Rattle.resolvo_proof.specs.Tests.{same_limited}
use Rattle.resolvo_proof.specs.LinkRules.{is_new, limited_in}
use Rattle.resolvo_proof.proofs.LinkLemmas.{turned_test}
use Rattle.resolvo_proof.proofs.link_rules.is_new.Goals as goal

pub returns-in_ok-new-in-Constrains-clause-recorded : goal.returns-in_ok-new-in-Constrains-clause-recorded
returns-in_ok-new-in-Constrains-clause-recorded g c =
    let joined = c.args.limits.now.keys in
    let put : c.insert_full.new.self.keys ≡ cond (list_any (same_limited g.S.PartialEq.eq (c.in-Constrains.parent, c.in-Constrains.version_set, c.in-Constrains.solvable)) joined) joined (joined ++ (c.in-Constrains.parent, c.in-Constrains.version_set, c.in-Constrains.solvable) ∷ []) = c.in_ok-new-in-Constrains.ensures.keys in
    put ∙ turned_test (list_any (same_limited g.S.PartialEq.eq (c.in-Constrains.parent, c.in-Constrains.version_set, c.in-Constrains.solvable)) joined) joined (joined ++ (c.in-Constrains.parent, c.in-Constrains.version_set, c.in-Constrains.solvable) ∷ [])
    ∙ ap (λ l. cond (is_new g.S.PartialEq.eq joined (limited_in l)) (joined ++ option_to_list (limited_in l)) joined) (sym c.in-Constrains.is)
