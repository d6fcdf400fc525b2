use Rattle.std.proofs.Common.{◌∙◌, sym, subst}
use Rattle.resolvo_catalogue_core.proofs.NumberedLemmas.{sought, IsSoughtBeside}
use Rattle.resolvo_catalogue_core.proofs.version_list.version_beside.Goals as goal

pub returns-in-Ok : goal.returns-in-Ok
returns-in-Ok c =
    let found = sought c.args.numbers.now c.args.versions.now c.args.number c.binary_search.result c.requires.paired c.requires.rising c.binary_search.ensures.position in
    c.version_at.ensures ∙ sym (subst (λ r. IsSoughtBeside c.args.numbers.now c.args.versions.now c.args.number r) c.in-Ok.is found)

pub returns-in-Err : goal.returns-in-Err
returns-in-Err c =
    let found = sought c.args.numbers.now c.args.versions.now c.args.number c.binary_search.result c.requires.paired c.requires.rising c.binary_search.ensures.position in
    sym (subst (λ r. IsSoughtBeside c.args.numbers.now c.args.versions.now c.args.number r) c.in-Err.is found)
