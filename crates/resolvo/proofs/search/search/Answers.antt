use Rattle.std.proofs.lemmas.Bool.{both_ways}
use Rattle.resolvo.proofs.Found.{begun_in_order}
use Rattle.resolvo.proofs.search.search.Goals as goal

pub returns-clause-found : goal.returns-clause-found
returns-clause-found g c = λ root is candidates encoded.
    let begun = begun_in_order g.A.SolvableId.PartialEq.eq (g.A.PackageSource.packages c.args.answers.now) (g.A.PackageSource.orders c.args.answers.now) root c.args.encoding.now c.requires encoded in
    let (holds, found, preferred) = c.in_ok-found.ensures.found root is candidates begun in
    record { encoding = holds.encoding; found = found; preferred = preferred }

pub returns-clause-provable : goal.returns-clause-provable
returns-clause-provable g c = record { built = c.in_ok-found.ensures.built; denial = c.in_ok-found.ensures.denial }

pub returns-clause-alone : goal.returns-clause-alone
returns-clause-alone g c = λ ask. absurd (both_ways _ c.if-is_empty_problem.false (c.is_empty_problem.ensures.1 ask))
