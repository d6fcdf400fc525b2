use Rattle.std.proofs.Common.{List, subst, sym, rules}
use Rattle.resolvo_packages.specs.declared.package_source.ForbiddenSolvable.{ForbiddenSolvable}
use Rattle.resolvo_packages.specs.Forbidden.{AreForbidden}
use Rattle.resolvo_encoder.proofs.PickLemmas.{ordered_stays}
use Rattle.resolvo_turn.specs.LacksIds.{LacksIds}
use Rattle.resolvo_turn.proofs.forbid.forbid_candidates.Goals as goal

pub returns-clause-encoded : goal.returns-clause-encoded
returns-clause-encoded g c = λ root e known.
    let same = g.A.SolvableId.PartialEq.eq in
    let p = g.A.PackageSource.packages c.args.answers.now in
    let forbidden : AreForbidden same p c.args.name c.as_slice.result.now = subst (λ (xs : List (ForbiddenSolvable _)). AreForbidden same p c.args.name xs) (sym c.as_slice.ensures.value) c.in_ok-forbidden.ensures.forbidden in
    let (last, forbids) = c.in_ok-forbid.ensures.encoded p root (g.met.A.PackageSource.lawful c.args.answers.now) e.encoding forbidden known in
    (record { encoding = last; ordered = ordered_stays (g.A.PackageSource.orders c.args.answers.now) c.args.encoding.now c.forbid.new.self c.in_ok-forbid.ensures.kept.grows c.in_ok-forbid.ensures.lists e.ordered }, forbids)

pub returns-in_err-forbidden-clause-ids : goal.returns-in_err-forbidden-clause-ids
returns-in_err-forbidden-clause-ids g c = search (rules, LacksIds.packages)

pub returns-in_err-forbid-clause-ids : goal.returns-in_err-forbid-clause-ids
returns-in_err-forbid-clause-ids g c = search (rules, LacksIds.coding)
