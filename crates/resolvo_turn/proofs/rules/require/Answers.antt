use Rattle.std.proofs.Common.{List, [], subst, sym, rules}
use Rattle.resolvo_packages.specs.declared.package_source.Offered.{Offered}
use Rattle.resolvo_packages.specs.PackageSource.{AreOffered, offered_solvables}
use Rattle.resolvo_sat.specs.RuleClauses.{IsExact}
use Rattle.resolvo_encoder.proofs.BuildLemmas.{built_parents}
use Rattle.resolvo_encoder.proofs.PickLemmas.{ordered_adds}
use Rattle.resolvo_turn.proofs.AddLemmas.{parents_in_order, needs_then, extends_needs, parents_needs, need_stays}
use Rattle.resolvo_turn.specs.LacksIds.{LacksIds}
use Rattle.resolvo_turn.proofs.StopLemmas.{lacks_for}
use Rattle.resolvo_turn.proofs.rules.require.Goals as goal

pub returns-clause-encoded : goal.returns-clause-encoded
returns-clause-encoded g c = λ root e guarded needs.
    let p = g.A.PackageSource.packages c.args.answers.now in
    let orders = g.A.PackageSource.orders c.args.answers.now in
    let same = g.A.SolvableId.PartialEq.eq in
    let exact : IsExact same = record { one = g.met.A.SolvableId.Exact.exact; own = g.met.A.SolvableId.Eq.laws.refl } in
    let offered : AreOffered same p c.args.need.requirement c.as_slice.result.now = subst (λ (xs : List (Offered _ _)). AreOffered same p c.args.need.requirement xs) (sym c.as_slice.ensures.value) c.in_ok-offered.ensures.offered in
    let tried : orders c.args.need.requirement (offered_solvables c.as_slice.result.now) = subst (λ (xs : List (Offered _ _)). orders c.args.need.requirement (offered_solvables xs)) (sym c.as_slice.ensures.value) c.in_ok-offered.ensures.ordered in
    let (middle, is_encoded) = c.in_ok-require.ensures.encoded p root (g.met.A.PackageSource.lawful c.args.answers.now) e.encoding offered guarded needs in
    let ordered = ordered_adds orders c.args.need.requirement c.as_slice.result.now c.args.encoding.now c.require.new.self c.in_ok-require.ensures.kept.grows c.in_ok-require.ensures.candidates tried e.ordered in (
      parents_in_order same p orders root c.require.new.self c.add_available.new.encoding (record { encoding = middle; ordered = ordered }) c.in_ok-add_available.ensures.added,
      need_stays same exact p root c.require.new.self c.add_available.new.encoding c.args.parent c.args.need [] (parents_needs c.require.new.self c.add_available.new.encoding c.in_ok-add_available.ensures.added) is_encoded,
    )

pub returns-clause-kept : goal.returns-clause-kept
returns-clause-kept g c = needs_then c.args.encoding.now c.require.new.self c.add_available.new.encoding (extends_needs c.args.encoding.now c.require.new.self c.in_ok-require.ensures.kept) (parents_needs c.require.new.self c.add_available.new.encoding c.in_ok-add_available.ensures.added)

pub returns-clause-built : goal.returns-clause-built
returns-clause-built g c = built_parents c.require.new.self c.add_available.new.encoding c.in_ok-require.ensures.built c.in_ok-add_available.ensures.added

pub returns-in_err-offered-clause-ids : goal.returns-in_err-offered-clause-ids
returns-in_err-offered-clause-ids g c = search (rules, LacksIds.packages)

pub returns-in_err-require-clause-ids : goal.returns-in_err-require-clause-ids
returns-in_err-require-clause-ids g c = λ is root listed. lacks_for g.A.SolvableId.PartialEq.eq g.A.PackageSource c.args.answers.now root c.args.parent c.args.need c.require.new.self listed (search (rules, is))
