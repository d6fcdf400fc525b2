use Rattle.std.proofs.Common.{List, subst, sym, rules}
use Rattle.resolvo_packages.specs.declared.package_source.Offered.{Offered}
use Rattle.resolvo_packages.specs.PackageSource.{AreOutside}
use Rattle.resolvo_encoder.proofs.PickLemmas.{ordered_stays}
use Rattle.resolvo_turn.proofs.AddLemmas.{extends_needs}
use Rattle.resolvo_turn.specs.LacksIds.{LacksIds}
use Rattle.resolvo_turn.proofs.rules.limit.Goals as goal

pub returns-then-is_left_out-clause-encoded : goal.returns-then-is_left_out-clause-encoded
returns-then-is_left_out-clause-encoded g c = λ root e limited.
    let orders = g.A.PackageSource.orders c.args.answers.now in
    let encodes = c.in_ok-limit_outside.ensures.encodes in
    let (last, done) = c.in_ok-limit_outside.ensures.encoded (g.A.PackageSource.packages c.args.answers.now) root (g.met.A.PackageSource.lawful c.args.answers.now) e.encoding (c.is_left_out.ensures.0 c.if-is_left_out.true) limited in
    (record { encoding = last; ordered = ordered_stays orders c.args.encoding.now c.limit_outside.new.self encodes.extends.grows encodes.lists e.ordered }, done)

pub returns-then-is_left_out-clause-kept : goal.returns-then-is_left_out-clause-kept
returns-then-is_left_out-clause-kept g c = extends_needs c.args.encoding.now c.limit_outside.new.self c.in_ok-limit_outside.ensures.encodes.extends

pub returns-then-is_left_out-clause-built : goal.returns-then-is_left_out-clause-built
returns-then-is_left_out-clause-built g c = c.in_ok-limit_outside.ensures.encodes.built

pub returns-in_err-limit_outside-clause-ids : goal.returns-in_err-limit_outside-clause-ids
returns-in_err-limit_outside-clause-ids g c = search (rules, LacksIds.coding)

pub returns-clause-encoded : goal.returns-clause-encoded
returns-clause-encoded g c = λ root e limited.
    let same = g.A.SolvableId.PartialEq.eq in
    let p = g.A.PackageSource.packages c.args.answers.now in
    let orders = g.A.PackageSource.orders c.args.answers.now in
    let outside : AreOutside same p c.args.version_set c.as_slice.result.now = subst (λ (xs : List (Offered _ _)). AreOutside same p c.args.version_set xs) (sym c.as_slice.ensures.value) c.in_ok-outside.ensures.outside in
    let (last, done) = c.in_ok-limit.ensures.encoded p root (g.met.A.PackageSource.lawful c.args.answers.now) e.encoding outside limited in
    (record { encoding = last; ordered = ordered_stays orders c.args.encoding.now c.limit.new.self c.in_ok-limit.ensures.kept.grows c.in_ok-limit.ensures.lists e.ordered }, done)

pub returns-clause-kept : goal.returns-clause-kept
returns-clause-kept g c = extends_needs c.args.encoding.now c.limit.new.self c.in_ok-limit.ensures.kept

pub returns-in_err-outside-clause-ids : goal.returns-in_err-outside-clause-ids
returns-in_err-outside-clause-ids g c = search (rules, LacksIds.packages)

pub returns-in_err-limit-clause-ids : goal.returns-in_err-limit-clause-ids
returns-in_err-limit-clause-ids g c = search (rules, LacksIds.coding)
