use Rattle.std.proofs.Common.{◌≡◌, sym, rules}
use Rattle.resolvo_pool_core.specs.declared.provider.Dependencies.TheVariants.{Unknown}
use Rattle.resolvo_pool_core.specs.Provider.{needs_of}
use Rattle.resolvo_turn.proofs.AddLemmas.{extends_in_order, needs_none}
use Rattle.resolvo_turn.specs.LacksIds.{LacksIds}
use Rattle.resolvo_turn.proofs.encode.exclude_unknown.Goals as goal

pub returns-in-None-clause-kept : goal.returns-in-None-clause-kept
returns-in-None-clause-kept g c = needs_none c.args.encoding.now

pub returns-in_ok-exclude-in-Some-clause-stays : goal.returns-in_ok-exclude-in-Some-clause-stays
returns-in_ok-exclude-in-Some-clause-stays g c = λ root e.
    let p = g.A.PackageSource.packages c.args.answers.now in
    let asked : p.dependencies_of c.args.solvable ≡ needs_of (Unknown c.in-Some.reason) = sym (c.in_ok-unknown.ensures.reason c.in-Some.reason c.in-Some.is) in
    let excludes = c.in_ok-exclude-in-Some.ensures.excludes in
    extends_in_order g.A.SolvableId.PartialEq.eq p (g.A.PackageSource.orders c.args.answers.now) root c.args.encoding.now c.exclude.new.encoding c.in_ok-exclude-in-Some.ensures.kept.grows excludes.lists (excludes.stays p root (g.met.A.PackageSource.lawful c.args.answers.now) asked) e

pub returns-in_ok-exclude-in-Some-clause-excluded : goal.returns-in_ok-exclude-in-Some-clause-excluded
returns-in_ok-exclude-in-Some-clause-excluded g c = λ root e before.
    let p = g.A.PackageSource.packages c.args.answers.now in
    let asked : p.dependencies_of c.args.solvable ≡ needs_of (Unknown c.in-Some.reason) = sym (c.in_ok-unknown.ensures.reason c.in-Some.reason c.in-Some.is) in
    (c.in_ok-exclude-in-Some.ensures.excludes.excluded p root (g.met.A.PackageSource.lawful c.args.answers.now) asked e.encoding before).0

pub returns-in_err-unknown-clause-ids : goal.returns-in_err-unknown-clause-ids
returns-in_err-unknown-clause-ids g c = search (rules, LacksIds.packages)

pub returns-in_err-exclude-in-Some-clause-ids : goal.returns-in_err-exclude-in-Some-clause-ids
returns-in_err-exclude-in-Some-clause-ids g c = search (rules, LacksIds.coding)
