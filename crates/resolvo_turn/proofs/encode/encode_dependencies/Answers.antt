use Rattle.std.proofs.Common.{◌≡◌, ◌∙◌, Some, sym, ap, rules}
use Rattle.resolvo_pool_core.specs.declared.provider.Dependencies.TheVariants.{Known, Unknown}
use Rattle.resolvo_pool_core.specs.Provider.{needs_of}
use Rattle.resolvo_turn.proofs.AddLemmas.{extends_in_order, known_rules, unknown_encoded}
use Rattle.resolvo_turn.proofs.TaskLemmas.{excluded_stays}
use Rattle.resolvo_turn.specs.LacksIds.{LacksIds, StopsKnown}
use Rattle.resolvo_turn.proofs.encode.encode_dependencies.Goals as goal

pub returns-in_ok-encode_rules-in-Known-clause-encoded : goal.returns-in_ok-encode_rules-in-Known-clause-encoded
returns-in_ok-encode_rules-in-Known-clause-encoded g c = λ root e before.
    let p = g.A.PackageSource.packages c.args.answers.now in
    let asked : p.dependencies_of c.args.solvable ≡ needs_of (Known c.in-Known.known) = sym c.requires.asked ∙ ap needs_of c.in-Known.is in
    c.in_ok-encode_rules-in-Known.ensures.encoded root
    (known_rules g.A.SolvableId.PartialEq.eq p root c.args.solvable c.in-Known.known c.as_slice-needs.result.now c.as_slice-limits.result.now asked c.as_slice-needs.ensures.value c.as_slice-limits.ensures.value) e

pub returns-in_ok-encode_rules-in-Known-clause-excluded : goal.returns-in_ok-encode_rules-in-Known-clause-excluded
returns-in_ok-encode_rules-in-Known-clause-excluded g c = λ root e before. excluded_stays c.args.excluded.now.keys c.args.encoding.now c.encode_rules.new.encoding c.in_ok-encode_rules-in-Known.ensures.kept.grows before

pub returns-in_ok-exclude-in-Unknown-clause-encoded : goal.returns-in_ok-exclude-in-Unknown-clause-encoded
returns-in_ok-exclude-in-Unknown-clause-encoded g c = λ root e before.
    let same = g.A.SolvableId.PartialEq.eq in
    let p = g.A.PackageSource.packages c.args.answers.now in
    let lawful = g.met.A.PackageSource.lawful c.args.answers.now in
    let asked : p.dependencies_of c.args.solvable ≡ needs_of (Unknown c.in-Unknown.reason) = sym c.requires.asked ∙ ap needs_of c.in-Unknown.is in
    let excludes = c.in_ok-exclude-in-Unknown.ensures.excludes in (
      extends_in_order same p (g.A.PackageSource.orders c.args.answers.now) root c.args.encoding.now c.exclude.new.encoding c.in_ok-exclude-in-Unknown.ensures.kept.grows excludes.lists (excludes.stays p root lawful asked) e,
      unknown_encoded same p root c.exclude.new.encoding c.args.solvable c.in-Unknown.reason asked (excludes.excluded p root lawful asked e.encoding before).1,
    )

pub returns-in_ok-exclude-in-Unknown-clause-excluded : goal.returns-in_ok-exclude-in-Unknown-clause-excluded
returns-in_ok-exclude-in-Unknown-clause-excluded g c = λ root e before.
    let p = g.A.PackageSource.packages c.args.answers.now in
    let asked : p.dependencies_of c.args.solvable ≡ needs_of (Unknown c.in-Unknown.reason) = sym c.requires.asked ∙ ap needs_of c.in-Unknown.is in
    (c.in_ok-exclude-in-Unknown.ensures.excludes.excluded p root (g.met.A.PackageSource.lawful c.args.answers.now) asked e.encoding before).0

pub returns-in_err-encode_rules-in-Known-clause-ids : goal.returns-in_err-encode_rules-in-Known-clause-ids
returns-in_err-encode_rules-in-Known-clause-ids g c = λ is root e.
    let same = g.A.SolvableId.PartialEq.eq in
    let p = g.A.PackageSource.packages c.args.answers.now in
    let asked : p.dependencies_of c.args.solvable ≡ needs_of (Known c.in-Known.known) = sym c.requires.asked ∙ ap needs_of c.in-Known.is in
    let stops : StopsKnown same g.A.PackageSource c.args.answers.now (Some c.args.solvable) c.as_slice-needs.result.now c.as_slice-limits.result.now c.args.encoding.now c.encode_rules.new.encoding = search (rules, is) in
    stops root (known_rules same p root c.args.solvable c.in-Known.known c.as_slice-needs.result.now c.as_slice-limits.result.now asked c.as_slice-needs.ensures.value c.as_slice-limits.ensures.value) e

pub returns-in_err-exclude-in-Unknown-clause-ids : goal.returns-in_err-exclude-in-Unknown-clause-ids
returns-in_err-exclude-in-Unknown-clause-ids g c = search (rules, LacksIds.coding)
