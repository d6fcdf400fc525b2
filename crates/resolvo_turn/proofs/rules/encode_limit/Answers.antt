use Rattle.std.proofs.Common.{subst, rules}
use Rattle.std.specs.Prelude.{Contains}
use Rattle.resolvo_pool_core.specs.declared.requirement.Requirement.TheVariants.{Single}
use Rattle.resolvo_pool_core.specs.RuleKeeping.{Rules, rules_for}
use Rattle.resolvo_sat.specs.RuleClauses.{IsExact}
use Rattle.resolvo_encoder.specs.Encoded.{IsLimitEncoded, rules_of}
use Rattle.resolvo_encoder.proofs.RequireLemmas.{guard_grows}
use Rattle.resolvo_turn.specs.Encoder.{IsInOrder}
use Rattle.resolvo_turn.proofs.AddLemmas.{needs_then}
use Rattle.resolvo_turn.specs.LacksIds.{StopsAnyhow}
use Rattle.resolvo_turn.proofs.rules.encode_limit.Goals as goal

pub returns-clause-encoded : goal.returns-clause-encoded
returns-clause-encoded g c = λ root e limited.
    let same = g.A.SolvableId.PartialEq.eq in
    let exact : IsExact same = record { one = g.met.A.SolvableId.Exact.exact; own = g.met.A.SolvableId.Eq.laws.refl } in
    let p = g.A.PackageSource.packages c.args.answers.now in
    let middle = c.forbid_named.new.encoding in
    let new = c.limit.new.encoding in
    let (first, prepared) = c.in_ok-forbid_named.ensures.encoded root e in
    let ensured = subst (λ (a : g.row.A.Denot). (root : Rules) → IsInOrder same (g.A.PackageSource.packages a) (g.A.PackageSource.orders a) root middle → Contains (rules_for same (g.A.PackageSource.packages a) root c.args.parent).constraints c.args.version_set
    → IsInOrder same (g.A.PackageSource.packages a) (g.A.PackageSource.orders a) root new × IsLimitEncoded same (g.A.PackageSource.packages a) (rules_of new) c.args.parent c.args.version_set) c.in_ok-forbid_named.ensures.same c.in_ok-limit.ensures.encoded in
    let (last, done) = ensured root first limited in
    (last, done, guard_grows same exact p root middle new (Single c.args.version_set) c.in_ok-limit.ensures.kept.grows prepared.0)

pub returns-clause-kept : goal.returns-clause-kept
returns-clause-kept g c = needs_then c.args.encoding.now c.forbid_named.new.encoding c.limit.new.encoding c.in_ok-forbid_named.ensures.kept c.in_ok-limit.ensures.kept

pub returns-in_err-limit-clause-ids : goal.returns-in_err-limit-clause-ids
returns-in_err-limit-clause-ids g c = λ is. subst (λ (a : g.row.A.Denot). StopsAnyhow g.A.SolvableId.PartialEq.eq g.A.PackageSource a c.limit.new.encoding) c.in_ok-forbid_named.ensures.same (search (rules, is))
