use Rattle.std.proofs.Common.{List, sym, subst, rules}
use Rattle.std.specs.Prelude.{Contains}
use Rattle.std.proofs.lemmas.Bool.{both_ways}
use Rattle.resolvo_pool_core.specs.declared.id.VersionSetId.{VersionSetId}
use Rattle.resolvo_pool_core.specs.declared.requirement.ConditionalRequirement.{ConditionalRequirement}
use Rattle.resolvo_pool_core.specs.declared.requirement.Requirement.TheVariants.{Single}
use Rattle.resolvo_pool_core.specs.RuleKeeping.{Rules, rules_for}
use Rattle.resolvo_sat.specs.RuleClauses.{IsExact}
use Rattle.resolvo_encoder.specs.Encoded.{IsGuarded, IsLimitEncoded, rules_of}
use Rattle.resolvo_turn.specs.Encoder.{IsInOrder}
use Rattle.resolvo_turn.proofs.AddLemmas.{needs_then, case_stays}
use Rattle.resolvo_turn.specs.LacksIds.{StopsAll, StopsAnyhow}
use Rattle.resolvo_turn.proofs.rules.add_rules.Goals as goal

pub returns-clause-encoded : goal.returns-clause-encoded
returns-clause-encoded g c = λ root are e.
    let same = g.A.SolvableId.PartialEq.eq in
    let exact : IsExact same = record { one = g.met.A.SolvableId.Exact.exact; own = g.met.A.SolvableId.Eq.laws.refl } in
    let p = g.A.PackageSource.packages c.args.answers.now in
    let middle = c.encode_needs.new.encoding in
    let new = c.encode_limits.new.encoding in
    let needs : (need : ConditionalRequirement) → Contains c.args.requirements.now need → Contains (rules_for same p root c.args.parent).requirements need = λ need h. subst (λ (xs : List ConditionalRequirement). Contains xs need) (sym are.requirements) h in
    let (first, done) = c.in_ok-encode_needs.ensures.encoded root e needs in
    let ensured = subst (λ (a : g.row.A.Denot). (root : Rules) → IsInOrder same (g.A.PackageSource.packages a) (g.A.PackageSource.orders a) root middle → ((v : VersionSetId) → Contains c.args.constraints.now v → Contains (rules_for same (g.A.PackageSource.packages a) root c.args.parent).constraints v)
    → IsInOrder same (g.A.PackageSource.packages a) (g.A.PackageSource.orders a) root new × ((v : VersionSetId) → Contains c.args.constraints.now v → IsLimitEncoded same (g.A.PackageSource.packages a) (rules_of new) c.args.parent v × IsGuarded same (g.A.PackageSource.packages a) (rules_of new) (Single v)))
    c.in_ok-encode_needs.ensures.same c.in_ok-encode_limits.ensures.encoded in
    let (last, limits) = ensured root first (λ v h. subst (λ (xs : List VersionSetId). Contains xs v) (sym are.constraints) h) in (
      last,
      record {
        needs = λ need case h one. case_stays same exact p root middle new c.args.parent need case c.in_ok-encode_limits.ensures.kept (done need (subst (λ (xs : List ConditionalRequirement). Contains xs need) are.requirements h) case one);
        limits = λ v h. (limits v (subst (λ (xs : List VersionSetId). Contains xs v) are.constraints h)).0;
        guarded = λ v h. (limits v (subst (λ (xs : List VersionSetId). Contains xs v) are.constraints h)).1;
        unknown = λ s is h. absurd (both_ways _ (are.known s is) h);
      },
    )

pub returns-clause-kept : goal.returns-clause-kept
returns-clause-kept g c = needs_then c.args.encoding.now c.encode_needs.new.encoding c.encode_limits.new.encoding c.in_ok-encode_needs.ensures.kept c.in_ok-encode_limits.ensures.kept

pub returns-in_err-encode_needs-clause-ids : goal.returns-in_err-encode_needs-clause-ids
returns-in_err-encode_needs-clause-ids g c = λ is root are e.
    let stops : StopsAll g.A.SolvableId.PartialEq.eq g.A.PackageSource c.args.answers.now c.args.parent c.args.requirements.now c.args.encoding.now c.encode_needs.new.encoding = search (rules, is) in
    stops root e (λ need h. subst (λ (xs : List ConditionalRequirement). Contains xs need) (sym are.requirements) h)

pub returns-in_err-encode_limits-clause-ids : goal.returns-in_err-encode_limits-clause-ids
returns-in_err-encode_limits-clause-ids g c = λ is root are e.
    let stops = subst (λ (a : g.row.A.Denot). StopsAnyhow g.A.SolvableId.PartialEq.eq g.A.PackageSource a c.encode_limits.new.encoding) c.in_ok-encode_needs.ensures.same (search (rules, is)) in
    stops root
