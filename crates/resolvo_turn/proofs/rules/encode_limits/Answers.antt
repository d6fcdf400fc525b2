use Rattle.std.proofs.Common.{List, slice_index_or, take, sym, ◌∙◌, subst, refl, rules}
use Rattle.std.specs.Prelude.{Contains}
use Rattle.std.proofs.lemmas.List.{take_more, take_all}
use Rattle.std.proofs.lemmas.List.Elements.{Contains-get_or}
use Rattle.resolvo_pool_core.specs.declared.id.VersionSetId.{VersionSetId}
use Rattle.resolvo_pool_core.specs.declared.requirement.Requirement.TheVariants.{Single}
use Rattle.resolvo_pool_core.specs.RuleKeeping.{Rules, rules_for}
use Rattle.resolvo_sat.proofs.Lists.{contains_none}
use Rattle.resolvo_sat.specs.RuleClauses.{IsExact}
use Rattle.resolvo_encoder.specs.Encoded.{IsGuarded, IsLimitEncoded, rules_of}
use Rattle.resolvo_turn.specs.Encoder.{IsInOrder}
use Rattle.resolvo_turn.proofs.AddLemmas.{needs_none, needs_then, more_limited}
use Rattle.resolvo_turn.specs.LacksIds.{StopsAnyhow}
use Rattle.resolvo_turn.proofs.rules.encode_limits.Goals as goal

pub loop-version_set-init : goal.loop-version_set-init
loop-version_set-init g c = record { same = refl; encoded = λ root e limited. (e, λ v h. absurd (contains_none v h)); kept = needs_none c.args.encoding.now; built = c.requires }

pub loop-version_set-preserved : goal.loop-version_set-preserved
loop-version_set-preserved g c =
    let same = g.A.SolvableId.PartialEq.eq in
    let exact : IsExact same = record { one = g.met.A.SolvableId.Exact.exact; own = g.met.A.SolvableId.Eq.laws.refl } in
    let p = g.A.PackageSource.packages c.args.answers.now in
    let blank : VersionSetId = record { 0 = 0 } in
    let item : VersionSetId = slice_index_or c.args.constraints.now c.loop-version_set.version_set-index blank in
    let before = c.loop-version_set.invariant in
    let new = c.encode_limit.new.encoding in
    let ensured = subst (λ (a : g.row.A.Denot). (root : Rules) → IsInOrder same (g.A.PackageSource.packages a) (g.A.PackageSource.orders a) root c.loop-version_set.encoding → Contains (rules_for same (g.A.PackageSource.packages a) root c.args.parent).constraints item
    → IsInOrder same (g.A.PackageSource.packages a) (g.A.PackageSource.orders a) root new × IsLimitEncoded same (g.A.PackageSource.packages a) (rules_of new) c.args.parent item × IsGuarded same (g.A.PackageSource.packages a) (rules_of new) (Single item)) before.same c.in_ok-encode_limit.ensures.encoded in
    record {
      same = c.in_ok-encode_limit.ensures.same ∙ before.same;
      encoded = λ root e limited. (
          let (middle, done) = before.encoded root e limited in
          let (last, limit, guard) = ensured root middle (limited item (Contains-get_or c.args.constraints.now c.loop-version_set.version_set-index blank c.loop-version_set-test.true)) in (
            last,
            λ v h. more_limited same exact p root c.loop-version_set.encoding new c.args.parent (take c.loop-version_set.version_set-index c.args.constraints.now) item c.in_ok-encode_limit.ensures.kept done (limit, guard) v
                (subst (λ (xs : List VersionSetId). Contains xs v) (take_more c.args.constraints.now c.loop-version_set.version_set-index blank c.loop-version_set-test.true) h),
          ));
      kept = needs_then c.args.encoding.now c.loop-version_set.encoding new before.kept c.in_ok-encode_limit.ensures.kept;
      built = c.in_ok-encode_limit.ensures.built;
    }

pub returns-clause-encoded : goal.returns-clause-encoded
returns-clause-encoded g c = λ root e limited.
    let (last, done) = c.loop-version_set.invariant.encoded root e limited in
    (last, λ v h. done v (subst (λ (xs : List VersionSetId). Contains xs v) (sym (take_all c.loop-version_set.version_set-index c.args.constraints.now c.loop-version_set-test.false)) h))

pub returns-in_err-encode_limit-clause-ids : goal.returns-in_err-encode_limit-clause-ids
returns-in_err-encode_limit-clause-ids g c = λ is. subst (λ (a : g.row.A.Denot). StopsAnyhow g.A.SolvableId.PartialEq.eq g.A.PackageSource a c.encode_limit.new.encoding) c.loop-version_set.invariant.same (search (rules, is))
