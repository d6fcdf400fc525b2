use Rattle.std.proofs.Common.{List, None, slice_index_or, take, sym, ◌∙◌, subst, refl, rules}
use Rattle.std.specs.Prelude.{Contains}
use Rattle.std.proofs.lemmas.List.{take_more, take_all}
use Rattle.std.proofs.lemmas.List.Elements.{Contains-get_or}
use Rattle.resolvo_pool_core.specs.declared.requirement.ConditionalRequirement.{ConditionalRequirement}
use Rattle.resolvo_pool_core.specs.declared.requirement.Requirement.TheVariants.{Single}
use Rattle.resolvo_pool_core.specs.RuleKeeping.{Rules, rules_for}
use Rattle.resolvo_sat.proofs.Lists.{contains_none}
use Rattle.resolvo_sat.specs.RuleClauses.{IsExact}
use Rattle.resolvo_turn.specs.Encoder.{IsInOrder, IsConditionalEncoded}
use Rattle.resolvo_turn.proofs.AddLemmas.{needs_none, needs_then, more_encoded}
use Rattle.resolvo_turn.specs.LacksIds.{StopsOne}
use Rattle.resolvo_turn.proofs.rules.encode_needs.Goals as goal

pub loop-need-init : goal.loop-need-init
loop-need-init g c = record { same = refl; encoded = λ root e needs. (e, λ need h. absurd (contains_none need h)); kept = needs_none c.args.encoding.now; built = c.requires }

pub loop-need-preserved : goal.loop-need-preserved
loop-need-preserved g c =
    let same = g.A.SolvableId.PartialEq.eq in
    let exact : IsExact same = record { one = g.met.A.SolvableId.Exact.exact; own = g.met.A.SolvableId.Eq.laws.refl } in
    let p = g.A.PackageSource.packages c.args.answers.now in
    let blank : ConditionalRequirement = record { condition = None; requirement = Single (record { 0 = 0 }) } in
    let item : ConditionalRequirement = slice_index_or c.args.needs.now c.loop-need.need-index blank in
    let before = c.loop-need.invariant in
    let ensured = subst (λ (a : g.row.A.Denot). (root : Rules) → IsInOrder same (g.A.PackageSource.packages a) (g.A.PackageSource.orders a) root c.loop-need.encoding → Contains (rules_for same (g.A.PackageSource.packages a) root c.args.parent).requirements item
    → IsInOrder same (g.A.PackageSource.packages a) (g.A.PackageSource.orders a) root c.encode_need.new.encoding × IsConditionalEncoded same (g.A.PackageSource.packages a) c.encode_need.new.encoding c.args.parent item) before.same c.in_ok-encode_need.ensures.encoded in
    record {
      same = c.in_ok-encode_need.ensures.same ∙ before.same;
      encoded = λ root e needs. (
          let (middle, done) = before.encoded root e needs in
          let (last, one) = ensured root middle (needs item (Contains-get_or c.args.needs.now c.loop-need.need-index blank c.loop-need-test.true)) in (
            last,
            λ need h. more_encoded same exact p root c.loop-need.encoding c.encode_need.new.encoding c.args.parent (take c.loop-need.need-index c.args.needs.now) item c.in_ok-encode_need.ensures.kept done one need
                (subst (λ (xs : List ConditionalRequirement). Contains xs need) (take_more c.args.needs.now c.loop-need.need-index blank c.loop-need-test.true) h),
          ));
      kept = needs_then c.args.encoding.now c.loop-need.encoding c.encode_need.new.encoding before.kept c.in_ok-encode_need.ensures.kept;
      built = c.in_ok-encode_need.ensures.built;
    }

pub returns-clause-encoded : goal.returns-clause-encoded
returns-clause-encoded g c = λ root e needs.
    let (last, done) = c.loop-need.invariant.encoded root e needs in
    (last, λ need h. done need (subst (λ (xs : List ConditionalRequirement). Contains xs need) (sym (take_all c.loop-need.need-index c.args.needs.now c.loop-need-test.false)) h))

pub returns-in_err-encode_need-clause-ids : goal.returns-in_err-encode_need-clause-ids
returns-in_err-encode_need-clause-ids g c = λ is root e needs.
    let blank : ConditionalRequirement = record { condition = None; requirement = Single (record { 0 = 0 }) } in
    let item : ConditionalRequirement = slice_index_or c.args.needs.now c.loop-need.need-index blank in
    let stops = subst (λ (a : g.row.A.Denot). StopsOne g.A.SolvableId.PartialEq.eq g.A.PackageSource a c.args.parent item c.loop-need.encoding c.encode_need.new.encoding) c.loop-need.invariant.same (search (rules, is)) in
    stops root (c.loop-need.invariant.encoded root e needs).0 (needs item (Contains-get_or c.args.needs.now c.loop-need.need-index blank c.loop-need-test.true))
