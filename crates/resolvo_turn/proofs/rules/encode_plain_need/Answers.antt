use Rattle.std.proofs.Common.{[], ◌∙◌, subst, sym, rules}
use Rattle.resolvo_pool_core.specs.RuleKeeping.{Rules}
use Rattle.resolvo_sat.specs.SearchEnd.{IsNeedEncoded}
use Rattle.resolvo_encoder.specs.Encoded.{IsPrepared, rules_of}
use Rattle.resolvo_encoder.specs.Steps.{Needs}
use Rattle.resolvo_encoder.proofs.PickLemmas.{ordered_stays}
use Rattle.resolvo_turn.specs.Encoder.{IsInOrder}
use Rattle.resolvo_turn.proofs.AddLemmas.{needs_then, extends_needs}
use Rattle.resolvo_turn.specs.LacksIds.{StopsAnyhow, StopsNeed}
use Rattle.resolvo_turn.proofs.StopLemmas.{lacks_for}
use Rattle.resolvo_turn.proofs.rules.encode_plain_need.Goals as goal

pub returns-then-is_fixed-clause-encoded : goal.returns-then-is_fixed-clause-encoded
returns-then-is_fixed-clause-encoded g c = λ root e needs.
    let p = g.A.PackageSource.packages c.args.answers.now in
    let orders = g.A.PackageSource.orders c.args.answers.now in
    let again = c.in_ok-require_again.ensures in
    let (last, done) = again.encoded p root (g.met.A.PackageSource.lawful c.args.answers.now) e.encoding (sym c.is_fixed.ensures ∙ c.if-is_fixed.true) needs in
    (record { encoding = last; ordered = ordered_stays orders c.args.encoding.now c.require_again.new.self again.kept.grows again.lists e.ordered }, done)

pub returns-then-is_fixed-clause-kept : goal.returns-then-is_fixed-clause-kept
returns-then-is_fixed-clause-kept g c = extends_needs c.args.encoding.now c.require_again.new.self c.in_ok-require_again.ensures.kept

pub returns-in_err-require_again-clause-ids : goal.returns-in_err-require_again-clause-ids
returns-in_err-require_again-clause-ids g c = λ is root listed. lacks_for g.A.SolvableId.PartialEq.eq g.A.PackageSource c.args.answers.now root c.args.parent c.args.need c.require_again.new.self listed (search (rules, is))

pub returns-clause-encoded : goal.returns-clause-encoded
returns-clause-encoded g c = λ root e needs.
    let same = g.A.SolvableId.PartialEq.eq in
    let middle = c.forbid_named.new.encoding in
    let new = c.require.new.encoding in
    let (first, guarded) = c.in_ok-forbid_named.ensures.encoded root e in
    (subst (λ (a : g.row.A.Denot). (root : Rules) → IsInOrder same (g.A.PackageSource.packages a) (g.A.PackageSource.orders a) root middle → IsPrepared same (g.A.PackageSource.packages a) middle c.args.need.requirement → Needs same (g.A.PackageSource.packages a) root c.args.parent c.args.need
    → IsInOrder same (g.A.PackageSource.packages a) (g.A.PackageSource.orders a) root new × IsNeedEncoded same (g.A.PackageSource.packages a) (rules_of new) c.args.parent c.args.need []) c.in_ok-forbid_named.ensures.same c.in_ok-require.ensures.encoded) root first guarded needs

pub returns-clause-kept : goal.returns-clause-kept
returns-clause-kept g c = needs_then c.args.encoding.now c.forbid_named.new.encoding c.require.new.encoding c.in_ok-forbid_named.ensures.kept c.in_ok-require.ensures.kept

pub returns-in_err-forbid_named-clause-ids : goal.returns-in_err-forbid_named-clause-ids
returns-in_err-forbid_named-clause-ids g c = λ is root listed.
    let stops : StopsAnyhow g.A.SolvableId.PartialEq.eq g.A.PackageSource c.args.answers.now c.forbid_named.new.encoding = search (rules, is) in
    stops root

pub returns-in_err-require-clause-ids : goal.returns-in_err-require-clause-ids
returns-in_err-require-clause-ids g c = λ is. subst (λ (a : g.row.A.Denot). StopsNeed g.A.SolvableId.PartialEq.eq g.A.PackageSource a c.args.parent c.args.need c.require.new.encoding) c.in_ok-forbid_named.ensures.same (search (rules, is))
