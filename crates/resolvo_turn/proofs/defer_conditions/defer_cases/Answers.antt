use Rattle.std.proofs.Common.{◌≡◌, ◌+◌, [], ◌∷◌, ◌++◌, List, Vec, Global, take, refl, sym, ◌∙◌, ap, subst}
use Rattle.std.specs.Prelude.{Contains}
use Rattle.std.proofs.lemmas.List.{take_more, take_all}
use Rattle.resolvo_pool_core.specs.declared.id.VersionSetId.{VersionSetId}
use Rattle.resolvo_pool_core.specs.RuleKeeping.{Rules, rules_for}
use Rattle.resolvo_store_core.specs.Cases.{cases_of}
use Rattle.resolvo_sat.specs.RuleClauses.{cases_for}
use Rattle.resolvo_sat.proofs.Lists.{contains_none}
use Rattle.resolvo_encoder.specs.Conditions.{IsDeferred}
use Rattle.resolvo_turn.specs.Encoder.{IsInOrder, AreDeferred}
use Rattle.resolvo_turn.proofs.AddLemmas.{needs_none, needs_then, more_deferred, cases_more, taken_case}
use Rattle.resolvo_turn.proofs.defer_conditions.defer_cases.Goals as goal

pub loop-case-init : goal.loop-case-init
loop-case-init g c = record { same = refl; encoded = λ root e listed among. (e, λ case h. absurd (contains_none case h)); kept = needs_none c.args.encoding.now; built = c.requires }

pub loop-case-preserved : goal.loop-case-preserved
loop-case-preserved g c =
    let same = g.A.SolvableId.PartialEq.eq in
    let before = c.loop-case.invariant in
    let old = c.loop-case.encoding in
    let new = c.defer_case.new.encoding in
    let xs = c.args.cases.now in
    let i = c.loop-case.case-index in
    let item = c.case-item.result in
    let more : take (i + 1) xs ≡ take i xs ++ item ∷ [] = take_more xs i item c.loop-case-test.true ∙ ap (λ x. take i xs ++ x ∷ []) (sym c.case-item.is) in
    let ensured = subst (λ (a : g.row.A.Denot). (root : Rules) → IsInOrder same (g.A.PackageSource.packages a) (g.A.PackageSource.orders a) root old → Contains (rules_for same (g.A.PackageSource.packages a) root c.args.parent).requirements c.args.need → Contains (cases_for same (g.A.PackageSource.packages a) c.args.need) c.as_slice.result.now
    → IsInOrder same (g.A.PackageSource.packages a) (g.A.PackageSource.orders a) root new × IsDeferred new c.args.parent c.args.need c.as_slice.result.now) before.same c.in_ok-defer_case.ensures.encoded in
    record {
      same = c.in_ok-defer_case.ensures.same ∙ before.same;
      encoded = λ root e listed among. (
          let (middle, waits) = before.encoded root e listed among in
          let inside : Contains (cases_of xs) c.as_slice.result.now = subst (λ (y : List VersionSetId). Contains (cases_of xs) y) (sym c.as_slice.ensures.value) (taken_case xs i item more) in
          let (last, one) = ensured root middle listed (among c.as_slice.result.now inside) in (
            last,
            subst (λ (ys : List (List VersionSetId)). AreDeferred new c.args.parent c.args.need ys) (sym (ap cases_of more ∙ cases_more (take i xs) item))
                (more_deferred old new c.args.parent c.args.need (cases_of (take i xs)) item.items c.in_ok-defer_case.ensures.kept waits (subst (λ (y : List VersionSetId). IsDeferred new c.args.parent c.args.need y) c.as_slice.ensures.value one)),
          ));
      kept = needs_then c.args.encoding.now old new before.kept c.in_ok-defer_case.ensures.kept;
      built = c.in_ok-defer_case.ensures.built;
    }

pub returns-clause-encoded : goal.returns-clause-encoded
returns-clause-encoded g c = λ root e listed among.
    let (last, waits) = c.loop-case.invariant.encoded root e listed among in
    (last, subst (λ (xs : List (Vec VersionSetId Global)). AreDeferred c.loop-case.encoding c.args.parent c.args.need (cases_of xs)) (take_all c.loop-case.case-index c.args.cases.now c.loop-case-test.false) waits)
