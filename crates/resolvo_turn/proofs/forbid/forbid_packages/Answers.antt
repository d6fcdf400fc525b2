use Rattle.std.proofs.Common.{◌≡◌, ◌+◌, ◌∷◌, ◌++◌, [], inl, inr, List, take, sym, ◌∙◌, ap, subst, refl, rules}
use Rattle.std.specs.Prelude.{Contains}
use Rattle.std.proofs.lemmas.List.{take_more, take_all}
use Rattle.resolvo_pool_core.specs.RuleKeeping.{Rules}
use Rattle.resolvo_sat.proofs.Lists.{contains_none, contains_parts, contains_one}
use Rattle.resolvo_sat.specs.RuleClauses.{IsForbiddenIn, IsForbidden}
use Rattle.resolvo_state.proofs.Growth.{forbid_grows}
use Rattle.resolvo_encoder.specs.Encoded.{rules_of, IsMarkKnown}
use Rattle.resolvo_turn.specs.Encoder.{IsInOrder}
use Rattle.resolvo_turn.proofs.AddLemmas.{needs_none, needs_then}
use Rattle.resolvo_turn.specs.LacksIds.{StopsAnyhow}
use Rattle.resolvo_turn.proofs.forbid.forbid_packages.Goals as goal

pub loop-name-init : goal.loop-name-init
loop-name-init g c = record { same = refl; encoded = λ root e. (e, (λ name s h forbidden. absurd (contains_none name h)), λ name h. absurd (contains_none name h)); marks = λ n h. h; kept = needs_none c.args.encoding.now; fired = refl; built = c.requires }

pub loop-name-preserved : goal.loop-name-preserved
loop-name-preserved g c =
    let same = g.A.SolvableId.PartialEq.eq in
    let p = g.A.PackageSource.packages c.args.answers.now in
    let before = c.loop-name.invariant in
    let new = c.forbid_package.new.encoding in
    let more : take (c.loop-name.name-index + 1) c.args.names.now ≡ take c.loop-name.name-index c.args.names.now ++ c.name-item.result ∷ [] =
    take_more c.args.names.now c.loop-name.name-index c.name-item.result c.loop-name-test.true ∙ ap (λ x. take c.loop-name.name-index c.args.names.now ++ x ∷ []) (sym c.name-item.is) in
    let ensured = subst (λ (a : g.row.A.Denot). (root : Rules) → IsInOrder same (g.A.PackageSource.packages a) (g.A.PackageSource.orders a) root c.loop-name.encoding → IsInOrder same (g.A.PackageSource.packages a) (g.A.PackageSource.orders a) root new × ((s : g.row.A-SolvableId.Denot) → IsForbiddenIn same (g.A.PackageSource.packages a) c.name-item.result s → IsForbidden (rules_of new) s) × IsMarkKnown same (g.A.PackageSource.packages a) new c.name-item.result)
    before.same c.in_ok-forbid_package.ensures.encoded in
    record {
      same = c.in_ok-forbid_package.ensures.same ∙ before.same;
      encoded = λ root e. (
          let (middle, done, known) = before.encoded root e in
          let (last, now, mark) = ensured root middle in (
            last,
            (λ name s h forbidden. elim (contains_parts name (take c.loop-name.name-index c.args.names.now) (c.name-item.result ∷ []) (subst (λ (xs : List _). Contains xs name) more h)) [
              | inl a ↦ forbid_grows c.loop-name.encoding.coding new.coding c.in_ok-forbid_package.ensures.kept.grows s (done name s a forbidden)
              | inr a ↦ now s (subst (λ m. IsForbiddenIn same p m s) (contains_one name c.name-item.result a) forbidden)
            ]),
            λ name h. elim (contains_parts name (take c.loop-name.name-index c.args.names.now) (c.name-item.result ∷ []) (subst (λ (xs : List _). Contains xs name) more h)) [
              | inl a ↦ λ m. c.in_ok-forbid_package.ensures.marks name (known name a m)
              | inr a ↦ subst (λ n. IsMarkKnown same p new n) (sym (contains_one name c.name-item.result a)) mark
            ],
          ));
      marks = λ n h. c.in_ok-forbid_package.ensures.marks n (before.marks n h);
      kept = needs_then c.args.encoding.now c.loop-name.encoding new before.kept c.in_ok-forbid_package.ensures.kept;
      fired = c.in_ok-forbid_package.ensures.fired ∙ before.fired;
      built = c.in_ok-forbid_package.ensures.built;
    }

pub returns-clause-encoded : goal.returns-clause-encoded
returns-clause-encoded g c = λ root e.
    let (last, done, known) = c.loop-name.invariant.encoded root e in
    let all = sym (take_all c.loop-name.name-index c.args.names.now c.loop-name-test.false) in
    (last, (λ name s h forbidden. done name s (subst (λ (xs : List _). Contains xs name) all h) forbidden), λ name h. known name (subst (λ (xs : List _). Contains xs name) all h))

pub returns-in_err-forbid_package-clause-ids : goal.returns-in_err-forbid_package-clause-ids
returns-in_err-forbid_package-clause-ids g c = λ is. subst (λ (a : g.row.A.Denot). StopsAnyhow g.A.SolvableId.PartialEq.eq g.A.PackageSource a c.forbid_package.new.encoding) c.loop-name.invariant.same (search (rules, is))
