use Rattle.std.proofs.Common.{◌≡◌, ◌==◌, true, refl, sym, ◌∙◌, ap, eqb-true}
use Rattle.resolvo_pool_core.specs.declared.id.VersionSetId.{VersionSetId}
use Rattle.resolvo_sat.specs.RuleClauses.{IsExact}
use Rattle.resolvo_encoder.proofs.MatchLemmas.{holds_known, holds_new}
use Rattle.resolvo_encoder.proofs.Parents.{any_is_in, prefix_contains}
use Rattle.resolvo_encoder.proofs.encoder.Encoder.hold_matches.Goals as goal

pub returns-then-contains-clause-held : goal.returns-then-contains-clause-held
returns-then-contains-clause-held g c =
    let exact : IsExact g.S.PartialEq.eq = record { one = g.met.S.Exact.exact; own = g.met.S.Eq.laws.refl } in
    holds_known g.S.PartialEq.eq exact c.args.version_set c.args.matching.now c.args.self.now c.requires
    (any_is_in (λ (v w : VersionSetId). v.0 == w.0) c.args.self.now.recorded.matches.keys c.args.version_set (λ y e. same_set y e) (sym c.contains.ensures ∙ c.if-contains.true))
  where
    same_set : (y : VersionSetId) → (c.args.version_set.0 == y.0) ≡ true → y ≡ c.args.version_set
    same_set y e = sym (ap (λ n. let v : VersionSetId = record { 0 = n } in v) (eqb-true c.args.version_set.0 y.0 e))

pub returns-clause-held : goal.returns-clause-held
returns-clause-held g c =
    let exact : IsExact g.S.PartialEq.eq = record { one = g.met.S.Exact.exact; own = g.met.S.Eq.laws.refl } in
    holds_new g.S.PartialEq.eq exact c.args.version_set c.args.matching.now c.args.self.now c.encode_matches.new.self _ c.in_ok-encode_matches.ensures.encodes
    (λ w h. prefix_contains _ _ w c.in_ok-add_key.ensures.prefix h) c.in_ok-add_key.ensures.only (c.in_ok-add_key.ensures.present (λ y e. same_set y e)) refl
  where
    same_set : (y : VersionSetId) → (c.args.version_set.0 == y.0) ≡ true → y ≡ c.args.version_set
    same_set y e = sym (ap (λ n. let v : VersionSetId = record { 0 = n } in v) (eqb-true c.args.version_set.0 y.0 e))
