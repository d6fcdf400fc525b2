use Rattle.std.proofs.Common.{◌≡◌, ◌+◌, ◌∷◌, ◌++◌, [], ◌∙◌, List, take, subst, sym, ap}
use Rattle.std.proofs.lemmas.List.{take_more, take_all}
use Rattle.resolvo_sat.specs.RuleClauses.{IsExact, Rule}
use Rattle.resolvo_packages.specs.declared.package_source.Offered.{Offered}
use Rattle.resolvo_encoder.specs.ClauseRules.{EncodesRules, match_rules}
use Rattle.resolvo_encoder.proofs.EncodesLemmas.{encodes_none, encodes_more}
use Rattle.resolvo_encoder.proofs.encoder.Encoder.encode_matches.Goals as goal

pub loop-one-init : goal.loop-one-init
loop-one-init g c =
    let exact : IsExact g.S.PartialEq.eq = record { one = g.met.S.Exact.exact; own = g.met.S.Eq.laws.refl } in
    encodes_none g.S.PartialEq.eq exact c.args.self.now c.requires

pub loop-one-preserved : goal.loop-one-preserved
loop-one-preserved g c =
    let exact : IsExact g.S.PartialEq.eq = record { one = g.met.S.Exact.exact; own = g.met.S.Eq.laws.refl } in
    let more : take (c.loop-one.one-index + 1) c.args.matching.now ≡ take c.loop-one.one-index c.args.matching.now ++ c.one-item.result ∷ [] =
    take_more c.args.matching.now c.loop-one.one-index c.one-item.result c.loop-one-test.true ∙ ap (λ (x : Offered _ _). take c.loop-one.one-index c.args.matching.now ++ x ∷ []) (sym c.one-item.is) in
    subst (λ (xs : List (Offered _ _)). EncodesRules g.S.PartialEq.eq (match_rules c.args.version_set xs) c.args.self.now c.encode_match.new.self) (sym more)
    (encodes_more g.S.PartialEq.eq exact (λ (x : Offered _ _). Rule.matches c.args.version_set x.solvable) (take c.loop-one.one-index c.args.matching.now) c.one-item.result c.args.self.now c.loop-one.self c.encode_match.new.self c.loop-one.invariant c.in_ok-encode_match.ensures.encodes)

pub returns-clause-encodes : goal.returns-clause-encodes
returns-clause-encodes g c = subst (λ (xs : List (Offered _ _)). EncodesRules g.S.PartialEq.eq (match_rules c.args.version_set xs) c.args.self.now c.loop-one.self) (take_all c.loop-one.one-index c.args.matching.now c.loop-one-test.false) c.loop-one.invariant
