use Rattle.std.proofs.Common.{[], ◌∷◌, List, subst}
use Rattle.resolvo_packages.specs.declared.package_source.Offered.{Offered}
use Rattle.resolvo_encoder.specs.AtLeastOneClauses.{HoldsMatches}
use Rattle.resolvo_turn.proofs.MatchSets.{sets_none, set_held}
use Rattle.resolvo_turn.proofs.fire_conditions.encode_set_matches.Goals as goal

pub returns-then-not-set-clause-matches : goal.returns-then-not-set-clause-matches
returns-then-not-set-clause-matches g c = sets_none g.S.PartialEq.eq (c.args.set.now ∷ []) c.args.encoding.now c.requires

pub returns-clause-matches : goal.returns-clause-matches
returns-clause-matches g c =
    set_held g.S.PartialEq.eq c.args.set.now c.args.encoding.now c.hold_matches.new.self c.if-not-set.false
    (subst (λ (xs : List (Offered _ _)). HoldsMatches g.S.PartialEq.eq c.args.set.now.version_set xs c.args.encoding.now c.hold_matches.new.self) c.as_slice.ensures.value c.in_ok-hold_matches.ensures.held)
