use Rattle.std.proofs.Common.{◌≡◌, ◌+◌, ◌∷◌, ◌++◌, [], ◌∙◌, List, take, subst, sym, ap}
use Rattle.std.proofs.lemmas.List.{take_more, take_all}
use Rattle.resolvo_encoder.specs.declared.conditions.ConditionSet.{ConditionSet}
use Rattle.resolvo_turn.specs.Matches.{MatchesSets}
use Rattle.resolvo_turn.proofs.MatchSets.{sets_none, sets_more}
use Rattle.resolvo_turn.proofs.fire_conditions.encode_sets_matches.Goals as goal

pub loop-set-init : goal.loop-set-init
loop-set-init g c = sets_none g.S.PartialEq.eq [] c.args.encoding.now c.requires

pub encode_set_matches-requires : goal.encode_set_matches-requires
encode_set_matches-requires g c = c.loop-set.invariant.built

pub loop-set-preserved : goal.loop-set-preserved
loop-set-preserved g c =
    let more : take (c.loop-set.set-index + 1) c.args.sets.now ≡ take c.loop-set.set-index c.args.sets.now ++ c.set-item.result ∷ [] =
    take_more c.args.sets.now c.loop-set.set-index c.set-item.result c.loop-set-test.true ∙ ap (λ (x : ConditionSet _ _). take c.loop-set.set-index c.args.sets.now ++ x ∷ []) (sym c.set-item.is) in
    subst (λ (xs : List (ConditionSet _ _)). MatchesSets g.S.PartialEq.eq xs c.args.encoding.now c.encode_set_matches.new.encoding) (sym more)
    (sets_more g.S.PartialEq.eq (take c.loop-set.set-index c.args.sets.now) c.set-item.result c.args.encoding.now c.loop-set.encoding c.encode_set_matches.new.encoding c.loop-set.invariant c.in_ok-encode_set_matches.ensures.matches)

pub returns-clause-matches : goal.returns-clause-matches
returns-clause-matches g c = subst (λ (xs : List (ConditionSet _ _)). MatchesSets g.S.PartialEq.eq xs c.args.encoding.now c.loop-set.encoding) (take_all c.loop-set.set-index c.args.sets.now c.loop-set-test.false) c.loop-set.invariant
