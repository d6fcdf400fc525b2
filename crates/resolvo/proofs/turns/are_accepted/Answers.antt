use Rattle.std.proofs.Common.{◌∷◌, [], inl, inr, List, take, get_or, sym, ◌∙◌, ap, subst}
use Rattle.std.specs.Prelude.{Contains}
use Rattle.std.proofs.lemmas.List.{take_more, take_all}
use Rattle.resolvo_sat.proofs.Lists.{contains_none, contains_one, contains_parts}
use Rattle.resolvo.specs.Turns.{AreAccepted}
use Rattle.resolvo.specs.declared.turns.Turn.{Turn}
use Rattle.resolvo.proofs.turns.are_accepted.Goals as goal

pub loop-turn-init : goal.loop-turn-init
loop-turn-init g c = λ t h. absurd (contains_none t h)

pub loop-turn-preserved : goal.loop-turn-preserved
loop-turn-preserved g c = λ t h.
    let xs = c.args.turns.now in
    let i = c.loop-turn.turn-index in
    let it = c.turn-item.result in
    elim (contains_parts t (take i xs) (get_or xs i it ∷ []) (subst (λ (ts : List (Turn g.row.S.Denot)). Contains ts t) (take_more xs i it c.loop-turn-test.true) h)) [
      | inl earlier ↦ c.loop-turn.invariant t earlier
      | inr now ↦ ap (λ (x : Turn g.row.S.Denot). x.accepted) (contains_one t (get_or xs i it) now ∙ sym c.turn-item.is) ∙ c.if-not-turn.false
    ]

pub returns : goal.returns
returns g c = λ yes. subst (λ (ts : List (Turn g.row.S.Denot)). AreAccepted ts) (take_all c.loop-turn.turn-index c.args.turns.now c.loop-turn-test.false) c.loop-turn.invariant
