use Rattle.std.proofs.Common.{◌≡◌, ◌∷◌, ◌++◌, inl, inr, ℕ, [], List, Option, Some, None, take, get_or, sym, ◌∙◌, ap, subst, refl}
use Rattle.std.specs.Prelude.{Contains}
use Rattle.std.proofs.lemmas.List.{take_more, take_all}
use Rattle.resolvo_sat.proofs.Lists.{contains_left, contains_none, contains_one, contains_only, contains_parts, contains_right}
use Rattle.resolve_answer.specs.ReportTurns.{Solved, AreWanted, Wants}
use Rattle.resolve_answer.proofs.turns.wanted_steps.Goals as goal

-- the turn's step is wanted besides
wants_more : (before : List Solved) (t : Solved) (step : Option ℕ) (old new : List ℕ) → t.step ≡ step → Wants step old new → AreWanted before old → AreWanted (before ++ t ∷ []) new
wants_more before t None old new none is are = subst (λ (xs : List ℕ). AreWanted (before ++ t ∷ []) xs) (sym is) (record {
  each = λ u k h e. elim (contains_parts u before (t ∷ []) h) [
    | inl earlier ↦ are.each u k earlier e
    | inr now ↦ absurd (let no_step : None ≡ Some k = sym none ∙ (ap (λ (x : Solved). x.step) (sym (contains_one u t now)) ∙ e) in cc)
  ];
  only = λ k h. (let (u, there, e) = are.only k h in (u, contains_left u before (t ∷ []) there, e));
})
wants_more before t (Some j) old new some is are = subst (λ (xs : List ℕ). AreWanted (before ++ t ∷ []) xs) (sym is) (record {
  each = λ u k h e. elim (contains_parts u before (t ∷ []) h) [
    | inl earlier ↦ contains_left k old (j ∷ []) (are.each u k earlier e)
    | inr now ↦ contains_right k old (j ∷ []) (subst (λ (o : Option ℕ). Contains (one_of o) k) (sym e ∙ (ap (λ (x : Solved). x.step) (contains_one u t now) ∙ some)) (contains_only k))
  ];
  only = λ k h. elim (contains_parts k old (j ∷ []) h) [
    | inl earlier ↦ (let (u, there, e) = are.only k earlier in (u, contains_left u before (t ∷ []) there, e))
    | inr now ↦ (t, contains_right t before (t ∷ []) (contains_only t), some ∙ ap Some (sym (contains_one k j now)))
  ];
})
  where
    one_of : Option ℕ → List ℕ
    one_of None = []
    one_of (Some i) = i ∷ []

pub loop-turn-init : goal.loop-turn-init
loop-turn-init c = record { are = record { each = λ t k h e. absurd (contains_none t h); only = λ k h. absurd (contains_none k (subst (λ (ks : List ℕ). Contains ks k) c.new-wanted.ensures.items h)) } }

pub loop-turn-preserved : goal.loop-turn-preserved
loop-turn-preserved c =
    let xs = c.args.turns.now in
    let i = c.loop-turn.turn-index in
    record { are = subst (λ (ts : List Solved). AreWanted ts c.want.new.wanted.items) (sym (take_more xs i _ c.loop-turn-test.true)) (wants_more (take i xs) (get_or xs i _) (get_or xs i _).step c.loop-turn.wanted.items c.want.new.wanted.items refl c.in_ok-want.ensures.steps c.loop-turn.invariant.are) }

pub returns-clause-steps : goal.returns-clause-steps
returns-clause-steps c = subst (λ (ts : List Solved). AreWanted ts c.loop-turn.wanted.items) (take_all c.loop-turn.turn-index c.args.turns.now c.loop-turn-test.false) c.loop-turn.invariant.are
