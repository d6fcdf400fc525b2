-- The turns of the soft requirements, from the first one on.
use Rattle.std.proofs.Common.{◌≡◌, ℕ, suc, Bool, reverse, List, [], ◌∷◌, ◌++◌, length, refl, sym, ◌∙◌, ap, subst, append_assoc, arith}
use Rattle.std.proofs.lemmas.List.{append-nil, length-reverse, reverse-append}
use Rattle.resolvo_pool_core.specs.RuleKeeping.{Packages, Rules}
use Rattle.resolvo.specs.declared.turns.Turn.{Turn}
use Rattle.resolvo.specs.Turns.{AreInTurn, AreTurns, AreSolvedByTurn, accepted_of, end_of}

reverse_shift : {X : Type 0} (x : X) (xs ys : List X) → reverse (x ∷ xs) ++ ys ≡ reverse xs ++ x ∷ ys
reverse_shift x xs ys = ap (λ zs. zs ++ ys) (reverse-append (x ∷ []) xs) ∙ append_assoc (reverse xs) (x ∷ []) ys

module _ {N S : Type 0} (same : S → S → Bool) (p : Packages N S) (root : Rules) (chosen : List S) (first : ℕ) where
  same_long : (ws : List S) (ts : List (Turn S)) → AreTurns same p root chosen first ws ts → length ws ≡ length ts
  same_long [] [] h = refl
  same_long [] (t ∷ ts) h = absurd h
  same_long (w ∷ ws) [] h = absurd h
  same_long (w ∷ ws) (t ∷ ts) (begin, one, rest) = ap suc (same_long ws ts rest)

  from_first : (ws before : List S) (ts earlier : List (Turn S)) → length ws ≡ length ts → AreTurns same p root chosen first (reverse ws ++ before) (reverse ts ++ earlier)
      → AreTurns same p root chosen first before earlier × AreInTurn same p root chosen (end_of first earlier) (accepted_of earlier) ws ts
  from_first [] before [] earlier long h = (h, tt)
  from_first [] before (t ∷ ts) earlier long h = absurd cc
  from_first (w ∷ ws) before [] earlier long h = absurd cc
  from_first (w ∷ ws) before (t ∷ ts) earlier long h =
      let shifted = subst (λ (xs : List S). AreTurns same p root chosen first xs (reverse ts ++ t ∷ earlier)) (reverse_shift w ws before) (subst (λ (xs : List (Turn S)). AreTurns same p root chosen first (reverse (w ∷ ws) ++ before) xs) (reverse_shift t ts earlier) h) in
      let ((begin, one, rest), later) = from_first ws (w ∷ before) ts (t ∷ earlier) (let x : suc (length ws) ≡ suc (length ts) = long in omega arith) shifted in
      (rest, (begin, one, later))

  -- there is a turn for each soft requirement
  pub one_each : (softs : List S) (turns : List (Turn S)) → AreSolvedByTurn same p root chosen first softs turns → length softs ≡ length turns
  one_each softs turns h = sym (length-reverse softs) ∙ same_long (reverse softs) (reverse turns) h.turns ∙ length-reverse turns

  -- the turns of the soft requirements are in their order
  pub turns_in_order : (softs : List S) (turns : List (Turn S)) → AreSolvedByTurn same p root chosen first softs turns → AreInTurn same p root chosen first [] softs turns
  turns_in_order softs turns h =
      let (none, all) = from_first softs [] turns [] (one_each softs turns h)
      (subst (λ (xs : List S). AreTurns same p root chosen first xs (reverse turns ++ [])) (sym (append-nil (reverse softs))) (subst (λ (xs : List (Turn S)). AreTurns same p root chosen first (reverse softs) xs) (sym (append-nil (reverse turns))) h.turns)) in
      all

-- the number of choices after these turns, and before them so many
abbrev pub end_after : {S : Type 0} → ℕ → List (Turn S) → ℕ
end_after n [] = n
end_after n (t ∷ later) = end_after t.end later

ends_after : {S : Type 0} (first : ℕ) (ts earlier : List (Turn S)) → end_of first (reverse ts ++ earlier) ≡ end_after (end_of first earlier) ts
ends_after first [] earlier = refl
ends_after {S} first (t ∷ ts) earlier = ap (λ (xs : List (Turn S)). end_of first xs) (reverse_shift t ts earlier) ∙ ends_after first ts (t ∷ earlier)

pub end_is : {S : Type 0} (first : ℕ) (ts : List (Turn S)) → end_of first (reverse ts) ≡ end_after first ts
end_is {S} first ts = ap (λ (xs : List (Turn S)). end_of first xs) (sym (append-nil (reverse ts))) ∙ ends_after first ts []
