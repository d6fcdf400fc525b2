-- The choices, turn by turn.
use Rattle.std.proofs.Common.{◌≡◌, ℕ, zero, suc, cond, get_or, ◌<◌, ◌≤◌, Bool, true, false, take, reverse, List, [], ◌∷◌, ◌++◌, length, refl, sym, ◌∙◌, ap, subst, arith}
use Rattle.std.specs.Prelude.{Contains}
use Rattle.std.proofs.lemmas.List.{take_all}
use Rattle.resolvo_pool_core.specs.RuleKeeping.{Packages, Rules, is_in, IsReached, IsExemptKeeping, IsRuleKeeping}
use Rattle.resolvo_store_core.specs.AtMostOne.{IsPrefixOf}
use Rattle.resolvo_sat.proofs.StepLemmas.{reverse_push}
use Rattle.resolvo_sat.specs.RuleClauses.{IsExact}
use Rattle.resolvo_sat.specs.SearchEnd.{IsAccepted}
use Rattle.resolvo_sat.proofs.Lists.{contains_left}
use Rattle.resolvo_sat.proofs.Members.{in_contained, contained_in}
use Rattle.resolvo_state.proofs.Positions.{prefix_long}
use Rattle.resolvo.specs.Solution.{IsSolution}
use Rattle.resolvo.specs.Turns.{AreRight, AreTurns, IsTurnOf, accepted_by, accepted_of, end_of}
use Rattle.resolvo.specs.declared.turns.Turn.{Turn}
use Rattle.resolvo.specs.declared.turns.Turns.{Turns}

-- an item is in its list
pub item_contained : {S : Type 0} (xs : List S) (i : ℕ) (x : S) → i < length xs → x ≡ get_or xs i x → Contains xs x
item_contained xs i x low is = (i, low, sym is)

-- ---- a soft requirement that is true already

module _ {N S : Type 0} (same : S → S → Bool) (exact : IsExact same) (p : Packages N S) (root : Rules) where
  -- it may be counted among the accepted ones
  pub accepted_more : (softs members : List S) (s : S) → IsAccepted same p root softs members → is_in same p members s ≡ true → IsAccepted same p root (softs ++ s ∷ []) members
  accepted_more softs members s h there = record { keeping = keeping; reached = reached; inside = inside }
    where
      wider : (t : S) → is_in same p softs t ≡ true → is_in same p (softs ++ s ∷ []) t ≡ true
      wider t a = contained_in same exact p (softs ++ s ∷ []) t (contains_left t softs (s ∷ []) (in_contained same exact p softs t a))

      keeping : IsExemptKeeping same p root (softs ++ s ∷ []) members
      keeping = record { single = h.keeping.single; obeys = h.keeping.obeys; exempt = λ t a forbidden. (let (wished, unnamed) = h.keeping.exempt t a forbidden in (wider t wished, unnamed)); known = h.keeping.known }

      reached : (t : S) → is_in same p members t ≡ true → IsReached same p root (softs ++ s ∷ []) members t
      reached t a = λ part closed. h.reached t a part (record { inside = closed.inside; wished = λ u b c. closed.wished u (wider u b) c; matches = closed.matches })

      inside : (t : S) → IsReached same p root (softs ++ s ∷ []) members t → is_in same p members t ≡ true
      inside t a = a members (record { inside = λ u b. b; wished = λ u b c. c; matches = λ parent need u a b c d e. e })

-- ---- one more turn

take_part : {X : Type 0} (n : ℕ) (xs more : List X) → n ≤ length xs → take n (xs ++ more) ≡ take n xs
take_part zero xs more low = refl
take_part (suc n) [] more low = absurd (omega arith)
take_part (suc n) (x ∷ xs) more low = ap (λ ys. x ∷ ys) (take_part n xs more (omega arith))

-- the first items are kept
take_prefix : {X : Type 0} (n : ℕ) (xs ys : List X) → n ≤ length xs → IsPrefixOf xs ys → take n ys ≡ take n xs
take_prefix n xs ys low (more, is) = ap (take n) is ∙ take_part n xs more low

-- and the accepted soft requirements are those of the turns
pub accepted_next : {S : Type 0} (t : Turn S) (earlier : List (Turn S)) (s : S) → t.accepted ≡ true → t.solvable ≡ s → accepted_of (t ∷ earlier) ≡ accepted_of earlier ++ s ∷ []
accepted_next t earlier s so is = ap (λ b. cond b (accepted_of earlier ++ t.solvable ∷ []) (accepted_of earlier)) so ∙ ap (λ x. accepted_of earlier ++ x ∷ []) is

pub refused_next : {S : Type 0} (t : Turn S) (earlier : List (Turn S)) → t.accepted ≡ false → accepted_of (t ∷ earlier) ≡ accepted_of earlier
refused_next t earlier so = ap (λ b. cond b (accepted_of earlier ++ t.solvable ∷ []) (accepted_of earlier)) so

module _ {N S : Type 0} (same : S → S → Bool) (p : Packages N S) (root : Rules) where
  -- earlier turns are still right
  turn_stays : (xs ys accepted : List S) (w : S) (t : Turn S) → IsPrefixOf xs ys → IsTurnOf same p root xs accepted w t → IsTurnOf same p root ys accepted w t
  turn_stays xs ys accepted w t prefix h =
      let low : t.end ≤ length xs = h.within in
      let long : length xs ≤ length ys = prefix_long xs ys prefix in
      let begin : t.begin ≤ t.end = h.grows in
      let ends : take t.end ys ≡ take t.end xs = take_prefix t.end xs ys low prefix in
      let begins : take t.begin ys ≡ take t.begin xs = take_prefix t.begin xs ys (omega arith) prefix in
      record {
        solvable = h.solvable;
        grows = h.grows;
        within = omega arith;
        ended = subst (λ zs. IsAccepted same p root (accepted_by accepted t) zs) (sym ends) h.ended;
        decided = h.decided ∙ ap (λ zs. is_in same p zs w) (sym ends);
        still = h.still;
        refused = λ so set keeping all held. h.refused so set keeping (λ s a. all s (subst (λ zs. is_in same p zs s ≡ true) (sym begins) a)) held;
      }

  turns_stay : (xs ys : List S) (first : ℕ) (ws : List S) (ts : List (Turn S)) → IsPrefixOf xs ys → AreTurns same p root xs first ws ts → AreTurns same p root ys first ws ts
  turns_stay xs ys first [] [] prefix h = tt
  turns_stay xs ys first [] (t ∷ ts) prefix h = absurd h
  turns_stay xs ys first (w ∷ ws) [] prefix h = absurd h
  turns_stay xs ys first (w ∷ ws) (t ∷ ts) prefix (begin, one, rest) = (begin, turn_stays xs ys (accepted_of ts) w t prefix one, turns_stay xs ys first ws ts prefix rest)

  -- one more turn is right
  pub next_right : (first : ℕ) (done : List S) (s : S) (t u : Turns S) (turn : Turn S) → AreRight same p root first done t → IsPrefixOf t.chosen.keys u.chosen.keys → u.turns.items ≡ t.turns.items ++ turn ∷ []
      → turn.begin ≡ length t.chosen.keys → turn.end ≡ length u.chosen.keys → turn.solvable ≡ s → IsAccepted same p root (accepted_of (turn ∷ reverse t.turns.items)) u.chosen.keys → turn.accepted ≡ is_in same p u.chosen.keys s → (turn.accepted ≡ false → turn.end ≡ turn.begin)
      → (turn.accepted ≡ false → (set : List S) → IsRuleKeeping same p root set → ((r : S) → is_in same p t.chosen.keys r ≡ true → is_in same p set r ≡ true) → is_in same p set s ≡ true → ⊥)
      → AreRight same p root first (done ++ s ∷ []) u
  next_right first done s t u turn right prefix pushed begin end_ solvable accepted decided still refused =
      let turns : reverse u.turns.items ≡ turn ∷ reverse t.turns.items = ap reverse pushed ∙ reverse_push t.turns.items turn in
      let long : length t.chosen.keys ≤ length u.chosen.keys = prefix_long t.chosen.keys u.chosen.keys prefix in
      let low : first ≤ length t.chosen.keys = right.wished.within in
      let before : end_of first (reverse t.turns.items) ≡ length t.chosen.keys = right.wished.whole in
      let ends : take turn.end u.chosen.keys ≡ u.chosen.keys = take_all turn.end u.chosen.keys (omega arith) in
      let begins : take turn.begin u.chosen.keys ≡ t.chosen.keys = take_prefix turn.begin t.chosen.keys u.chosen.keys (omega arith) prefix ∙ take_all turn.begin t.chosen.keys (omega arith) in
      let one : IsTurnOf same p root u.chosen.keys (accepted_of (reverse t.turns.items)) s turn = record {
        solvable = solvable;
        grows = omega arith;
        within = omega arith;
        ended = subst (λ zs. IsAccepted same p root (accepted_of (turn ∷ reverse t.turns.items)) zs) (sym ends) accepted;
        decided = decided ∙ ap (λ zs. is_in same p zs s) (sym ends);
        still = still;
        refused = λ so set keeping all held. refused so set keeping (λ r a. all r (subst (λ zs. is_in same p zs r ≡ true) (sym begins) a)) held;
      } in
      record {
        wished = record {
          solution = subst (λ zs. IsSolution same p root zs) (sym (take_prefix first t.chosen.keys u.chosen.keys low prefix)) right.wished.solution;
          within = omega arith;
          turns = subst (λ ts. AreTurns same p root u.chosen.keys first (reverse (done ++ s ∷ [])) ts) (sym turns)
              (subst (λ ws. AreTurns same p root u.chosen.keys first ws (turn ∷ reverse t.turns.items)) (sym (reverse_push done s))
              (begin ∙ sym before, one, turns_stay t.chosen.keys u.chosen.keys first (reverse done) (reverse t.turns.items) prefix right.wished.turns));
          whole = ap (λ ts. end_of first ts) turns ∙ end_;
        };
        accepted = subst (λ ts. IsAccepted same p root (accepted_of ts) u.chosen.keys) (sym turns) accepted;
      }
