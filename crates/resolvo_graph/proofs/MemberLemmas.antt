-- Members belong to profiles one by one, and share a number exactly if they are alike.
use Rattle.std.proofs.Common.{◌≡◌, ℕ, ◌+◌, Bool, true, false, cond, List, [], ◌∷◌, ◌++◌, All, length, map, filter, None, Some, refl, sym, ap, subst, ◌∙◌, arith}
use Rattle.std.specs.Prelude.{◌&&◌, ◌||◌, ◌==◌, not, nat_lt}
use Rattle.std.specs.List.{list_any, position_or_len, AllZip}
use Rattle.std.specs.Option.{option_or}
use Rattle.std.specs.Cmp.{IsEquivalence, and_equiv, on_equiv, nat_eq_equiv}
use Rattle.std.specs.Cmp.Lexicographic.{pointwise, lists_equiv, options_equiv}
use Rattle.std.proofs.lemmas.Bool.{false≢true}
use Rattle.std.proofs.lemmas.Bool.Decides.{nat_tests}
use Rattle.std.proofs.lemmas.List.{map-append}
use Rattle.std.proofs.lemmas.List.Folds.{list_any-append}
use Rattle.std.proofs.lemmas.List.Elements.{All-nil, All-cons, All-head, All-tail, All-push}
use Rattle.resolvo_pool_core.specs.declared.requirement.Requirement.{Requirement}
use Rattle.resolvo_pool_core.specs.declared.requirement.Requirement.TheVariants.{Single, Union}
use Rattle.resolvo_pool_core.specs.contracts.requirement.RequirementPartialEq.TheImpl as Requirements
use Rattle.resolvo_graph.specs.declared.merge.Likeness.{Likeness}
use Rattle.resolvo_graph.specs.declared.merge.Member.{Member}
use Rattle.resolvo_graph.specs.Merge.{Profile, alike, same_neighbour, numbered, group, AreMembers, together, group_among, group_in}
use Rattle.resolvo_graph.proofs.LinkLemmas.{or_true}

and_assoc : (a b c : Bool) → (a && (b && c)) ≡ ((a && b) && c)
and_assoc true b c = refl
and_assoc false b c = refl

module _ {K : Type 0} where
  -- two tests pass at one place first exactly if they agree
  same_place : (t u : K → Bool) (b : Bool) (ks : List K) → ((k : K) → t k ≡ true → u k ≡ true → b ≡ true) → (b ≡ true → (k : K) → t k ≡ u k) → list_any t ks ≡ true → list_any u ks ≡ true → (position_or_len t ks == position_or_len u ks) ≡ b
  same_place t u b [] meet agree one two = cc
  same_place t u b (k ∷ ks) meet agree one two = go (t k) (u k) refl refl one two (same_place t u b ks meet agree)
    where
      shifted : (m n : ℕ) → (1 + m == 1 + n) ≡ (m == n)
      shifted m n = grind (arith, nat_tests)

      first : (n : ℕ) → (0 == 1 + n) ≡ false
      first n = grind (arith, nat_tests)

      later : (m : ℕ) → (1 + m == 0) ≡ false
      later m = grind (arith, nat_tests)

      differ : (c : Bool) → b ≡ c → (b ≡ true → ⊥) → false ≡ b
      differ true e apart = absurd (apart e)
      differ false e apart = sym e

      go : (c d : Bool) → t k ≡ c → u k ≡ d → (c || list_any t ks) ≡ true → (d || list_any u ks) ≡ true → (list_any t ks ≡ true → list_any u ks ≡ true → (position_or_len t ks == position_or_len u ks) ≡ b) → (cond (not c) (1 + position_or_len t ks) 0 == cond (not d) (1 + position_or_len u ks) 0) ≡ b
      go true true e f g h below = sym (meet k e f)
      go true false e f g h below = first (position_or_len u ks) ∙ differ b refl (λ is. let same : true ≡ false = sym e ∙ agree is k ∙ f in cc)
      go false true e f g h below = later (position_or_len t ks) ∙ differ b refl (λ is. let same : false ≡ true = sym e ∙ agree is k ∙ f in cc)
      go false false e f g h below = shifted (position_or_len t ks) (position_or_len u ks) ∙ below g h

  place_stays : (t : K → Bool) (ks : List K) (k : K) → list_any t ks ≡ true → position_or_len t (ks ++ k ∷ []) ≡ position_or_len t ks
  place_stays t [] k h = cc
  place_stays t (x ∷ xs) k h = go (t x) h (place_stays t xs k)
    where
      go : (b : Bool) → (b || list_any t xs) ≡ true → (list_any t xs ≡ true → position_or_len t (xs ++ k ∷ []) ≡ position_or_len t xs) → cond (not b) (1 + position_or_len t (xs ++ k ∷ [])) 0 ≡ cond (not b) (1 + position_or_len t xs) 0
      go true h below = refl
      go false h below = ap (λ n. 1 + n) (below h)

  place_of_new : (t : K → Bool) (ks : List K) (k : K) → t k ≡ true → list_any t ks ≡ false → position_or_len t (ks ++ k ∷ []) ≡ position_or_len t ks
  place_of_new t [] k is none = ap (λ b. cond (not b) 1 0) is
  place_of_new t (x ∷ xs) k is none = go (t x) none (place_of_new t xs k is)
    where
      go : (b : Bool) → (b || list_any t xs) ≡ false → (list_any t xs ≡ false → position_or_len t (xs ++ k ∷ []) ≡ position_or_len t xs) → cond (not b) (1 + position_or_len t (xs ++ k ∷ [])) 0 ≡ cond (not b) (1 + position_or_len t xs) 0
      go true h below = cc
      go false h below = ap (λ n. 1 + n) (below h)

  -- a key keeps its place when one key more is inserted
  still_there : (t : K → Bool) (b : Bool) (ks now : List K) (k : K) → now ≡ cond b ks (ks ++ k ∷ []) → list_any t ks ≡ true → (list_any t now ≡ true) × (position_or_len t now ≡ position_or_len t ks)
  still_there t true ks now k put h = (ap (list_any t) put ∙ h, ap (position_or_len t) put)
  still_there t false ks now k put h =
      (ap (list_any t) put ∙ list_any-append t ks (k ∷ []) ∙ ap (λ c. c || list_any t (k ∷ [])) h, ap (position_or_len t) put ∙ place_stays t ks k h)

  there_now : (t : K → Bool) (ks now : List K) (k : K) → now ≡ cond (list_any t ks) ks (ks ++ k ∷ []) → t k ≡ true → (list_any t now ≡ true) × (position_or_len t now ≡ position_or_len t ks)
  there_now t ks now k put is = go (list_any t ks) refl put
    where
      go : (b : Bool) → list_any t ks ≡ b → now ≡ cond b ks (ks ++ k ∷ []) → (list_any t now ≡ true) × (position_or_len t now ≡ position_or_len t ks)
      go true e h = (ap (list_any t) h ∙ e, ap (position_or_len t) h)
      go false e h = (ap (list_any t) h ∙ list_any-append t ks (k ∷ []) ∙ ap (λ c. list_any t ks || (c || false)) is ∙ or_true (list_any t ks), ap (position_or_len t) h ∙ place_of_new t ks k is e)

requirements_equiv : IsEquivalence Requirements.ghosts.eq
requirements_equiv = record { refl = refl_at; symm = symm_at; congr = congr_at }
  where
    refl_at : (q : Requirement) → Requirements.ghosts.eq q q ≡ true
    refl_at (Single v) = nat_eq_equiv.refl v.0
    refl_at (Union v) = nat_eq_equiv.refl v.0

    symm_at : (q r : Requirement) → Requirements.ghosts.eq q r ≡ Requirements.ghosts.eq r q
    symm_at (Single v) (Single w) = nat_eq_equiv.symm v.0 w.0
    symm_at (Single v) (Union w) = refl
    symm_at (Union v) (Single w) = refl
    symm_at (Union v) (Union w) = nat_eq_equiv.symm v.0 w.0

    congr_at : (q r s : Requirement) → Requirements.ghosts.eq q r ≡ true → Requirements.ghosts.eq q s ≡ Requirements.ghosts.eq r s
    congr_at (Single v) (Single w) (Single u) h = nat_eq_equiv.congr v.0 w.0 u.0 h
    congr_at (Single v) (Single w) (Union u) h = refl
    congr_at (Single v) (Union w) s h = absurd (false≢true h)
    congr_at (Union v) (Single w) s h = absurd (false≢true h)
    congr_at (Union v) (Union w) (Single u) h = refl
    congr_at (Union v) (Union w) (Union u) h = nat_eq_equiv.congr v.0 w.0 u.0 h

neighbours_equiv : IsEquivalence same_neighbour
neighbours_equiv = and_equiv (on_equiv (λ x. x.0) (options_equiv requirements_equiv)) (on_equiv (λ x. x.1.0) nat_eq_equiv)

module _ {N S : Type 0} (eq : N → N → Bool) where
  -- the profile has this likeness
  abbrev pub like : Profile N S → Likeness N → Bool
  like p k = eq p.name k.name && (pointwise same_neighbour p.before k.before.items && pointwise same_neighbour p.after k.after.items)

  abbrev pub member_in : List (Likeness N) → Profile N S → Member S
  member_in ks p = record { solvable = p.solvable; group = position_or_len (like p) ks }

  abbrev pub IsThere : List (Likeness N) → Profile N S → Type 0
  IsThere ks p = list_any (like p) ks ≡ true

  abbrev pub with_likeness : Likeness N → S → Profile N S
  with_likeness k s = record { solvable = s; name = k.name; before = k.before.items; after = k.after.items }

  -- the profiles so far with their numbers, after one more
  pub members_more : (ks now : List (Likeness N)) (k : Likeness N) (p : Profile N S) (ps : List (Profile N S)) (ms more : List (Member S)) (g : ℕ) → now ≡ cond (list_any (like p) ks) ks (ks ++ k ∷ []) → like p k ≡ true → g ≡ position_or_len (like p) ks → more ≡ ms ++ record { solvable = p.solvable; group = g } ∷ [] → (ms ≡ map (member_in ks) ps) × All (IsThere ks) ps → (more ≡ map (member_in now) (ps ++ p ∷ [])) × All (IsThere now) (ps ++ p ∷ [])
  members_more ks now k p ps ms more g put is at push so =
      let new = there_now (like p) ks now k put is in
      let old = kept ps so.1 in (
        push ∙ ap (λ xs. xs ++ record { solvable = p.solvable; group = g } ∷ []) (so.0 ∙ old.0) ∙ ap (λ n. map (member_in now) ps ++ record { solvable = p.solvable; group = n } ∷ []) (at ∙ sym new.1) ∙ sym (map-append (member_in now) ps (p ∷ [])),
        All-push (IsThere now) ps p old.1 new.0,
      )
    where
      kept : (qs : List (Profile N S)) → All (IsThere ks) qs → (map (member_in ks) qs ≡ map (member_in now) qs) × All (IsThere now) qs
      kept [] h = (refl, All-nil (IsThere now))
      kept (q ∷ qs) h =
          let here = still_there (like q) (list_any (like p) ks) ks now k put (All-head (IsThere ks) q qs h) in
          let below = kept qs (All-tail (IsThere ks) q qs h) in
          (ap (λ n. record { solvable = q.solvable; group = n } ∷ map (member_in ks) qs) (sym here.1) ∙ ap (λ ms. member_in now q ∷ ms) below.0, All-cons (IsThere now) q qs here.0 below.1)

  -- the versions that are merged with each one, by the numbers
  pub group_among_is_group : (same : S → S → Bool) (ids : ℕ → List S) (all : List (Profile N S)) (every : List (Member S)) → ((g : ℕ) → ids g ≡ numbered every g) → (ps : List (Profile N S)) (ms : List (Member S)) → AllZip (λ p m. (m.solvable ≡ p.solvable) × (numbered every m.group ≡ group eq all p)) ps ms → (s : S) → group_among same ids ms s ≡ group_in eq same all ps s
  group_among_is_group same ids all every is [] [] h s = refl
  group_among_is_group same ids all every is [] (m ∷ ms) h s = absurd h
  group_among_is_group same ids all every is (p ∷ ps) [] h s = absurd h
  group_among_is_group same ids all every is (p ∷ ps) (m ∷ ms) h s =
      ap (λ o. option_or o (together same ids m s)) (group_among_is_group same ids all every is ps ms h.1 s)
      ∙ ap (λ v. option_or (group_in eq same all ps s) (cond (same v s && nat_lt 1 (length (ids m.group))) (Some (ids m.group)) None)) h.0.0
      ∙ ap (λ xs. option_or (group_in eq same all ps s) (cond (same p.solvable s && nat_lt 1 (length xs)) (Some xs) None)) (is m.group ∙ h.0.1)

  module _ (laws : IsEquivalence eq) where
    -- the likenesses of the profiles are equal
    both_like : Profile N S → Profile N S → Bool
    both_like p q = eq p.name q.name && (pointwise same_neighbour p.before q.before && pointwise same_neighbour p.after q.after)

    both_like_equiv : IsEquivalence both_like
    unfolding both_like
    both_like_equiv = and_equiv (on_equiv (λ p. p.name) laws) (and_equiv (on_equiv (λ p. p.before) (lists_equiv neighbours_equiv)) (on_equiv (λ p. p.after) (lists_equiv neighbours_equiv)))

    both_like-is : (p q : Profile N S) → both_like p q ≡ alike eq p q
    unfolding both_like
    both_like-is p q = and_assoc (eq p.name q.name) (pointwise same_neighbour p.before q.before) (pointwise same_neighbour p.after q.after)

    pub like_own : (k : Likeness N) (s : S) → like (with_likeness k s) k ≡ true
    unfolding both_like
    like_own k s = both_like_equiv.refl (with_likeness k s)

    same_number : (ks : List (Likeness N)) (p q : Profile N S) → IsThere ks p → IsThere ks q → (position_or_len (like q) ks == position_or_len (like p) ks) ≡ alike eq p q
    unfolding both_like
    same_number ks p q here there =
        same_place (like q) (like p) (both_like p q) ks
        (λ k of_q of_p. both_like_equiv.congr p (with_likeness k p.solvable) q of_p ∙ both_like_equiv.symm (with_likeness k p.solvable) q ∙ of_q)
        (λ is k. sym (both_like_equiv.congr p q (with_likeness k p.solvable) is)) there here
        ∙ both_like-is p q

    numbered_is : (ks : List (Likeness N)) (p : Profile N S) → IsThere ks p → (qs : List (Profile N S)) → All (IsThere ks) qs → numbered (map (member_in ks) qs) (position_or_len (like p) ks) ≡ group eq qs p
    numbered_is ks p here [] h = refl
    numbered_is ks p here (q ∷ qs) h =
        let rest = filter (λ m. m.group == position_or_len (like p) ks) (map (member_in ks) qs) in
        ap (λ b. map (λ m. m.solvable) (cond b (member_in ks q ∷ rest) rest)) (same_number ks p q here (All-head (IsThere ks) q qs h)) ∙ go (alike eq p q) rest (numbered_is ks p here qs (All-tail (IsThere ks) q qs h))
      where
        go : (b : Bool) (rest : List (Member S)) → map (λ m. m.solvable) rest ≡ group eq qs p → map (λ m. m.solvable) (cond b (member_in ks q ∷ rest) rest) ≡ map (λ r. r.solvable) (cond b (q ∷ filter (alike eq p) qs) (filter (alike eq p) qs))
        go true rest so = ap (λ xs. q.solvable ∷ xs) so
        go false rest so = so

    pub are_members : (ks : List (Likeness N)) (ps : List (Profile N S)) (ms : List (Member S)) → (ms ≡ map (member_in ks) ps) × All (IsThere ks) ps → AreMembers eq ps ms
    are_members ks ps ms so = subst (AreMembers eq ps) (sym so.0) (go ps so.1)
      where
        go : (qs : List (Profile N S)) → All (IsThere ks) qs → AllZip (λ p m. (m.solvable ≡ p.solvable) × (numbered (map (member_in ks) ps) m.group ≡ group eq ps p)) qs (map (member_in ks) qs)
        go [] h = tt
        go (q ∷ qs) h = ((refl, numbered_is ks q (All-head (IsThere ks) q qs h) ps so.1), go qs (All-tail (IsThere ks) q qs h))
