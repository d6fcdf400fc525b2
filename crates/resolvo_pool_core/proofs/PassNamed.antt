-- One pass is the same under another name for each atom.
use Rattle.std.proofs.Common.{◌≡◌, Bool, true, false, List, [], ◌∷◌, Option, Some, refl, sym, ap, subst, ◌∙◌, cond}
use Rattle.std.specs.Prelude.{not, ◌&&◌, ◌||◌, is_none}
use Rattle.std.specs.List.{list_all}
use Rattle.std.specs.Bool.{beq}
use Rattle.resolvo_pool_core.specs.OnePass.Rest.{broken, last, more}
use Rattle.resolvo_pool_core.specs.OnePass.{Literal, Rest, negate, is_denied, same_literal, assign, deny, rest_of, without_false, reading, is_broken, learn, refutes, nothing, one_pass, AreNamed, AreNamedClauses}

module _ {A B : Type 0} (same_a : A → A → Bool) (same_b : B → B → Bool) (names : A → B → Type 0) (agree : (a b : A) (i j : B) → names a i → names b j → same_b i j ≡ same_a a b) where
  -- a name and its atom have one value
  pub record Alike (known : B → Option Bool) (values : A → Option Bool) : Type 0 where
    pub at : (a : A) (i : B) → names a i → known i ≡ values a

  assign_alike : (known : B → Option Bool) (values : A → Option Bool) (l : Literal B) (m : Literal A) → Alike known values → names m.atom l.atom → l.positive ≡ m.positive → Alike (assign same_b known l) (assign same_a values m)
  assign_alike known values l m alike g p = record {
    at = λ a i h.
        ap (λ b. cond b (Some l.positive) (known i)) (agree a m.atom i l.atom h g)
        ∙ (ap (λ q. cond (same_a a m.atom) (Some q) (known i)) p
        ∙ ap (λ k. cond (same_a a m.atom) (Some m.positive) k) (alike.at a i h));
  }

  deny_alike : (known : B → Option Bool) (values : A → Option Bool) (ls : List (Literal B)) (ms : List (Literal A)) → Alike known values → AreNamed names ms ls → Alike (deny same_b known ls) (deny same_a values ms)
  deny_alike known values [] [] alike n = alike
  deny_alike known values [] (m ∷ ms) alike n = absurd n
  deny_alike known values (l ∷ ls) [] alike n = absurd n
  deny_alike known values (l ∷ ls) (m ∷ ms) alike n =
      deny_alike (assign same_b known (negate l)) (assign same_a values (negate m)) ls ms (assign_alike known values (negate l) (negate m) alike n.0 (ap not n.1)) n.2

  denied_alike : (known : B → Option Bool) (values : A → Option Bool) → Alike known values → (l : Literal B) (m : Literal A) → names m.atom l.atom → l.positive ≡ m.positive → is_denied (known l.atom) l.positive ≡ is_denied (values m.atom) m.positive
  denied_alike known values alike l m g p = ap (λ k. is_denied k l.positive) (alike.at m.atom l.atom g) ∙ ap (λ q. is_denied (values m.atom) q) p

  kept_named : (b : Bool) (l : Literal B) (m : Literal A) (ls : List (Literal B)) (ms : List (Literal A)) → names m.atom l.atom → l.positive ≡ m.positive → AreNamed names ms ls → AreNamed names (cond (not b) (m ∷ ms) ms) (cond (not b) (l ∷ ls) ls)
  kept_named true l m ls ms g p n = n
  kept_named false l m ls ms g p n = (g, p, n)

  filter_named : (known : B → Option Bool) (values : A → Option Bool) → Alike known values → (ls : List (Literal B)) (ms : List (Literal A)) → AreNamed names ms ls → AreNamed names (without_false values ms) (without_false known ls)
  filter_named known values alike [] [] n = tt
  filter_named known values alike [] (m ∷ ms) n = absurd n
  filter_named known values alike (l ∷ ls) [] n = absurd n
  filter_named known values alike (l ∷ ls) (m ∷ ms) n =
      subst (λ (b : Bool). AreNamed names (without_false values (m ∷ ms)) (cond (not b) (l ∷ without_false known ls) (without_false known ls))) (sym (denied_alike known values alike l m n.0 n.1))
      (kept_named (is_denied (values m.atom) m.positive) l m (without_false known ls) (without_false values ms) n.0 n.1 (filter_named known values alike ls ms n.2))

  same_alike : (l : Literal B) (m : Literal A) → names m.atom l.atom → l.positive ≡ m.positive → (ls : List (Literal B)) (ms : List (Literal A)) → AreNamed names ms ls → list_all (same_literal same_b l) ls ≡ list_all (same_literal same_a m) ms
  same_alike l m g p [] [] n = refl
  same_alike l m g p [] (y ∷ ms) n = absurd n
  same_alike l m g p (x ∷ ls) [] n = absurd n
  same_alike l m g p (x ∷ ls) (y ∷ ms) n =
      let e : same_b l.atom x.atom ≡ same_a m.atom y.atom = agree m.atom y.atom l.atom x.atom g n.0 in
      let f : l.positive ≡ m.positive = p in
      let h : x.positive ≡ y.positive = n.1 in
      let r : list_all (same_literal same_b l) ls ≡ list_all (same_literal same_a m) ms = same_alike l m g p ls ms n.2 in
      ap (λ b. (b && beq l.positive x.positive) && list_all (same_literal same_b l) ls) e
      ∙ (ap (λ b. (same_a m.atom y.atom && beq b x.positive) && list_all (same_literal same_b l) ls) f
      ∙ (ap (λ b. (same_a m.atom y.atom && beq m.positive b) && list_all (same_literal same_b l) ls) h
      ∙ ap (λ b. (same_a m.atom y.atom && beq m.positive y.positive) && b) r))

  -- the remaining literals of both
  abbrev RestAlike : Rest B → Rest A → Type 0
  RestAlike broken broken = Unit {0}
  RestAlike (last l) (last m) = (names m.atom l.atom) × (l.positive ≡ m.positive)
  RestAlike more more = Unit {0}
  RestAlike r s = ⊥

  chosen : (b : Bool) (l : Literal B) (m : Literal A) → names m.atom l.atom → l.positive ≡ m.positive → RestAlike (cond b (last l) more) (cond b (last m) more)
  chosen true l m g p = (g, p)
  chosen false l m g p = tt

  rest_alike : (ls : List (Literal B)) (ms : List (Literal A)) → AreNamed names ms ls → RestAlike (rest_of same_b ls) (rest_of same_a ms)
  rest_alike [] [] n = tt
  rest_alike [] (m ∷ ms) n = absurd n
  rest_alike (l ∷ ls) [] n = absurd n
  rest_alike (l ∷ ls) (m ∷ ms) n =
      subst (λ (b : Bool). RestAlike (cond b (last l) more) (rest_of same_a (m ∷ ms))) (sym (same_alike l m n.0 n.1 ls ms n.2))
      (chosen (list_all (same_literal same_a m) ms) l m n.0 n.1)

  broken_alike : (r : Rest B) (s : Rest A) → RestAlike r s → is_broken r ≡ is_broken s
  broken_alike broken broken h = refl
  broken_alike (last l) (last m) h = refl
  broken_alike more more h = refl
  broken_alike broken (last m) h = absurd h
  broken_alike broken more h = absurd h
  broken_alike (last l) broken h = absurd h
  broken_alike (last l) more h = absurd h
  broken_alike more broken h = absurd h
  broken_alike more (last m) h = absurd h

  picked : (b : Bool) (known other : B → Option Bool) (values others : A → Option Bool) → Alike known values → Alike other others → Alike (cond b known other) (cond b values others)
  picked true known other values others h k = h
  picked false known other values others h k = k

  learn_alike : (known : B → Option Bool) (values : A → Option Bool) → Alike known values → (r : Rest B) (s : Rest A) → RestAlike r s → Alike (learn same_b known r) (learn same_a values s)
  learn_alike known values alike broken broken h = alike
  learn_alike known values alike (last l) (last m) h =
      subst (λ (b : Bool). Alike (cond b (assign same_b known l) known) (learn same_a values (last m))) (sym (ap is_none (alike.at m.atom l.atom h.0)))
      (picked (is_none (values m.atom)) (assign same_b known l) known (assign same_a values m) values (assign_alike known values l m alike h.0 h.1) alike)
  learn_alike known values alike more more h = alike
  learn_alike known values alike broken (last m) h = absurd h
  learn_alike known values alike broken more h = absurd h
  learn_alike known values alike (last l) broken h = absurd h
  learn_alike known values alike (last l) more h = absurd h
  learn_alike known values alike more broken h = absurd h
  learn_alike known values alike more (last m) h = absurd h

  refutes_alike : (known : B → Option Bool) (values : A → Option Bool) → Alike known values → (cs : List (List (Literal B))) (ds : List (List (Literal A))) → AreNamedClauses names ds cs → refutes same_b known cs ≡ refutes same_a values ds
  refutes_alike known values alike [] [] n = refl
  refutes_alike known values alike [] (d ∷ ds) n = absurd n
  refutes_alike known values alike (c ∷ cs) [] n = absurd n
  refutes_alike known values alike (c ∷ cs) (d ∷ ds) n =
      let r = rest_alike (without_false known c) (without_false values d) (filter_named known values alike c d n.0) in
      ap (λ b. b || refutes same_b (learn same_b known (reading same_b known c)) cs) (broken_alike (reading same_b known c) (reading same_a values d) r)
      ∙ ap (λ b. is_broken (reading same_a values d) || b) (refutes_alike (learn same_b known (reading same_b known c)) (learn same_a values (reading same_a values d)) (learn_alike known values alike (reading same_b known c) (reading same_a values d) r) cs ds n.1)

  -- one pass over names is one pass over atoms
  pub one_pass_alike : (ls : List (Literal B)) (ms : List (Literal A)) (cs : List (List (Literal B))) (ds : List (List (Literal A))) → AreNamed names ms ls → AreNamedClauses names ds cs → one_pass same_b ls cs ≡ one_pass same_a ms ds
  one_pass_alike ls ms cs ds n k = refutes_alike (deny same_b nothing ls) (deny same_a nothing ms) (deny_alike nothing nothing ls ms (record { at = λ a i h. refl }) n) cs ds k
