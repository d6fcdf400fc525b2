-- The states under a trail that grows and shrinks.
use Rattle.std.proofs.Common.{◌≡◌, ℕ, zero, suc, ◌≤◌, cond, Bool, true, false, List, [], ◌∷◌, ◌++◌, take, drop, Option, Some, None, refl, sym, ap, subst, arith, eqb-true}
use Rattle.std.specs.Prelude.{◌==◌, ◌||◌}
use Rattle.std.specs.Option.{option_map}
use Rattle.std.proofs.lemmas.Bool.{both_ways}
use Rattle.std.proofs.Math.Bool.{beq}
use Rattle.std.proofs.lemmas.List.{take-append-drop}
use Rattle.resolvo_store_core.specs.Signed.{Signed, value_under, is_true}
use Rattle.resolvo_store_core.specs.Trail.{assigned, assignment_of, value_in}
use Rattle.resolvo_store_core.specs.declared.decision.Entry.{Entry}
use Rattle.resolvo_store_core.specs.declared.decision_map.Assignment.{Assignment}
use Rattle.resolvo_decide.specs.Needs.{is_met}

-- a value stays where the trail grows
pub value_prefix : (xs ys : List Entry) (v : ℕ) (b : Bool) → value_in xs v ≡ Some b → value_in (xs ++ ys) v ≡ Some b
value_prefix [] ys v b h = cc
value_prefix (x ∷ xs) ys v b h = go (x.decision.variable.0 == v) h (value_prefix xs ys v b)
  where
    go : (c : Bool) → option_map (λ (a : Assignment). a.value) (cond c (Some (assignment_of x)) (assigned xs v)) ≡ Some b → (value_in xs v ≡ Some b → value_in (xs ++ ys) v ≡ Some b) → option_map (λ (a : Assignment). a.value) (cond c (Some (assignment_of x)) (assigned (xs ++ ys) v)) ≡ Some b
    go true h more = h
    go false h more = more h

pub value_take : (n : ℕ) (es : List Entry) (v : ℕ) (b : Bool) → value_in (take n es) v ≡ Some b → value_in es v ≡ Some b
value_take n es v b h = subst (λ (xs : List Entry). value_in xs v ≡ Some b) (take-append-drop n es) (value_prefix (take n es) (drop n es) v b h)

value_take_more : (n : ℕ) (xs ys : List Entry) (v : ℕ) (b : Bool) → value_in (take n xs) v ≡ Some b → value_in (take n (xs ++ ys)) v ≡ Some b
value_take_more zero [] ys v b h = h
value_take_more (suc n) [] ys v b h = cc
value_take_more zero (x ∷ xs) ys v b h = h
value_take_more (suc n) (x ∷ xs) ys v b h = go (x.decision.variable.0 == v) h (value_take_more n xs ys v b)
  where
    go : (c : Bool) → option_map (λ (a : Assignment). a.value) (cond c (Some (assignment_of x)) (assigned (take n xs) v)) ≡ Some b → (value_in (take n xs) v ≡ Some b → value_in (take n (xs ++ ys)) v ≡ Some b) → option_map (λ (a : Assignment). a.value) (cond c (Some (assignment_of x)) (assigned (take n (xs ++ ys)) v)) ≡ Some b
    go true h more = h
    go false h more = more h

-- a true literal stays true where values stay
true_stays : (l : Signed) (old new : Option Bool) → ((b : Bool) → old ≡ Some b → new ≡ Some b) → is_true (option_map (λ v. beq v l.positive) old) ≡ true → is_true (option_map (λ v. beq v l.positive) new) ≡ true
true_stays l None new stays h = cc
true_stays l (Some b) new stays h = subst (λ (o : Option Bool). is_true (option_map (λ v. beq v l.positive) o) ≡ true) (sym (stays b refl)) h

pub met_stays : (xs ys : List Entry) → ((v : ℕ) (b : Bool) → value_in xs v ≡ Some b → value_in ys v ≡ Some b) → (ls : List Signed) → is_met xs ls ≡ true → is_met ys ls ≡ true
met_stays xs ys stays [] h = h
met_stays xs ys stays (l ∷ ls) h = go (is_true (value_under (value_in xs) l)) refl h (met_stays xs ys stays ls)
  where
    go : (c : Bool) → is_true (value_under (value_in xs) l) ≡ c → c || is_met xs ls ≡ true → (is_met xs ls ≡ true → is_met ys ls ≡ true) → is_met ys (l ∷ ls) ≡ true
    go true is h more = ap (λ b. b || is_met ys ls) (true_stays l (value_in xs l.variable.0) (value_in ys l.variable.0) (stays l.variable.0) is)
    go false is h more = later (is_true (value_under (value_in ys) l)) (more h)
      where
        later : (d : Bool) → is_met ys ls ≡ true → d || is_met ys ls ≡ true
        later true m = refl
        later false m = m

pub met_take : (n : ℕ) (xs ys : List Entry) (ls : List Signed) → is_met (take n xs) ls ≡ true → is_met (take n (xs ++ ys)) ls ≡ true
met_take n xs ys ls = met_stays (take n xs) (take n (xs ++ ys)) (λ v b h. value_take_more n xs ys v b h) ls

pub met_whole : (n : ℕ) (es : List Entry) (ls : List Signed) → is_met (take n es) ls ≡ true → is_met es ls ≡ true
met_whole n es ls = met_stays (take n es) es (λ v b h. value_take n es v b h) ls

-- a prefix of a prefix
pub take_less : {X : Type 0} (n m : ℕ) (xs : List X) → n ≤ m → take n (take m xs) ≡ take n xs
take_less zero m xs h = refl
take_less (suc n) zero xs h = absurd (omega arith)
take_less (suc n) (suc m) [] h = refl
take_less (suc n) (suc m) (x ∷ xs) h = ap (λ ys. x ∷ ys) (take_less n m xs (omega arith))

-- a variable that isn't true isn't true in a prefix
pub idle_take : (n : ℕ) (es : List Entry) (v : ℕ) → is_true (value_in es v) ≡ false → is_true (value_in (take n es) v) ≡ false
idle_take n es v h = go (value_in (take n es) v) refl
  where
    go : (o : Option Bool) → value_in (take n es) v ≡ o → is_true o ≡ false
    go None is = refl
    go (Some false) is = refl
    go (Some true) is = absurd (both_ways (is_true (value_in es v)) h (ap is_true (value_take n es v true is)))

-- nor after an entry that doesn't make it true
pub idle_more : (es : List Entry) (e : Entry) (v : ℕ) → is_true (value_in es v) ≡ false → (e.decision.variable.0 ≡ v → e.decision.value ≡ false) → is_true (value_in (es ++ e ∷ []) v) ≡ false
idle_more [] e v h other = go (e.decision.variable.0 == v) refl
  where
    go : (c : Bool) → (e.decision.variable.0 == v) ≡ c → is_true (option_map (λ (a : Assignment). a.value) (cond c (Some (assignment_of e)) None)) ≡ false
    go true is = other (eqb-true e.decision.variable.0 v is)
    go false is = refl
idle_more (d ∷ es) e v h other = go (d.decision.variable.0 == v) h (λ k. idle_more es e v k other)
  where
    go : (c : Bool) → is_true (option_map (λ (a : Assignment). a.value) (cond c (Some (assignment_of d)) (assigned es v))) ≡ false → (is_true (value_in es v) ≡ false → is_true (value_in (es ++ e ∷ []) v) ≡ false) → is_true (option_map (λ (a : Assignment). a.value) (cond c (Some (assignment_of d)) (assigned (es ++ e ∷ []) v))) ≡ false
    go true h more = h
    go false h more = more h
