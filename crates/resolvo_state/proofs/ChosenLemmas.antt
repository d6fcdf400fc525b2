-- The chosen solvables, entry by entry, and in the order of the entries.
use Rattle.std.proofs.Common.{◌≡◌, ℕ, ◌+◌, ◌<◌, ◌≤◌, inl, inr, Bool, true, false, cond, List, [], ◌∷◌, ◌++◌, length, reverse, take, get_or, Option, Some, None, refl, sym, ◌∙◌, ap, subst, append-nil}
use Rattle.std.specs.Prelude.{Contains}
use Rattle.std.specs.List.{cons_option}
use Rattle.std.proofs.lemmas.Bool.{both_ways}
use Rattle.std.proofs.lemmas.List.{reverse-append, take_more, take_all}
use Rattle.std.proofs.lemmas.List.Elements.{filter_map-append}
use Rattle.resolvo_store_core.specs.Signed.{Signed}
use Rattle.resolvo_store_core.specs.declared.decision.Entry.{Entry}
use Rattle.resolvo_sat.specs.Entries.{literal_of, made_true}
use Rattle.resolvo_sat.proofs.Literals.{has-cons, has_here, has_later}
use Rattle.resolvo_sat.specs.RuleClauses.{Atom, plus}
use Rattle.resolvo_sat.specs.Numbered.{Means}
use Rattle.resolvo_sat.proofs.Lists.{contains_none, contains_one, contains_parts, contains_left, contains_right, contains_only}
use Rattle.resolvo_state.specs.declared.atom.ProofAtom.{ProofAtom}
use Rattle.resolvo_state.specs.declared.atom.ProofAtom.TheVariants.{Solvable}
use Rattle.resolvo_state.specs.Atoms.{origin, Represents, solvable_of}
use Rattle.resolvo_state.specs.Chosen.{AreChosen, choice_of, choices}
use Rattle.resolvo_state.proofs.Origins.{means_solvable, solvable_means, represents_same, represents_solvable, solvable_represents}

module _ {N S : Type 0} (atoms : List (ProofAtom N S)) where
  pub chosen_none : (chosen : List S) → chosen ≡ [] → AreChosen atoms [] chosen
  chosen_none chosen none = record {
    each = λ s h. absurd (contains_none s (subst (λ (xs : List S). Contains xs s) none h));
    all = λ l s h m. absurd (both_ways false refl h);
  }

  -- an entry that chooses no solvable
  pub chosen_skip : (e : Entry) (known : List Signed) (chosen : List S) → ((s : S) → Means (origin atoms) (literal_of e) (plus (Atom.solvable s)) → ⊥) → AreChosen atoms known chosen → AreChosen atoms (literal_of e ∷ known) chosen
  chosen_skip e known chosen none c = record {
    each = λ s h. (let (l, a, m) = c.each s h in (l, has_later (literal_of e) known l a, m));
    all = λ l s h m. elim (has-cons (literal_of e) known l h) [
      | inl i ↦ absurd (none s (subst (λ (x : Signed). Means (origin atoms) x (plus (Atom.solvable s))) (sym i) m))
      | inr a ↦ c.all l s a m
    ];
  }

  pub denies_none : (e : Entry) → e.decision.value ≡ false → (s : S) → Means (origin atoms) (literal_of e) (plus (Atom.solvable s)) → ⊥
  denies_none e value s m = both_ways e.decision.value value (means_solvable atoms (literal_of e) s m).0

  pub helper_none : (e : Entry) → solvable_of atoms e.decision.variable.0 ≡ None → (s : S) → Means (origin atoms) (literal_of e) (plus (Atom.solvable s)) → ⊥
  helper_none e none s m = let h = solvable_represents atoms e.decision.variable s (means_solvable atoms (literal_of e) s m).1 in absurd cc

  -- an entry that chooses a solvable
  pub chosen_more : (e : Entry) (known : List Signed) (chosen more : List S) (s : S) → e.decision.value ≡ true → solvable_of atoms e.decision.variable.0 ≡ Some s → more ≡ chosen ++ s ∷ [] → AreChosen atoms known chosen → AreChosen atoms (literal_of e ∷ known) more
  chosen_more e known chosen more s value is pushed c = record {
    each = λ t h. elim (contains_parts t chosen (s ∷ []) (subst (λ (xs : List S). Contains xs t) pushed h)) [
      | inl a ↦ let (l, b, m) = c.each t a in (l, has_later (literal_of e) known l b, m)
      | inr a ↦ (literal_of e, has_here (literal_of e) known (literal_of e) refl, solvable_means atoms (literal_of e) t value (subst (λ (x : S). Represents atoms e.decision.variable (Solvable x)) (sym (contains_one t s a)) present))
    ];
    all = λ l t h m. subst (λ (xs : List S). Contains xs t) (sym pushed) (elim (has-cons (literal_of e) known l h) [
      | inr a ↦ contains_left t chosen (s ∷ []) (c.all l t a m)
      | inl i ↦
          let there : Represents atoms e.decision.variable (Solvable t) = (means_solvable atoms (literal_of e) t (subst (λ (x : Signed). Means (origin atoms) x (plus (Atom.solvable t))) (sym i) m)).1 in
          let one = represents_same atoms e.decision.variable (Solvable s) (Solvable t) present there in
          let same : s ≡ t = cc in
          contains_right t chosen (s ∷ []) (subst (λ (x : S). Contains (s ∷ []) x) same (contains_only s))
    ]);
  }
    where
      present : Represents atoms e.decision.variable (Solvable s)
      present = represents_solvable atoms e.decision.variable s is

  -- which solvable an entry chooses
  pub denies_choice : (e : Entry) → e.decision.value ≡ false → choice_of atoms e ≡ None
  denies_choice e value = ap (λ b. cond b (solvable_of atoms e.decision.variable.0) None) value

  pub helper_choice : (e : Entry) → solvable_of atoms e.decision.variable.0 ≡ None → choice_of atoms e ≡ None
  helper_choice e of = ap (λ (o : Option S). cond e.decision.value o None) of ∙ both e.decision.value
    where
      both : (b : Bool) → cond b (let o : Option S = None in o) None ≡ None
      both true = refl
      both false = refl

  pub makes_choice : (e : Entry) (s : S) → e.decision.value ≡ true → solvable_of atoms e.decision.variable.0 ≡ Some s → choice_of atoms e ≡ Some s
  makes_choice e s value of = ap (λ b. cond b (solvable_of atoms e.decision.variable.0) None) value ∙ of

  -- the entry of the next place
  pub choices_more : (es : List Entry) (i : ℕ) (d : Entry) → i < length es → choices atoms (take (i + 1) es) ≡ choices atoms (take i es) ++ cons_option (choice_of atoms (get_or es i d)) []
  choices_more es i d below = ap (choices atoms) (take_more es i d below) ∙ filter_map-append (choice_of atoms) (take i es) (get_or es i d ∷ [])

  pub choices_skip : (es : List Entry) (i : ℕ) (d : Entry) (chosen : List S) → i < length es → choice_of atoms (get_or es i d) ≡ None → chosen ≡ choices atoms (take i es) → chosen ≡ choices atoms (take (i + 1) es)
  choices_skip es i d chosen below none h =
      h ∙ sym (choices_more es i d below ∙ ap (λ (o : Option S). choices atoms (take i es) ++ cons_option o []) none ∙ append-nil (choices atoms (take i es)))

  pub choices_next : (es : List Entry) (i : ℕ) (d : Entry) (chosen more : List S) (s : S) → i < length es → choice_of atoms (get_or es i d) ≡ Some s → more ≡ chosen ++ s ∷ [] → chosen ≡ choices atoms (take i es) → more ≡ choices atoms (take (i + 1) es)
  choices_next es i d chosen more s below some pushed h =
      pushed ∙ ap (λ (xs : List S). xs ++ s ∷ []) h ∙ sym (choices_more es i d below ∙ ap (λ (o : Option S). choices atoms (take i es) ++ cons_option o []) some)

  pub choices_all : (es trail : List Entry) (i : ℕ) (chosen : List S) → length es ≤ i → es ≡ trail → chosen ≡ choices atoms (take i es) → chosen ≡ choices atoms trail
  choices_all es trail i chosen long same h = h ∙ ap (choices atoms) (take_all i es long ∙ same)

  -- the newest entry's is the last
  pub choices_newest : (e : Entry) (older : List Entry) → choices atoms (reverse (e ∷ older)) ≡ choices atoms (reverse older) ++ cons_option (choice_of atoms e) []
  choices_newest e older = ap (choices atoms) (reverse-append (e ∷ []) older) ∙ filter_map-append (choice_of atoms) (reverse older) (e ∷ [])

  -- one entry more
  chosen_then : (e : Entry) (older : List Entry) → AreChosen atoms (made_true older) (choices atoms (reverse older)) → AreChosen atoms (made_true (e ∷ older)) (choices atoms (reverse (e ∷ older)))
  chosen_then e older c = step e.decision.value refl (solvable_of atoms e.decision.variable.0) refl
    where
      before : List S
      before = choices atoms (reverse older)

      is : (o : Option S) → choice_of atoms e ≡ o → choices atoms (reverse (e ∷ older)) ≡ before ++ cons_option o []
      is o h = choices_newest e older ∙ ap (λ (p : Option S). before ++ cons_option p []) h

      skip : ((s : S) → Means (origin atoms) (literal_of e) (plus (Atom.solvable s)) → ⊥) → choice_of atoms e ≡ None → AreChosen atoms (made_true (e ∷ older)) (choices atoms (reverse (e ∷ older)))
      skip none h = subst (AreChosen atoms (made_true (e ∷ older))) (sym (is None h ∙ append-nil before)) (chosen_skip e (made_true older) before none c)

      step : (b : Bool) → e.decision.value ≡ b → (o : Option S) → solvable_of atoms e.decision.variable.0 ≡ o → AreChosen atoms (made_true (e ∷ older)) (choices atoms (reverse (e ∷ older)))
      step false value o of = skip (denies_none e value) (denies_choice e value)
      step true value None of = skip (helper_none e of) (helper_choice e of)
      step true value (Some s) of = chosen_more e (made_true older) before (choices atoms (reverse (e ∷ older))) s value of (is (Some s) (makes_choice e s value of)) c

  -- the choices of a trail's entries, in their order, are those of its literals
  pub choices_chosen : (history : List Entry) → AreChosen atoms (made_true history) (choices atoms (reverse history))
  choices_chosen [] = chosen_none [] refl
  choices_chosen (e ∷ older) = chosen_then e older (choices_chosen older)
