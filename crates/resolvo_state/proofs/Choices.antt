-- The choices of a trail, in its order: none is there twice, and they stay first where the trail
-- grows.
use Rattle.std.proofs.Common.{◌≡◌, ℕ, zero, suc, ◌<◌, Bool, true, false, cond, List, [], ◌∷◌, ◌++◌, reverse, length, Option, Some, None, refl, sym, ◌∙◌, ap, subst, append-nil, arith}
use Rattle.std.specs.Prelude.{slice_get}
use Rattle.std.specs.List.{cons_option}
use Rattle.std.proofs.lemmas.Bool.{both_ways}
use Rattle.std.proofs.lemmas.List.{reverse-append, reverse-reverse}
use Rattle.std.proofs.lemmas.List.Elements.{filter_map-append}
use Rattle.resolvo_store_core.specs.AtMostOne.{IsPrefixOf}
use Rattle.resolvo_store_core.specs.Signed.{Signed, has}
use Rattle.resolvo_store_core.specs.declared.decision.Entry.{Entry}
use Rattle.resolvo_sat.specs.Entries.{literal_of, made_true, Follows, IsTrail, EndsWith}
use Rattle.resolvo_state.specs.declared.atom.ProofAtom.{ProofAtom}
use Rattle.resolvo_state.specs.declared.atom.ProofAtom.TheVariants.{Solvable}
use Rattle.resolvo_state.specs.Atoms.{solvable_in, solvable_of}
use Rattle.resolvo_state.specs.Chosen.{choice_of, choices}
use Rattle.resolvo_state.specs.Keys.{AreOnce}
use Rattle.resolvo_state.proofs.ChosenLemmas.{choices_chosen, choices_newest}
use Rattle.resolvo_state.proofs.Origins.{means_solvable, represents_solvable, one_variable}
use Rattle.resolvo_state.proofs.Positions.{prefix_get, get_below, get_contains, once_none, once_push}

-- an entry that chooses a solvable makes its variable true
choice_made : {S : Type 0} (b : Bool) (o : Option S) (s : S) → cond b o None ≡ Some s → (b ≡ true) × (o ≡ Some s)
choice_made true o s h = (refl, h)
choice_made false o s h = absurd cc

module _ {N S : Type 0} where
  -- a solvable of an entry that may follow was not chosen before
  once_then : (atoms : List (ProofAtom N S)) (count : ℕ) (clauses : List (List Signed)) (e : Entry) (older : List Entry) → AreOnce atoms → Follows count clauses e older → AreOnce (choices atoms (reverse older)) → AreOnce (choices atoms (reverse (e ∷ older)))
  once_then atoms count clauses e older once follows c = step (choice_of atoms e) refl
    where
      before : List S
      before = choices atoms (reverse older)

      is : (o : Option S) → choice_of atoms e ≡ o → choices atoms (reverse (e ∷ older)) ≡ before ++ cons_option o []
      is o h = choices_newest atoms e older ∙ ap (λ (p : Option S). before ++ cons_option p []) h

      fresh : (s : S) → choice_of atoms e ≡ Some s → (k : ℕ) → slice_get before k ≡ Some s → ⊥
      fresh s h k at =
          let (value, of) = choice_made e.decision.value (solvable_of atoms e.decision.variable.0) s h in
          let (l, known, means) = (choices_chosen atoms older).each s (get_contains before k s at) in
          let (positive, present) = means_solvable atoms l s means in
          let one : l.variable ≡ e.decision.variable = one_variable atoms l.variable e.decision.variable (Solvable s) once present (represents_solvable atoms e.decision.variable s of) in
          let sign : l.positive ≡ e.decision.value = positive ∙ sym value in
          let same : l ≡ literal_of e = λ i. record { variable = one i; positive = sign i } in
          both_ways (has (made_true older) (literal_of e)) follows.undecided.not_true (subst (λ (x : Signed). has (made_true older) x ≡ true) same known)

      step : (o : Option S) → choice_of atoms e ≡ o → AreOnce (choices atoms (reverse (e ∷ older)))
      step None h = subst AreOnce (sym (is None h ∙ append-nil before)) c
      step (Some s) h = subst AreOnce (sym (is (Some s) h)) (once_push before s c (fresh s h))

  -- no solvable is twice among the choices of a trail
  pub choices_once : (atoms : List (ProofAtom N S)) (count : ℕ) (clauses : List (List Signed)) (history : List Entry) → AreOnce atoms → IsTrail count clauses history → AreOnce (choices atoms (reverse history))
  choices_once atoms count clauses [] once t = once_none (choices atoms (reverse [])) refl
  choices_once atoms count clauses (e ∷ older) once (follows, t) = once_then atoms count clauses e older once follows (choices_once atoms count clauses older once t)

  -- appended atoms don't change the solvable of a variable
  solvable_kept : (atoms more : List (ProofAtom N S)) (n : ℕ) → n < suc (length atoms) → IsPrefixOf atoms more → solvable_of more n ≡ solvable_of atoms n
  solvable_kept atoms more zero low prefix = refl
  solvable_kept atoms more (suc k) low prefix = let (x, at) = get_below atoms k (omega arith) in ap solvable_in (prefix_get atoms more k x prefix at ∙ sym at)

  -- and the choices of a trail
  pub choices_kept : (atoms more : List (ProofAtom N S)) (count : ℕ) (clauses : List (List Signed)) (history : List Entry) → IsTrail count clauses history → count ≡ suc (length atoms) → IsPrefixOf atoms more → choices more (reverse history) ≡ choices atoms (reverse history)
  choices_kept atoms more count clauses [] t long prefix = refl
  choices_kept atoms more count clauses (e ∷ older) (follows, t) long prefix =
      let low : e.decision.variable.0 < count = follows.in_range in
      let here : choice_of more e ≡ choice_of atoms e = ap (λ (o : Option S). cond e.decision.value o None) (solvable_kept atoms more e.decision.variable.0 (omega arith) prefix) in
      choices_newest more e older ∙ ap (λ (xs : List S). xs ++ cons_option (choice_of more e) []) (choices_kept atoms more count clauses older t long prefix) ∙ ap (λ (o : Option S). choices atoms (reverse older) ++ cons_option o []) here ∙ sym (choices_newest atoms e older)
