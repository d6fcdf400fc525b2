-- The listed solvables are the choices of the trail, in its order.
use Rattle.std.proofs.Common.{◌≡◌, ◌<◌, Bool, drop, reverse, List, [], ◌∷◌, ◌++◌, length, Some, None, refl, sym, ◌∙◌, ap, subst, append_assoc, append-nil, arith}
use Rattle.std.specs.Prelude.{slice_get}
use Rattle.std.proofs.lemmas.List.{reverse-reverse}
use Rattle.std.proofs.lemmas.List.Elements.{filter_map-append}
use Rattle.std.proofs.lemmas.List.Sums.{fold-append}
use Rattle.std.proofs.lemmas.Option.{slice_get_within}
use Rattle.indexmap.specs.IndexSet.{insert_key, insert_all}
use Rattle.resolvo_store_core.specs.AtMostOne.{IsPrefixOf}
use Rattle.resolvo_store_core.specs.declared.decision.Entry.{Entry}
use Rattle.resolvo_sat.specs.Entries.{made_true}
use Rattle.resolvo_sat.specs.State.{count_of, history, clauses_of}
use Rattle.resolvo_sat.specs.RuleClauses.{IsExact}
use Rattle.resolvo_state.specs.Chosen.{AreChosen, choice_of, choices}
use Rattle.resolvo_state.specs.SolverState.{IsCoding}
use Rattle.resolvo_state.specs.Keys.{AreOnce, IsPlace}
use Rattle.resolvo_state.proofs.ChosenLemmas.{choices_chosen}
use Rattle.resolvo_state.proofs.Choices.{choices_once, choices_kept}
use Rattle.resolvo_state.proofs.KeyLemmas.{pushed_is}
use Rattle.resolvo_state.proofs.Origins.{count_is}
use Rattle.resolvo_state.proofs.Positions.{get_in_prefix, get_last}
use Rattle.resolvo_encoder.specs.declared.encoder.Encoder.{Encoder}
use Rattle.resolvo_encoder.specs.Base.{base_of}
use Rattle.resolvo_turn.specs.Turn.{in_turn}
use Rattle.resolvo_turn.proofs.TakenLemmas.{none_before, turn_part}
use Rattle.resolvo.specs.Turns.{on_trail}
use Rattle.resolvo.specs.SoftTurns.{KeepsTrail}

-- ---- insertion into a list

-- a value after others in a list without repeats is not among these
fresh : {X : Type 0} (keys : List X) (x : X) (xs : List X) → AreOnce (keys ++ x ∷ xs) → IsPlace keys x None
fresh keys x xs once k at =
    let low : k < length keys = slice_get_within keys k x at in
    let here : slice_get ((keys ++ x ∷ []) ++ xs) (length keys) ≡ Some x = get_in_prefix (keys ++ x ∷ []) xs (length keys) x (get_last keys x) in
    let same : k ≡ length keys = once k (length keys) x (get_in_prefix keys (x ∷ xs) k x at) (subst (λ (ys : List _). slice_get ys (length keys) ≡ Some x) (append_assoc keys (x ∷ []) xs) here) in
    omega arith

-- one more value is inserted
pub inserted_more : {X : Type 0} (same : X → X → Bool) (keys members more before after : List X) (x : X) → more ≡ members ++ x ∷ [] → before ≡ insert_all same keys members → after ≡ insert_key same before x → after ≡ insert_all same keys more
inserted_more same keys members more before after x is so put = put ∙ ap (λ (ks : List _). insert_key same ks x) so ∙ sym (ap (insert_all same keys) is ∙ fold-append (insert_key same) keys members (x ∷ []))

module _ {X : Type 0} (same : X → X → Bool) (exact : IsExact same) where
  -- others are inserted at the end
  inserted_fresh : (keys xs : List X) → AreOnce (keys ++ xs) → insert_all same keys xs ≡ keys ++ xs
  inserted_fresh keys [] once = sym (append-nil keys)
  inserted_fresh keys (x ∷ xs) once =
      let one : insert_key same keys x ≡ keys ++ x ∷ [] = pushed_is same x keys (exact.one x) (fresh keys x xs once) in
      ap (λ (ks : List X). insert_all same ks xs) one ∙ inserted_fresh (keys ++ x ∷ []) xs (subst AreOnce (sym (append_assoc keys (x ∷ []) xs)) once) ∙ append_assoc keys (x ∷ []) xs

  -- a list without repeats, of the listed ones and then of these
  all_inserted : (keys xs all : List X) → AreOnce all → all ≡ keys ++ xs → insert_all same keys xs ≡ all
  all_inserted keys xs all once is = inserted_fresh keys xs (subst AreOnce is once) ∙ sym is

-- ---- the choices of the trail

module _ {N S : Type 0} where
  pub trail_chosen : (e : Encoder N S) → AreChosen e.coding.atoms.keys (made_true (history e.coding.search)) (on_trail e)
  trail_chosen e = subst (λ (es : List Entry). AreChosen e.coding.atoms.keys (made_true (history e.coding.search)) (choices e.coding.atoms.keys es)) (reverse-reverse e.coding.search.tracker.trail) (choices_chosen e.coding.atoms.keys (history e.coding.search))

  pub listed_are_chosen : (e : Encoder N S) (members : List S) → members ≡ on_trail e → AreChosen e.coding.atoms.keys (made_true (history e.coding.search)) members
  listed_are_chosen e members is = subst (λ (xs : List S). AreChosen e.coding.atoms.keys (made_true (history e.coding.search)) xs) (sym is) (trail_chosen e)

  -- each once
  pub trail_once : (e : Encoder N S) → IsCoding e.coding → AreOnce (on_trail e)
  trail_once e coding = subst (λ (es : List Entry). AreOnce (choices e.coding.atoms.keys es)) (reverse-reverse e.coding.search.tracker.trail) (choices_once e.coding.atoms.keys (count_of e.coding.search) (clauses_of e.coding.search) (history e.coding.search) coding.distinct coding.ready.state.trail)

  -- newer variables are on no earlier trail
  trail_kept : (a b : Encoder N S) → IsCoding a.coding → IsPrefixOf a.coding.atoms.keys b.coding.atoms.keys → choices b.coding.atoms.keys a.coding.search.tracker.trail ≡ on_trail a
  trail_kept a b coding prefix =
      let back : reverse (history a.coding.search) ≡ a.coding.search.tracker.trail = reverse-reverse a.coding.search.tracker.trail in
      ap (choices b.coding.atoms.keys) (sym back) ∙ choices_kept a.coding.atoms.keys b.coding.atoms.keys (count_of a.coding.search) (clauses_of a.coding.search) (history a.coding.search) coding.ready.state.trail (count_is a.coding coding) prefix ∙ ap (choices a.coding.atoms.keys) back

  -- an unchanged trail has the same choices
  pub trail_stays : (a b : Encoder N S) → IsCoding a.coding → KeepsTrail a b → history b.coding.search ≡ history a.coding.search → on_trail b ≡ on_trail a
  trail_stays a b coding keeps same =
      let one : b.coding.search.tracker.trail ≡ a.coding.search.tracker.trail = sym (reverse-reverse b.coding.search.tracker.trail) ∙ ap reverse same ∙ reverse-reverse a.coding.search.tracker.trail in
      ap (choices b.coding.atoms.keys) one ∙ trail_kept a b coding keeps.atoms

  -- after the choices before the turn come those of the turn
  turn_goes_on : (a b : Encoder N S) → IsCoding a.coding → IsPrefixOf a.coding.atoms.keys b.coding.atoms.keys → base_of b ≡ history a.coding.search → on_trail b ≡ on_trail a ++ in_turn b
  turn_goes_on a b coding prefix base =
      let atoms = b.coding.atoms.keys in
      let (p, is, whole, part) = turn_part b in
      let earlier : reverse (base_of b) ≡ a.coding.search.tracker.trail = ap reverse base ∙ reverse-reverse a.coding.search.tracker.trail in
      let trail : b.coding.search.tracker.trail ≡ a.coding.search.tracker.trail ++ reverse p = whole ∙ ap (λ (es : List Entry). es ++ reverse p) earlier in
      ap (choices atoms) trail ∙ filter_map-append (choice_of atoms) a.coding.search.tracker.trail (reverse p) ∙ ap (λ (xs : List S). xs ++ choices atoms (reverse p)) (trail_kept a b coding prefix) ∙ ap (λ (xs : List S). on_trail a ++ xs) (sym part)

  -- where the turn's choices are listed after those before it, the listed ones are the trail's
  pub listed_on_trail : (same : S → S → Bool) → IsExact same → (a b : Encoder N S) (old new : List S) → IsCoding a.coding → IsCoding b.coding → IsPrefixOf a.coding.atoms.keys b.coding.atoms.keys → base_of b ≡ history a.coding.search → old ≡ on_trail a → new ≡ insert_all same old (in_turn b) → new ≡ on_trail b
  listed_on_trail same exact a b old new coding after prefix base at listed =
      listed ∙ all_inserted same exact old (in_turn b) (on_trail b) (trail_once b after) (turn_goes_on a b coding prefix base ∙ ap (λ (xs : List S). xs ++ in_turn b) (sym at))

  -- so are those that are listed first, in the root's turn
  pub first_on_trail : (same : S → S → Bool) → IsExact same → (e : Encoder N S) (old new : List S) → IsCoding e.coding → e.coding.search.base_level ≡ 1 → old ≡ [] → new ≡ insert_all same old (in_turn e) → new ≡ on_trail e
  first_on_trail same exact e old new coding first none listed =
      let whole : in_turn e ≡ on_trail e = ap (λ (base : List Entry). choices e.coding.atoms.keys (drop (length base) e.coding.search.tracker.trail)) (none_before e coding first) in
      listed ∙ all_inserted same exact old (in_turn e) (on_trail e) (trail_once e coding) (sym whole ∙ ap (λ (xs : List S). xs ++ in_turn e) (sym none))
