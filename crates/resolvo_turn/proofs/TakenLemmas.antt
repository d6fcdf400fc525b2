-- What a turn chooses, and what was chosen before it.
use Rattle.std.proofs.Common.{◌≡◌, ℕ, suc, ◌-◌, ◌+◌, ◌<◌, ◌≤◌, inl, inr, Bool, true, false, cond, le-ltb, List, [], ◌∷◌, ◌++◌, reverse, take, drop, length, Option, None, Some, refl, sym, ◌∙◌, ap, subst, arith}
use Rattle.std.specs.Prelude.{Contains}
use Rattle.std.proofs.Math.Seq.{drop-append_seam}
use Rattle.std.proofs.lemmas.Bool.{both_ways}
use Rattle.std.proofs.lemmas.List.{length-reverse, length-take-le, reverse-append, reverse-reverse}
use Rattle.resolvo_pool_core.specs.declared.id.VariableId.{VariableId}
use Rattle.resolvo_pool_core.specs.declared.solver_id.SolvableIdOrRoot.TheVariants as Place
use Rattle.resolvo_store_core.specs.Clauses.{yes}
use Rattle.resolvo_store_core.specs.Signed.{Signed, has}
use Rattle.resolvo_store_core.specs.AtMostOne.{IsPrefixOf}
use Rattle.resolvo_store_core.specs.declared.decision.Entry.{Entry}
use Rattle.resolvo_sat.specs.Entries.{before, made_true, IsRooted, IsTrail}
use Rattle.resolvo_sat.specs.State.{count_of, history, clauses_of}
use Rattle.resolvo_sat.proofs.ExtendLemmas.{made_true-append}
use Rattle.resolvo_sat.proofs.Literals.{has-append, has_right}
use Rattle.resolvo_sat.proofs.Trails.{known_in_range}
use Rattle.resolvo_state.specs.declared.atom.ProofAtom.TheVariants.{Solvable}
use Rattle.resolvo_state.specs.declared.solver_state.SolverState.{SolverState}
use Rattle.resolvo_state.specs.Atoms.{Represents}
use Rattle.resolvo_state.specs.Chosen.{AreChosen, choices}
use Rattle.resolvo_state.specs.SolverState.{IsCoding}
use Rattle.resolvo_state.proofs.ChosenLemmas.{choices_chosen}
use Rattle.resolvo_state.proofs.Origins.{count_is, means_solvable, represents_more, represents_other, represents_same, represents_some}
use Rattle.resolvo_encoder.specs.declared.encoder.Encoder.{Encoder}
use Rattle.resolvo_encoder.specs.Base.{base_of, below, HasTurn, IsTaken, KeepsTurn}
use Rattle.resolvo_encoder.specs.Steps.{AddsParent, IsBuilt}
use Rattle.resolvo_encoder.proofs.Bases.{below_choice, below_ends}
use Rattle.resolvo_turn.specs.Encoder.{AddsParents}
use Rattle.resolvo_turn.specs.Turn.{AddsChosen, AreTakenParents, in_turn}
use Rattle.resolvo_turn.proofs.AddLemmas.{parents_coding}
use Rattle.resolvo_turn.proofs.EndLemmas.{contains_longer}

-- ---- the walk back to the turn's first entry

-- an entry of the turn isn't below its level
pub below_passes : (level : ℕ) (h : List Entry) (e : Entry) (older : List Entry) → h ≡ e ∷ older → level ≤ e.level → below level h ≡ below level older
below_passes level h e older is high = ap (below level) is ∙ ap (λ (b : Bool). cond b (e ∷ older) (below level older)) (le-ltb e.level level high)

-- ---- the turn's entries

-- the trail's oldest entry is of the first level
oldest : (h : List Entry) → IsRooted h → (q : List Entry) × (e : Entry) × (h ≡ q ++ e ∷ []) × (e.level ≡ 1)
oldest [] r = absurd r
oldest (e ∷ []) r = ([], e, refl, r.1)
oldest (e ∷ d ∷ older) r = let (q, x, is, one) = oldest (d ∷ older) r in (e ∷ q, x, ap (λ (xs : List Entry). e ∷ xs) is, one)

module _ {N S : Type 0} where
  -- no entry is before the root's turn
  pub none_before : (e : Encoder N S) → IsCoding e.coding → e.coding.search.base_level ≡ 1 → base_of e ≡ []
  none_before e coding first =
      let state = coding.ready.state in
      let (q, x, is, one) = oldest (history e.coding.search) state.rooted in
      ap (λ (n : ℕ). below n (history e.coding.search)) first ∙ ap (below 1) is
      ∙ below_choice (count_of e.coding.search) (clauses_of e.coding.search) 1 q x [] (subst (λ (h : List Entry). IsTrail (count_of e.coding.search) (clauses_of e.coding.search) h) is state.trail) (omega arith) (omega arith)

  -- the trail is what was there before the turn, and the turn's entries
  pub turn_part : (e : Encoder N S) → (p : List Entry) × (history e.coding.search ≡ p ++ base_of e) × (e.coding.search.tracker.trail ≡ reverse (base_of e) ++ reverse p) × (in_turn e ≡ choices e.coding.atoms.keys (reverse p))
  turn_part e =
      let base : List Entry = base_of e in
      let trail : List Entry = e.coding.search.tracker.trail in
      let (p, is) = below_ends e.coding.search.base_level (history e.coding.search) in
      let whole : trail ≡ reverse base ++ reverse p = sym (reverse-reverse trail) ∙ ap reverse is ∙ reverse-append p base in
      let rest : drop (length base) trail ≡ reverse p = ap (drop (length base)) whole ∙ ap (λ (n : ℕ). drop n (reverse base ++ reverse p)) (sym (length-reverse base)) ∙ drop-append_seam (reverse base) (reverse p) in
      (p, is, whole, ap (choices e.coding.atoms.keys) rest)

  -- the turn's entries are those from its first place on
  pub turn_choices : (e : Encoder N S) (place : ℕ) → place ≤ length e.coding.search.tracker.trail → base_of e ≡ before e.coding.search.tracker.trail place → choices e.coding.atoms.keys (drop place e.coding.search.tracker.trail) ≡ in_turn e
  turn_choices e place within base =
      let trail : List Entry = e.coding.search.tracker.trail in
      let long : length (base_of e) ≡ place = ap length base ∙ length-reverse (take place trail) ∙ length-take-le place trail within in
      ap (λ (n : ℕ). choices e.coding.atoms.keys (drop n trail)) (sym long)

  -- ---- what was true before the turn

  -- it was true in an earlier encoding with the same entries before the turn
  taken_before : (a b : Encoder N S) → IsCoding a.coding → IsPrefixOf a.coding.atoms.keys b.coding.atoms.keys → base_of b ≡ base_of a → (s : S) → IsTaken b s → IsTaken a s
  taken_before a b coding prefix base s (u, represents, truth) =
      let known : has (made_true (base_of a)) (yes u) ≡ true = subst (λ (h : List Entry). has (made_true h) (yes u) ≡ true) base truth in
      let (p, whole, trail, part) = turn_part a in
      let later : has (made_true (history a.coding.search)) (yes u) ≡ true = subst (λ (h : List Entry). has (made_true h) (yes u) ≡ true) (sym whole) (subst (λ (ls : List Signed). has ls (yes u) ≡ true) (sym (made_true-append p (base_of a))) (has_right (made_true p) (made_true (base_of a)) (yes u) known)) in
      let range : u.0 < count_of a.coding.search = known_in_range (count_of a.coding.search) (clauses_of a.coding.search) (history a.coding.search) (yes u) coding.ready.state.trail later in
      let count : count_of a.coding.search ≡ suc (length a.coding.atoms.keys) = count_is a.coding coding in
      let (k, x, place, at) = represents_some a.coding.atoms.keys u.0 (represents_other b.coding.atoms.keys u (Solvable s) represents) (omega arith) in
      let is : x ≡ Solvable s = represents_same b.coding.atoms.keys u x (Solvable s) (represents_more a.coding.atoms.keys b.coding.atoms.keys u x prefix (k, place, at)) represents in
      (u, subst (λ y. Represents a.coding.atoms.keys u y) is (k, place, at), known)

  -- nothing, before the root's turn
  pub first_taken : (e : Encoder N S) → IsCoding e.coding → e.coding.search.base_level ≡ 1 → AreTakenParents e
  first_taken e coding first s (u, represents, truth) = absurd (both_ways false refl (subst (λ (h : List Entry). has (made_true h) (yes u) ≡ true) (none_before e coding first) truth))

  -- it stays among the parents through the turn
  pub taken_kept : (soft : Option VariableId) (a b : Encoder N S) → IsBuilt a → IsBuilt b → HasTurn soft a → KeepsTurn soft a b → AddsParents a b → AreTakenParents a → AreTakenParents b
  taken_kept None a b built after turn keeps adds taken = first_taken b after.coding (keeps turn)
  taken_kept (Some v) a b built after turn keeps adds taken = λ s h. contains_longer a.parents.keys b.parents.keys (Place.Solvable s) adds.parents (taken s (taken_before a b built.coding adds.grows.atoms (keeps turn).1 s h))

  -- where the turn's choices are parents, all that is chosen is
  pub turn_added : (a b : Encoder N S) → AddsParent a b → AreTakenParents a → ((s : S) → Contains (in_turn a) s → Contains b.parents.keys (Place.Solvable s)) → AddsChosen a b
  turn_added a b added taken among = record { added = added; chosen = chosen }
    where
      each : (l : Signed) (s : S) → has (made_true (history a.coding.search)) l ≡ true → (l.positive ≡ true) × Represents a.coding.atoms.keys l.variable (Solvable s) → ((p : List Entry) → in_turn a ≡ choices a.coding.atoms.keys (reverse p) → has (made_true p) l ≡ true → Contains (in_turn a) s)
          → Contains b.parents.keys (Place.Solvable s)
      each l s known (positive, present) own =
          let (p, whole, trail, part) = turn_part a in
          elim (has-append (made_true p) (made_true (base_of a)) l (subst (λ (ls : List Signed). has ls l ≡ true) (ap made_true whole ∙ made_true-append p (base_of a)) known)) [
            | inl now ↦ among s (own p part now)
            | inr earlier ↦ contains_longer a.parents.keys b.parents.keys (Place.Solvable s) added.prefix (taken s (l.variable, present, subst (λ (x : Signed). has (made_true (base_of a)) x ≡ true) (λ i. record { variable = l.variable; positive = positive i }) earlier))
          ]

      chosen : (members : List S) → AreChosen b.coding.atoms.keys (made_true (history b.coding.search)) members → (s : S) → Contains members s → Contains b.parents.keys (Place.Solvable s)
      chosen members others s h =
          let (l, known, means) = (subst (λ (x : SolverState N S). AreChosen x.atoms.keys (made_true (history x.search)) members) (parents_coding a b added) others).each s h in
          each l s known (means_solvable a.coding.atoms.keys l s means) (λ p part now. subst (λ (xs : List S). Contains xs s) (sym part) ((choices_chosen a.coding.atoms.keys p).all l s now means))
