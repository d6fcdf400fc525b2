-- One more soft requirement: its turn is recorded, and its choices are listed.
use Rattle.std.proofs.Common.{◌≡◌, ℕ, zero, suc, ◌-◌, ◌<◌, ◌≤◌, ◌⊎◌, cond, inl, inr, Bool, true, false, take, reverse, List, [], ◌∷◌, ◌++◌, length, Option, Some, None, Vec, Global, refl, sym, ◌∙◌, ap, subst, arith}
use Rattle.std.specs.Prelude.{Contains}
use Rattle.std.proofs.lemmas.Bool.{both_ways, cases_Bool}
use Rattle.std.proofs.lemmas.List.{take_all}
use Rattle.indexmap.specs.IndexSet.{insert_all}
use Rattle.resolvo_pool_core.specs.Ordered.{Ordered}
use Rattle.resolvo_pool_core.specs.declared.id.ClauseId.{ClauseId}
use Rattle.resolvo_pool_core.specs.declared.id.VariableId.{VariableId}
use Rattle.resolvo_pool_core.specs.declared.requirement.Requirement.{Requirement}
use Rattle.resolvo_pool_core.specs.declared.solver_id.SolvableIdOrRoot.TheVariants as Place
use Rattle.resolvo_pool_core.specs.RuleKeeping.{Packages, Rules, IsLawful, is_in}
use Rattle.resolvo_store_core.specs.AtMostOne.{IsPrefixOf}
use Rattle.resolvo_store_core.specs.Clauses.{yes}
use Rattle.resolvo_store_core.specs.Signed.{Signed, has}
use Rattle.resolvo_sat.specs.declared.analyze.FinalConflict.{FinalConflict}
use Rattle.resolvo_sat.specs.Analysis.{IsRefusal}
use Rattle.resolvo_sat.specs.Entries.{made_true}
use Rattle.resolvo_sat.specs.State.{history}
use Rattle.resolvo_sat.proofs.StepLemmas.{reverse_push}
use Rattle.resolvo_sat.specs.RuleClauses.{IsExact}
use Rattle.resolvo_sat.specs.SearchEnd.{IsAccepted}
use Rattle.resolvo_sat.proofs.Lists.{contains_one, contains_parts}
use Rattle.resolvo_sat.proofs.Members.{in_contained, contained_in}
use Rattle.resolvo_state.specs.declared.atom.ProofAtom.TheVariants.{Solvable}
use Rattle.resolvo_state.specs.Chosen.{AreChosen}
use Rattle.resolvo_state.specs.SolverState.{IsCoding}
use Rattle.resolvo_state.specs.declared.solver_state.SolverState.{SolverState}
use Rattle.resolvo_state.specs.Kinds.{Learnt}
use Rattle.resolvo_state.proofs.Origins.{means_solvable, solvable_means, represents_more}
use Rattle.resolvo_encoder.specs.declared.encoder.Encoder.{Encoder}
use Rattle.resolvo_encoder.specs.Base.{base_of}
use Rattle.resolvo_encoder.proofs.TurnLemmas.{turn_accepts}
use Rattle.resolvo_encoder.specs.TurnLevels.{AreAmongEncoded}
use Rattle.resolvo_turn.specs.Encoder.{IsInOrder}
use Rattle.resolvo_turn.specs.Turn.{IsTurn, in_turn}
use Rattle.resolvo.specs.Turns.{AreAt, AreRight, HasReason, HaveReasons, IsDeniable, IsNextRight, RecordsOutcome, Records, AreAtOrRefused, accepted_of, on_trail, step_of, was_accepted}
use Rattle.resolvo.specs.declared.soft_requirements.SoftOutcome.{SoftOutcome}
use Rattle.resolvo_encoder.specs.SoftRequirement.{IsTrue}
use Rattle.resolvo.specs.SoftTurns.{AreTrueParents, IsDenied, IsOutcome, IsReasonOf, IsJustified, KeepsTrail}
use Rattle.resolvo.specs.declared.soft_requirements.SoftOutcome.TheVariants as Soft
use Rattle.resolvo.specs.declared.turns.Turn.{Turn}
use Rattle.resolvo.specs.declared.turns.Turns.{Turns}
use Rattle.resolvo_state.proofs.Positions.{get_contains, prefix_equal, prefix_get, prefix_same}
use Rattle.resolvo.proofs.ListLemmas.{accepted_more, accepted_next, next_right, refused_next}
use Rattle.resolvo_turn.proofs.EndLemmas.{contains_longer}
use Rattle.resolvo.proofs.TrailLemmas.{listed_are_chosen, listed_on_trail, trail_stays}

-- ---- the accepted soft requirements and reasons

-- the accepted soft requirements after a turn
accepted_after : {S : Type 0} (accepted : List S) (s : S) (turn : Turn S) (earlier : List (Turn S)) (b : Bool) → turn.accepted ≡ b → turn.solvable ≡ s → accepted ≡ accepted_of earlier → cond b (accepted ++ s ∷ []) accepted ≡ accepted_of (turn ∷ earlier)
accepted_after {S} accepted s turn earlier true so is same = ap (λ (ws : List S). ws ++ s ∷ []) same ∙ sym (accepted_next turn earlier s so is)
accepted_after accepted s turn earlier false so is same = same ∙ sym (refused_next turn earlier so)

-- the first items of a list are a prefix of those of a longer one
prefix_taken : {X : Type 0} (n : ℕ) (xs more : List X) → IsPrefixOf (take n xs) (take n (xs ++ more))
prefix_taken zero xs more = ([], refl)
prefix_taken (suc n) [] more = (take (suc n) more, refl)
prefix_taken (suc n) (x ∷ xs) more = (let (rest, is) = prefix_taken n xs more in (rest, ap (λ ys. x ∷ ys) is))

taken_longer : {X : Type 0} (n : ℕ) (xs ys : List X) (x : X) → IsPrefixOf xs ys → Contains (take n xs) x → Contains (take n ys) x
taken_longer n xs ys x (more, is) h = subst (λ (zs : List _). Contains (take n zs) x) (sym is) (contains_longer (take n xs) (take n (xs ++ more)) x (prefix_taken n xs more) h)

-- a reason is one for more solvables
reason_widens : {N S : Type 0} (c : SolverState N S) (some more : S → Type 0) (number : ℕ) → ((s : S) → some s → more s) → IsReasonOf c some number → IsReasonOf c more number
reason_widens c some more number wider r = record {
  later = r.later;
  held = r.held;
  present = r.present;
  learnt = r.learnt;
  denies = λ l h. elim (r.denies l h) [ inl itself ↦ inl itself | inr (t, u, is, present, among) ↦ inr (t, u, is, present, wider t among) ];
}

-- and stays one
reason_stays : {N S : Type 0} (c d : SolverState N S) (chosen longer : List S) → IsPrefixOf c.atoms.keys d.atoms.keys → IsPrefixOf c.search.clauses d.search.clauses → IsPrefixOf c.kinds.items d.kinds.items → IsPrefixOf chosen longer → (t : Turn S) → HasReason c chosen t → HasReason d longer t
reason_stays c d chosen longer atoms clauses kinds prefix t r = record {
  accepted = r.accepted;
  refused = λ so. (let (k, step, reason) = r.refused so in (
    k,
    step,
    record {
      later = reason.later;
      held = reason.held;
      present = prefix_get c.search.clauses d.search.clauses (suc k) reason.held clauses reason.present;
      learnt = prefix_get c.kinds.items d.kinds.items (suc k) Learnt kinds reason.learnt;
      denies = λ l h. elim (reason.denies l h) [
        | inl itself ↦ inl itself
        | inr (s, u, is, present, among) ↦ inr (s, u, is, represents_more c.atoms.keys d.atoms.keys u (Solvable s) atoms present, elim among [ inl soft ↦ inl soft | inr before ↦ inr (taken_longer t.begin chosen longer s prefix before) ])
      ];
    },
  ));
}

module _ {N S : Type 0} where
  -- the chosen are true, and the true are chosen
  pub chosen_true : (e : Encoder N S) (members : List S) → AreChosen e.coding.atoms.keys (made_true (history e.coding.search)) members → (s : S) → Contains members s → IsTrue e s
  chosen_true e members are s h =
      let (l, known, means) = are.each s h in
      let (positive, present) = means_solvable e.coding.atoms.keys l s means in
      (l.variable, present, subst (λ (x : Signed). has (made_true (history e.coding.search)) x ≡ true) (λ i. record { variable = l.variable; positive = positive i }) known)

  pub true_chosen : (e : Encoder N S) (members : List S) → AreChosen e.coding.atoms.keys (made_true (history e.coding.search)) members → (s : S) → IsTrue e s → Contains members s
  true_chosen e members are s (u, present, known) = are.all (yes u) s known (solvable_means e.coding.atoms.keys (yes u) s refl present)

  -- so they are among the parents
  pub at_parents : (e : Encoder N S) (t : Turns S) → AreAt e t → AreTrueParents e
  at_parents e t at s truth =
      let (i, low, here) = at.encoded.each s (true_chosen e t.chosen.keys (listed_are_chosen e t.chosen.keys at.chosen) s truth) in
      get_contains e.parents.keys i (Place.Solvable s) here

  -- an encoded parent stays encoded
  among_stays : (a b : Encoder N S) (members : List S) → KeepsTrail a b → AreAmongEncoded a members → AreAmongEncoded b members
  among_stays a b members keeps among =
      let further : a.encoded ≤ b.encoded = keeps.encoded in
      record {
        root = (let (i, low, at) = among.root in (i, omega arith, prefix_get a.parents.keys b.parents.keys i Place.Root keeps.parents at));
        each = λ s h. (let (i, low, at) = among.each s h in (i, omega arith, prefix_get a.parents.keys b.parents.keys i (Place.Solvable s) keeps.parents at));
      }

  -- ---- the turn is recorded

  pub next_at : (a b : Encoder N S) (t m u : Turns S) (s : S) (begin : ℕ) (w : SoftOutcome) → AreAt a t → m.chosen.keys ≡ on_trail b → m.turns ≡ t.turns → Records s begin w m u
      → b.recorded.softs.items ≡ cond (was_accepted w) (a.recorded.softs.items ++ s ∷ []) a.recorded.softs.items → AreAmongEncoded b m.chosen.keys → AreAt b u
  next_at a b t m u s begin w at are turns pushed softs encoded =
      let all : reverse u.turns.items ≡ pushed.turn ∷ reverse t.turns.items = ap reverse (pushed.turns ∙ ap (λ (ts : Vec (Turn S) Global). ts.items ++ pushed.turn ∷ []) turns) ∙ reverse_push t.turns.items pushed.turn in
      record {
        chosen = ap (λ (c : Ordered S). c.keys) pushed.chosen ∙ are;
        encoded = subst (λ (c : Ordered S). AreAmongEncoded b c.keys) (sym pushed.chosen) encoded;
        softs = softs ∙ accepted_after a.recorded.softs.items s pushed.turn (reverse t.turns.items) (was_accepted w) pushed.fields.accepted pushed.fields.solvable at.softs ∙ ap accepted_of (sym all);
      }

  module _ (same : S → S → Bool) (exact : IsExact same) (p : Packages N S) (root : Rules) where
    -- the recorded turn is right
    pub recorded_next : (a b : Encoder N S) (t m u : Turns S) (first : ℕ) (done : List S) (s : S) (w : SoftOutcome) → AreAt a t → AreRight same p root first done t → IsPrefixOf t.chosen.keys m.chosen.keys → m.turns ≡ t.turns → Records s (length t.chosen.keys) w m u
        → b.recorded.softs.items ≡ cond (was_accepted w) (a.recorded.softs.items ++ s ∷ []) a.recorded.softs.items → IsAccepted same p root b.recorded.softs.items m.chosen.keys → was_accepted w ≡ is_in same p m.chosen.keys s → (was_accepted w ≡ false → m.chosen.keys ≡ t.chosen.keys)
        → (was_accepted w ≡ false → IsDenied same p root a s) → AreRight same p root first (done ++ s ∷ []) u
    recorded_next a b t m u first done s w at right prefix turns pushed softs accepted is same_keys denied =
        let keys : u.chosen.keys ≡ m.chosen.keys = ap (λ (c : Ordered S). c.keys) pushed.chosen in
        next_right same p root first done s t u pushed.turn right (subst (λ (xs : List S). IsPrefixOf t.chosen.keys xs) (sym keys) prefix) (pushed.turns ∙ ap (λ (ts : Vec (Turn S) Global). ts.items ++ pushed.turn ∷ []) turns)
        pushed.fields.begin_is (pushed.fields.end_is ∙ ap (λ (xs : List S). length xs) (sym keys)) pushed.fields.solvable
        (subst (λ (xs : List S). IsAccepted same p root (accepted_of (pushed.turn ∷ reverse t.turns.items)) xs) (sym keys)
        (subst (λ (ws : List S). IsAccepted same p root ws m.chosen.keys) (softs ∙ accepted_after a.recorded.softs.items s pushed.turn (reverse t.turns.items) (was_accepted w) pushed.fields.accepted pushed.fields.solvable at.softs) accepted))
        (pushed.fields.accepted ∙ is ∙ ap (λ (xs : List S). is_in same p xs s) (sym keys))
        (λ so. pushed.fields.end_is ∙ ap (λ (xs : List S). length xs) (same_keys (sym pushed.fields.accepted ∙ so)) ∙ sym pushed.fields.begin_is)
        (λ so set keeping all held. denied (sym pushed.fields.accepted ∙ so) set keeping (λ r truth. all r (contained_in same exact p t.chosen.keys r (true_chosen a t.chosen.keys (listed_are_chosen a t.chosen.keys at.chosen) r truth))) held)

    -- a soft requirement is listed exactly if the trail chooses it
    pub true_inside : (b : Encoder N S) (members : List S) (s : S) → AreChosen b.coding.atoms.keys (made_true (history b.coding.search)) members → IsTrue b s → true ≡ is_in same p members s
    true_inside b members s are truth = sym (contained_in same exact p members s (true_chosen b members are s truth))

    pub untrue_outside : (b : Encoder N S) (members : List S) (s : S) → AreChosen b.coding.atoms.keys (made_true (history b.coding.search)) members → (IsTrue b s → ⊥) → false ≡ is_in same p members s
    untrue_outside b members s are untrue = elim (cases_Bool (is_in same p members s)) [
      | inl there ↦ absurd (untrue (chosen_true b members are s (in_contained same exact p members s there)))
      | inr none ↦ sym none
    ]

    -- the end of the turn of a chosen soft requirement
    pub chosen_accepted : (same_name : N → N → Bool) → IsExact same_name → IsLawful p → (orders : Requirement → List S → Type 0) (b : Encoder N S) (soft : Option VariableId) (members : List S) → IsInOrder same p orders root b → IsTurn same soft b None
        → AreChosen b.coding.atoms.keys (made_true (history b.coding.search)) members → IsAccepted same p root b.recorded.softs.items members
    chosen_accepted same_name names lawful orders b soft members holds (is_done, whole, spent, placed, has) are =
        turn_accepts same exact p root lawful b same_name names holds.encoding spent is_done.values is_done.score is_done.agree is_done.quiet is_done.decided placed members are (whole members are)

  -- ---- each turn has its reason

  next_reasons : (a b : Encoder N S) (t m u : Turns S) (s : S) (begin : ℕ) (w : SoftOutcome) → KeepsTrail a b → IsPrefixOf t.chosen.keys m.chosen.keys → m.turns ≡ t.turns → (pushed : Records s begin w m u) → HaveReasons a.coding t → HasReason b.coding u.chosen.keys pushed.turn → HaveReasons b.coding u
  next_reasons a b t m u s begin w keeps prefix turns pushed old new turn h =
      let keys : m.chosen.keys ≡ u.chosen.keys = sym (ap (λ (c : Ordered S). c.keys) pushed.chosen) in
      elim (contains_parts turn t.turns.items (pushed.turn ∷ []) (subst (λ (ts : List (Turn S)). Contains ts turn) (pushed.turns ∙ ap (λ (ts : Vec (Turn S) Global). ts.items ++ pushed.turn ∷ []) turns) h)) [
        | inl before ↦ reason_stays a.coding b.coding t.chosen.keys u.chosen.keys keeps.atoms keeps.clauses keeps.kinds (subst (λ (xs : List S). IsPrefixOf t.chosen.keys xs) keys prefix) turn (old turn before)
        | inr now ↦ subst (λ (x : Turn S). HasReason b.coding u.chosen.keys x) (sym (contains_one turn pushed.turn now)) new
      ]

  -- an accepted soft requirement needs none
  accepted_reason : (b : Encoder N S) (m u : Turns S) (s : S) (begin : ℕ) (w : SoftOutcome) (pushed : Records s begin w m u) → was_accepted w ≡ true → step_of w ≡ None → HasReason b.coding u.chosen.keys pushed.turn
  accepted_reason b m u s begin w pushed so none = record {
    accepted = λ h. pushed.fields.step ∙ none;
    refused = λ h. absurd (both_ways _ h (pushed.fields.accepted ∙ so));
  }

  -- the reason of a refused one
  refused_reason : (a b : Encoder N S) (t u : Turns S) (s : S) (begin : ℕ) (clause : ClauseId) (pushed : Records s begin (Soft.Refused clause) t u) → AreAt a t → begin ≡ length t.chosen.keys → IsReasonOf b.coding (λ r. (r ≡ s) ⊎ IsTrue a r) clause.0
      → HasReason b.coding u.chosen.keys pushed.turn
  refused_reason a b t u s begin clause pushed at is reason =
      let later : 0 < clause.0 = reason.later in
      let number : clause.0 ≡ suc (clause.0 - 1) = omega arith in
      let keys : t.chosen.keys ≡ u.chosen.keys = sym (ap (λ (c : Ordered S). c.keys) pushed.chosen) in
      let whole : take pushed.turn.begin u.chosen.keys ≡ t.chosen.keys = ap (λ (xs : List S). take pushed.turn.begin xs) (sym keys) ∙ take_all pushed.turn.begin t.chosen.keys (let x : pushed.turn.begin ≡ begin = pushed.fields.begin_is in let y : begin ≡ length t.chosen.keys = is in omega arith) in
      record {
        accepted = λ h. absurd (both_ways _ pushed.fields.accepted h);
        refused = λ h. (
          clause.0 - 1,
          pushed.fields.step,
          subst (λ (n : ℕ). IsReasonOf b.coding (IsDeniable u.chosen.keys pushed.turn) n) number (reason_widens b.coding (λ r. (r ≡ s) ⊎ IsTrue a r) (IsDeniable u.chosen.keys pushed.turn) clause.0 (λ r either. elim either [
            | inl itself ↦ inl (itself ∙ sym pushed.fields.solvable)
            | inr truth ↦ inr (subst (λ (xs : List S). Contains xs r) (sym whole) (true_chosen a t.chosen.keys (listed_are_chosen a t.chosen.keys at.chosen) r truth))
          ]) reason),
        );
      }

  -- ---- the outcome of each turn

  module _ (same : S → S → Bool) (a b : Encoder N S) (t u : Turns S) (s : S) (coding : IsCoding a.coding) (at : AreAt a t) (keeps : KeepsTrail a b) where
    stays_chosen : history b.coding.search ≡ history a.coding.search → t.chosen.keys ≡ on_trail b
    stays_chosen trail = at.chosen ∙ sym (trail_stays a b coding keeps trail)

    stay_encoded : AreAmongEncoded b t.chosen.keys
    stay_encoded = among_stays a b t.chosen.keys keeps at.encoded

    already_at : IsOutcome same s a b Soft.AlreadyChosen → (begin : ℕ) → Records s begin Soft.AlreadyChosen t u → AreAt b u
    already_at (softs, trail, known) begin pushed = next_at a b t t u s begin Soft.AlreadyChosen at (stays_chosen trail) refl pushed softs stay_encoded

    refused_at : (clause : ClauseId) → IsOutcome same s a b (Soft.Refused clause) → (begin : ℕ) → Records s begin (Soft.Refused clause) t u → AreAt b u
    refused_at clause (softs, trail, untrue) begin pushed = next_at a b t t u s begin (Soft.Refused clause) at (stays_chosen trail) refl pushed softs stay_encoded

    goes_on : IsExact same → IsCoding b.coding → (m : Turns S) → base_of b ≡ history a.coding.search → m.chosen.keys ≡ insert_all same t.chosen.keys (in_turn b) → m.chosen.keys ≡ on_trail b
    goes_on exact after m base in_order = listed_on_trail same exact a b t.chosen.keys m.chosen.keys coding after keeps.atoms base at.chosen in_order

    chosen_at : IsExact same → IsCoding b.coding → (m : Turns S) → IsOutcome same s a b Soft.Chosen → m.chosen.keys ≡ insert_all same t.chosen.keys (in_turn b) → m.turns ≡ t.turns → (begin : ℕ) → Records s begin Soft.Chosen m u → AreAt b u
    chosen_at exact after m (softs, base, (v, present, (is_done, whole, spent, placed, has_it))) in_order turns begin pushed =
        let are : m.chosen.keys ≡ on_trail b = goes_on exact after m base in_order in
        next_at a b t m u s begin Soft.Chosen at are turns pushed softs (whole m.chosen.keys (listed_are_chosen b m.chosen.keys are))

    module _ (exact : IsExact same) (p : Packages N S) (root : Rules) (first : ℕ) (done : List S) (right : AreRight same p root first done t) where
      still_accepted : IsAccepted same p root a.recorded.softs.items t.chosen.keys
      still_accepted = subst (λ (ws : List S). IsAccepted same p root ws t.chosen.keys) (sym at.softs) right.accepted

      already_reasons : HaveReasons a.coding t → (begin : ℕ) → Records s begin Soft.AlreadyChosen t u → HaveReasons b.coding u
      already_reasons reasons begin pushed = next_reasons a b t t u s begin Soft.AlreadyChosen keeps (prefix_same t.chosen.keys) refl pushed reasons (accepted_reason b t u s begin Soft.AlreadyChosen pushed refl refl)

      refused_reasons : (clause : ClauseId) → IsReasonOf b.coding (λ r. (r ≡ s) ⊎ IsTrue a r) clause.0 → HaveReasons a.coding t → (begin : ℕ) → begin ≡ length t.chosen.keys → Records s begin (Soft.Refused clause) t u → HaveReasons b.coding u
      refused_reasons clause reason reasons begin is pushed = next_reasons a b t t u s begin (Soft.Refused clause) keeps (prefix_same t.chosen.keys) refl pushed reasons (refused_reason a b t u s begin clause pushed at is reason)

      chosen_reasons : (m : Turns S) → IsPrefixOf t.chosen.keys m.chosen.keys → m.turns ≡ t.turns → HaveReasons a.coding t → (begin : ℕ) → Records s begin Soft.Chosen m u → HaveReasons b.coding u
      chosen_reasons m lists turns reasons begin pushed = next_reasons a b t m u s begin Soft.Chosen keeps lists turns pushed reasons (accepted_reason b m u s begin Soft.Chosen pushed refl refl)

      already_right : IsOutcome same s a b Soft.AlreadyChosen → (begin : ℕ) → begin ≡ length t.chosen.keys → Records s begin Soft.AlreadyChosen t u → AreRight same p root first (done ++ s ∷ []) u
      already_right (softs, trail, known) begin is pushed =
          let truth : true ≡ is_in same p t.chosen.keys s = true_inside same exact p root b t.chosen.keys s (listed_are_chosen b t.chosen.keys (stays_chosen trail)) known in
          recorded_next same exact p root a b t t u first done s Soft.AlreadyChosen at right (prefix_same t.chosen.keys) refl (subst (λ n. Records s n Soft.AlreadyChosen t u) is pushed) softs
          (subst (λ (ws : List S). IsAccepted same p root ws t.chosen.keys) (sym softs) (accepted_more same exact p root a.recorded.softs.items t.chosen.keys s still_accepted (sym truth))) truth (λ so. absurd (both_ways true so refl)) (λ so. absurd (both_ways true so refl))

      refused_right : (clause : ClauseId) → IsOutcome same s a b (Soft.Refused clause) → IsDenied same p root a s → (begin : ℕ) → begin ≡ length t.chosen.keys → Records s begin (Soft.Refused clause) t u → AreRight same p root first (done ++ s ∷ []) u
      refused_right clause (softs, trail, untrue) denied begin is pushed =
          recorded_next same exact p root a b t t u first done s (Soft.Refused clause) at right (prefix_same t.chosen.keys) refl (subst (λ n. Records s n (Soft.Refused clause) t u) is pushed) softs
          (subst (λ (ws : List S). IsAccepted same p root ws t.chosen.keys) (sym softs) still_accepted) (untrue_outside same exact p root b t.chosen.keys s (listed_are_chosen b t.chosen.keys (stays_chosen trail)) untrue) (λ so. refl) (λ so. denied)

      chosen_right : (same_name : N → N → Bool) → IsExact same_name → IsLawful p → (orders : Requirement → List S → Type 0) → IsInOrder same p orders root b → IsCoding b.coding → (m : Turns S) → IsOutcome same s a b Soft.Chosen → IsPrefixOf t.chosen.keys m.chosen.keys → m.chosen.keys ≡ insert_all same t.chosen.keys (in_turn b) → m.turns ≡ t.turns
          → (begin : ℕ) → begin ≡ length t.chosen.keys → Records s begin Soft.Chosen m u → AreRight same p root first (done ++ s ∷ []) u
      chosen_right same_name names lawful orders order after m (softs, base, (v, present, ended)) lists in_order turns begin is pushed =
          let are : AreChosen b.coding.atoms.keys (made_true (history b.coding.search)) m.chosen.keys = listed_are_chosen b m.chosen.keys (goes_on exact after m base in_order) in
          let (is_done, whole, spent, placed, has_it) = ended in
          recorded_next same exact p root a b t m u first done s Soft.Chosen at right lists turns (subst (λ n. Records s n Soft.Chosen m u) is pushed) softs
          (chosen_accepted same exact p root same_name names lawful orders b (Some v) m.chosen.keys order ended are) (true_inside same exact p root b m.chosen.keys s are (v, present, has_it)) (λ so. absurd (both_ways true so refl)) (λ so. absurd (both_ways true so refl))

      pub outcome_right : (same_name : N → N → Bool) → IsExact same_name → IsLawful p → (orders : Requirement → List S → Type 0) → IsInOrder same p orders root b → IsCoding b.coding → HaveReasons a.coding t → (w : SoftOutcome) (o : Option FinalConflict) → IsOutcome same s a b w → IsJustified same p root a b s w → RecordsOutcome same s b t u w o
          → IsNextRight same p root first (done ++ s ∷ []) b u o
      outcome_right same_name names lawful orders order after reasons Soft.AlreadyChosen None is why pushed = (already_right is (length t.chosen.keys) refl pushed, already_reasons reasons (length t.chosen.keys) pushed)
      outcome_right same_name names lawful orders order after reasons Soft.AlreadyChosen (Some q) is why none = absurd none
      outcome_right same_name names lawful orders order after reasons Soft.Chosen None is why (m, lists, in_order, turns, pushed) = (
        chosen_right same_name names lawful orders order after m is lists in_order turns (length t.chosen.keys) refl pushed,
        chosen_reasons m lists turns reasons (length t.chosen.keys) pushed,
      )
      outcome_right same_name names lawful orders order after reasons Soft.Chosen (Some q) is why none = absurd none
      outcome_right same_name names lawful orders order after reasons (Soft.Refused clause) None is (denied, reason) pushed = (
        refused_right clause is denied (length t.chosen.keys) refl pushed,
        refused_reasons clause reason reasons (length t.chosen.keys) refl pushed,
      )
      outcome_right same_name names lawful orders order after reasons (Soft.Refused clause) (Some q) is why none = absurd none
      outcome_right same_name names lawful orders order after reasons (Soft.Unsat r) None is why none = absurd none
      outcome_right same_name names lawful orders order after reasons (Soft.Unsat r) (Some q) is why pushed = why

    pub outcome_at : IsExact same → IsCoding b.coding → (w : SoftOutcome) (o : Option FinalConflict) → IsOutcome same s a b w → RecordsOutcome same s b t u w o → AreAtOrRefused b u o
    outcome_at exact after Soft.AlreadyChosen None is pushed = already_at is (length t.chosen.keys) pushed
    outcome_at exact after Soft.AlreadyChosen (Some q) is none = absurd none
    outcome_at exact after Soft.Chosen None is (m, lists, in_order, turns, pushed) = chosen_at exact after m is in_order turns (length t.chosen.keys) pushed
    outcome_at exact after Soft.Chosen (Some q) is none = absurd none
    outcome_at exact after (Soft.Refused clause) None is pushed = refused_at clause is (length t.chosen.keys) pushed
    outcome_at exact after (Soft.Refused clause) (Some q) is none = absurd none
    outcome_at exact after (Soft.Unsat r) None is none = absurd none
    outcome_at exact after (Soft.Unsat r) (Some q) is (one, unchanged) = subst (λ (x : FinalConflict). IsRefusal b.coding.search x.literals.items x.causes.items × (x.literals.items ≡ [])) (sym one) is

    pub outcome_prefix : (w : SoftOutcome) (o : Option FinalConflict) → RecordsOutcome same s b t u w o → IsPrefixOf t.chosen.keys u.chosen.keys
    outcome_prefix Soft.AlreadyChosen None pushed = prefix_equal t.chosen.keys u.chosen.keys (ap (λ (c : Ordered S). c.keys) pushed.chosen)
    outcome_prefix Soft.AlreadyChosen (Some q) none = absurd none
    outcome_prefix Soft.Chosen None (m, lists, in_order, turns, pushed) = subst (λ (c : Ordered S). IsPrefixOf t.chosen.keys c.keys) (sym pushed.chosen) lists
    outcome_prefix Soft.Chosen (Some q) none = absurd none
    outcome_prefix (Soft.Refused clause) None pushed = prefix_equal t.chosen.keys u.chosen.keys (ap (λ (c : Ordered S). c.keys) pushed.chosen)
    outcome_prefix (Soft.Refused clause) (Some q) none = absurd none
    outcome_prefix (Soft.Unsat r) None none = absurd none
    outcome_prefix (Soft.Unsat r) (Some q) (one, unchanged) = prefix_equal t.chosen.keys u.chosen.keys (ap (λ (x : Turns S). x.chosen.keys) unchanged)
