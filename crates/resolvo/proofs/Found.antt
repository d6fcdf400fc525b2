-- The result of a search is true.
use Rattle.std.proofs.Common.{◌≡◌, ℕ, suc, Bool, true, false, take, reverse, List, [], ◌∷◌, ◌++◌, length, Option, Some, None, Vec, Global, refl, sym, ◌∙◌, ap, subst, arith}
use Rattle.std.specs.Prelude.{slice_get, is_some, Contains}
use Rattle.std.proofs.lemmas.Bool.{both_ways}
use Rattle.std.proofs.lemmas.List.{reverse-append, take_all}
use Rattle.resolvo_pool_core.specs.declared.requirement.Requirement.{Requirement}
use Rattle.resolvo_pool_core.specs.declared.solver_id.SolvableIdOrRoot.{SolvableIdOrRoot}
use Rattle.resolvo_pool_core.specs.declared.solver_id.SolvableIdOrRoot.TheVariants.{Root}
use Rattle.resolvo_pool_core.specs.RuleKeeping.{Packages, Rules, IsLawful}
use Rattle.resolvo_store_core.specs.AtMostOne.{IsPrefixOf}
use Rattle.resolvo_store_core.specs.Signed.{Signed, has}
use Rattle.resolvo_sat.specs.declared.analyze.FinalConflict.{FinalConflict}
use Rattle.resolvo_sat.specs.Analysis.{IsRefusal}
use Rattle.resolvo_sat.specs.Entries.{made_true}
use Rattle.resolvo_sat.specs.State.{history}
use Rattle.resolvo_sat.specs.RuleClauses.{IsExact}
use Rattle.resolvo_sat.specs.SearchEnd.{IsAccepted}
use Rattle.resolvo_sat.specs.First.{ArePreferred}
use Rattle.resolvo_sat.proofs.Lists.{contains_none}
use Rattle.resolvo_state.specs.Chosen.{AreChosen}
use Rattle.resolvo_state.specs.SolverState.{IsCoding}
use Rattle.resolvo_state.specs.Keys.{AreOnce}
use Rattle.resolvo_state.specs.declared.solver_state.SolverState.{SolverState}
use Rattle.resolvo_proof.specs.Proof.{DenyRoot}
use Rattle.resolvo_encoder.specs.declared.encoder.Encoder.{Encoder}
use Rattle.resolvo_encoder.specs.Encoded.{IsEncoding}
use Rattle.resolvo_encoder.specs.Steps.{IsBegunEncoding}
use Rattle.resolvo_encoder.specs.TurnLevels.{AreAmongEncoded}
use Rattle.resolvo_encoder.proofs.TurnLemmas.{turn_keeps, turn_preferred, refused, root_denied}
use Rattle.resolvo.specs.declared.search.SearchResult.{SearchResult}
use Rattle.resolvo.specs.declared.search.SearchResult.TheVariants.{Chosen, Unsat}
use Rattle.resolvo.specs.declared.turns.Turn.{Turn}
use Rattle.resolvo.specs.declared.turns.Turns.{Turns}
use Rattle.resolvo_turn.specs.Turn.{IsRooted, IsTurn}
use Rattle.resolvo.specs.Turns.{AreRight, AreTurns, AreSolvedByTurn, HasReason, HaveReasons, IsNextRight, AreAtOrRefused, accepted_of, end_of, first_of}
use Rattle.resolvo_turn.specs.Encoder.{IsInOrder}
use Rattle.resolvo.specs.Solution.{IsSolution, IsUnsolvable}
use Rattle.resolvo.specs.Solve.{IsFoundIn, IsFound, IsListedIn, IsPreferred, IsDenial}
use Rattle.resolvo.proofs.Next.{chosen_accepted}
use Rattle.resolvo.proofs.TrailLemmas.{trail_once}

-- the root is the first parent
pub begun_rooted : {N S : Type 0} (e : Encoder N S) → IsBegunEncoding e → IsRooted e
begun_rooted {N} {S} e begun = subst (λ (ks : List (SolvableIdOrRoot S)). slice_get ks 0 ≡ Some Root) (sym begun.parents) refl

-- nothing is chosen yet that could be out of order
pub begun_in_order : {N S : Type 0} (same : S → S → Bool) (p : Packages N S) (orders : Requirement → List S → Type 0) (root : Rules) (e : Encoder N S) → IsBegunEncoding e → IsEncoding same p root e → IsInOrder same p orders root e
begun_in_order same p orders root e begun holds = record { encoding = holds; ordered = λ r has. absurd (both_ways _ (ap is_some (begun.lists.candidates r)) has) }

-- a turn with turns before it isn't the first one
last_begin : {N S : Type 0} (same : S → S → Bool) (p : Packages N S) (root : Rules) (chosen : List S) (first : ℕ) (t : Turn S) (ws : List S) (later : List (Turn S)) → AreTurns same p root chosen first ws (later ++ t ∷ []) → t.begin ≡ first
last_begin same p root chosen first t [] [] h = absurd h
last_begin same p root chosen first t (w ∷ ws) [] (begin, one, rest) = begin
last_begin same p root chosen first t [] (u ∷ later) h = absurd h
last_begin same p root chosen first t (w ∷ ws) (u ∷ later) (begin, one, rest) = last_begin same p root chosen first t ws later rest

-- the number of choices in the root's turn
pub first_is : {N S : Type 0} (same : S → S → Bool) (p : Packages N S) (root : Rules) (chosen : List S) (first : ℕ) (softs : List S) (turns : List (Turn S)) → AreSolvedByTurn same p root chosen first softs turns → first ≡ first_of chosen turns
first_is same p root chosen first softs [] h = h.whole
first_is same p root chosen first softs (t ∷ later) h = sym (last_begin same p root chosen first t (reverse softs) (reverse later) (subst (λ (ts : List (Turn _)). AreTurns same p root chosen first (reverse softs) ts) (reverse-append (t ∷ []) later) h.turns))

-- a prefix of a list is its first items
first_prefix : {X : Type 0} (xs ys : List X) → IsPrefixOf xs ys → take (length xs) ys ≡ xs
first_prefix [] ys h = refl
first_prefix (x ∷ xs) ys (more, is) = ap (take (suc (length xs))) is ∙ ap (λ zs. x ∷ zs) (first_prefix xs (xs ++ more) (more, refl))

-- no turn, no reason
pub no_reasons : {N S : Type 0} (c : SolverState N S) (t : Turns S) → t.turns.items ≡ [] → HaveReasons c t
no_reasons {N} {S} c t none turn h = absurd (contains_none turn (subst (λ (ts : List (Turn S)). Contains ts turn) none h))

module _ {N S : Type 0} (same_name : N → N → Bool) (names : IsExact same_name) (same : S → S → Bool) (exact : IsExact same) (p : Packages N S) (orders : Requirement → List S → Type 0) (root : Rules) (lawful : IsLawful p) (e : Encoder N S) where
  -- the end of the root's turn: its choices are right, and preferred
  pub root_right : IsInOrder same p orders root e → e.recorded.softs.items ≡ [] → IsTurn same None e None → (t : Turns S) → t.turns.items ≡ [] → AreChosen e.coding.atoms.keys (made_true (history e.coding.search)) t.chosen.keys
      → AreRight same p root (length t.chosen.keys) [] t × ArePreferred same p orders root t.chosen.keys
  root_right holds alone (is_done, whole, spent, placed, soft) t none chosen =
      let (keeping, reached, inside) = turn_keeps same exact p root lawful e same_name names holds.encoding spent is_done.values is_done.score is_done.agree is_done.quiet is_done.decided placed t.chosen.keys chosen (whole t.chosen.keys chosen) alone in
      let all : take (length t.chosen.keys) t.chosen.keys ≡ t.chosen.keys = take_all (length t.chosen.keys) t.chosen.keys (omega arith) in (
        record {
          wished = record {
            solution = subst (λ (xs : List S). IsSolution same p root xs) (sym all) (record { keeping = keeping; reached = reached; inside = inside });
            within = omega arith;
            turns = subst (λ (ts : List (Turn S)). AreTurns same p root t.chosen.keys (length t.chosen.keys) [] (reverse ts)) (sym none) tt;
            whole = ap (λ (ts : List (Turn S)). end_of (length t.chosen.keys) (reverse ts)) none;
          };
          accepted = subst (λ (ts : List (Turn S)). IsAccepted same p root (accepted_of (reverse ts)) t.chosen.keys) (sym none)
              (subst (λ (ws : List S). IsAccepted same p root ws t.chosen.keys) alone (chosen_accepted same exact p root same_name names lawful orders e None t.chosen.keys holds (is_done, whole, spent, placed, soft) chosen));
        },
        turn_preferred same exact p root lawful e same_name names holds.encoding spent orders holds.ordered is_done.values is_done.score is_done.agree is_done.quiet is_done.decided placed t.chosen.keys chosen (whole t.chosen.keys chosen) alone,
      )

  -- a refusal of the root's turn leaves no rule-keeping set
  pub root_refused : IsInOrder same p orders root e → e.coding.search.base_level ≡ 1 → (r : FinalConflict) → IsRefusal e.coding.search r.literals.items r.causes.items → IsUnsolvable same p root
  root_refused holds first r refusal = λ chosen keeping. refused same exact p root lawful e same_name names holds.encoding first r.literals.items r.causes.items refusal chosen keeping

module _ {N S : Type 0} (same : S → S → Bool) (p : Packages N S) (orders : Requirement → List S → Type 0) (root : Rules) (softs : List S) (e : Encoder N S) (old t : Turns S) (prefix : IsPrefixOf old.chosen.keys t.chosen.keys) where
  -- the result of all turns
  pub turns_found : ArePreferred same p orders root old.chosen.keys → (o : Option FinalConflict) → IsNextRight same p root (length old.chosen.keys) softs e t o → AreAtOrRefused e t o → (f : SearchResult S) → IsFoundIn t o f → IsFound same p root softs e f × IsPreferred same p orders root f
  turns_found preferred None (right, reasons) at (Chosen v turns) (solvables, same_turns) =
      let first : length old.chosen.keys ≡ first_of v.items turns.items = first_is same p root t.chosen.keys (length old.chosen.keys) softs t.turns.items right.wished ∙ ap (λ (xs : List S). first_of xs t.turns.items) (sym solvables) ∙ ap (λ (ts : Vec (Turn S) Global). first_of v.items ts.items) (sym same_turns) in
      let whole : take (first_of v.items turns.items) v.items ≡ old.chosen.keys = ap (λ (n : ℕ). take n v.items) (sym first) ∙ ap (take (length old.chosen.keys)) solvables ∙ first_prefix old.chosen.keys t.chosen.keys prefix in (
        (
          subst (λ (n : ℕ). AreSolvedByTurn same p root v.items n softs turns.items) first
              (subst (λ (ts : Vec (Turn S) Global). AreSolvedByTurn same p root v.items (length old.chosen.keys) softs ts.items) (sym same_turns) (subst (λ (xs : List S). AreSolvedByTurn same p root xs (length old.chosen.keys) softs t.turns.items) (sym solvables) right.wished)),
          λ turn h. subst (λ (xs : List S). HasReason e.coding xs turn) (sym solvables) (reasons turn (subst (λ (ts : Vec (Turn S) Global). Contains ts.items turn) same_turns h)),
        ),
        subst (λ (xs : List S). ArePreferred same p orders root xs) (sym whole) preferred,
      )
  turns_found preferred None right at (Unsat q) h = absurd h
  turns_found preferred (Some r) right at_or_refused (Chosen v turns) h = absurd h
  turns_found preferred (Some r) right (refusal, none) (Unsat q) is = (
    (right, subst (λ (x : FinalConflict). IsRefusal e.coding.search x.literals.items x.causes.items) (sym is) refusal),
    tt,
  )

-- all turns list the choices of the trail
pub later_listed : {N S : Type 0} (e : Encoder N S) (t : Turns S) (o : Option FinalConflict) → IsCoding e.coding → AreAtOrRefused e t o → (f : SearchResult S) → IsFoundIn t o f → IsListedIn e f
later_listed e t None coding at (Chosen v turns) (solvables, same_turns) = let is = solvables ∙ at.chosen in record { in_order = is; once = subst AreOnce (sym is) (trail_once e coding); encoded = subst (AreAmongEncoded e) (sym solvables) at.encoded }
later_listed e t None coding at (Unsat q) h = absurd h
later_listed e t (Some r) coding at_or_refused (Chosen v turns) h = absurd h
later_listed e t (Some r) coding at_or_refused (Unsat q) h = tt

-- a conflict in a soft requirement's turn denies only the root
pub later_denial : {N S : Type 0} (e : Encoder N S) (t : Turns S) (o : Option FinalConflict) → AreAtOrRefused e t o → (f : SearchResult S) → IsFoundIn t o f → IsDenial e.coding f
later_denial e t None at (Chosen v turns) h = tt
later_denial e t None at (Unsat q) h = absurd h
later_denial e t (Some r) at_or_refused (Chosen v turns) h = absurd h
later_denial e t (Some r) (refusal, none) (Unsat q) is =
    subst (λ (x : FinalConflict). IsRefusal e.coding.search x.literals.items x.causes.items × DenyRoot x.literals.items) (sym is)
    (refusal, λ l h. absurd (both_ways false refl (subst (λ (ls : List Signed). has ls l ≡ true) none h)))

-- so does one of the root's turn
pub root_denial : {N S : Type 0} (e : Encoder N S) → IsCoding e.coding → e.coding.search.base_level ≡ 1 → (r : FinalConflict) → IsRefusal e.coding.search r.literals.items r.causes.items → IsDenial e.coding (Unsat r)
root_denial e coding first r refusal = (refusal, root_denied e coding first r.literals.items r.causes.items refusal)
