-- The outcome of a soft requirement's turn, from its parts.
use Rattle.std.proofs.Common.{◌≡◌, ℕ, ◌+◌, ◌-◌, ◌<◌, ◌≤◌, ◌⊎◌, inl, inr, Bool, true, false, List, [], ◌∷◌, reverse, length, Option, Some, None, refl, sym, ◌∙◌, ap, subst, arith}
use Rattle.std.specs.Prelude.{slice_get, Contains, IfSome}
use Rattle.resolvo_pool_core.specs.declared.solver_id.SolvableIdOrRoot.TheVariants as Place
use Rattle.std.proofs.lemmas.Bool.{both_ways, cases_Bool}
use Rattle.std.proofs.lemmas.Option.{slice_get_within}
use Rattle.resolvo_pool_core.specs.declared.id.ClauseId.{ClauseId}
use Rattle.resolvo_pool_core.specs.declared.id.VariableId.{VariableId}
use Rattle.resolvo_pool_core.specs.declared.requirement.Requirement.{Requirement}
use Rattle.resolvo_pool_core.specs.RuleKeeping.{Packages, Rules, IsLawful, is_many}
use Rattle.resolvo_store_core.specs.AtMostOne.{IsPrefixOf}
use Rattle.resolvo_store_core.specs.Clauses.{yes, no}
use Rattle.resolvo_store_core.specs.Signed.{Signed, has}
use Rattle.resolvo_store_core.specs.declared.decision.Entry.{Entry}
use Rattle.resolvo_sat.specs.declared.analyze.FinalConflict.{FinalConflict}
use Rattle.resolvo_sat.specs.Clauses.{SatClause}
use Rattle.resolvo_sat.specs.declared.state.SatState.{SatState}
use Rattle.resolvo_sat.specs.Analysis.{IsDenial, IsRefusal}
use Rattle.resolvo_sat.specs.Entries.{made_true, top_level, EndsWith, IsTrail}
use Rattle.resolvo_sat.specs.Known.{clause_at, IsUndecided}
use Rattle.resolvo_sat.specs.State.{count_of, history, lists, clauses_of, IsDerived}
use Rattle.resolvo_sat.proofs.Trails.{consistent}
use Rattle.resolvo_sat.specs.Steps.{Undoes}
use Rattle.resolvo_sat.specs.RuleClauses.{IsExact}
use Rattle.resolvo_sat.proofs.StepLemmas.{undone_low}
use Rattle.resolvo_sat.proofs.Lists.{contains_only, contains_right}
use Rattle.resolvo_packages.specs.declared.package_source.Offered.{Offered}
use Rattle.resolvo_state.specs.declared.atom.ProofAtom.TheVariants.{Solvable}
use Rattle.resolvo_state.specs.declared.solver_state.SolverState.{SolverState}
use Rattle.resolvo_state.specs.Atoms.{IsFound, Represents}
use Rattle.resolvo_state.specs.SolverState.{AddsDenial, Grows, IsCoding}
use Rattle.resolvo_state.specs.ClauseKinds.{kind_at}
use Rattle.resolvo_state.specs.Kinds.{Kind}
use Rattle.resolvo_state.specs.Kinds.{Learnt, Root}
use Rattle.resolvo_state.proofs.Growth.{grows_same, grows_then, represents_grow, represents_once}
use Rattle.resolvo_state.proofs.Origins.{represents_more}
use Rattle.resolvo_state.proofs.Positions.{prefix_equal, prefix_same, prefix_then, get_last}
use Rattle.resolvo_encoder.specs.declared.encoder.Encoder.{Encoder}
use Rattle.resolvo_encoder.specs.declared.encoder.EncodedOnce.{EncodedOnce}
use Rattle.resolvo_encoder.specs.Base.{base_of, IsBlamed, IsOpen, IsTaken, IsTried, KeepsTurns}
use Rattle.resolvo_encoder.specs.Encoded.{AreOrdered, IsEncoding, StaysEncoding}
use Rattle.resolvo_encoder.specs.Progress.{GoesOn}
use Rattle.resolvo_encoder.specs.Steps.{IsBuilt, IsListed}
use Rattle.resolvo_encoder.specs.SoftRequirement.{turn_of, IsTrue, IsUntaken, IsSoft, RecordsChosen, RecordsSoft, TakesBack}
use Rattle.resolvo_encoder.proofs.Bases.{below_all, below_ends}
use Rattle.resolvo_encoder.proofs.BlameLemmas.{blame_refuses, empty_refuses, reason_blames}
use Rattle.resolvo_encoder.proofs.PickLemmas.{ordered_stays}
use Rattle.resolvo_encoder.proofs.SoftLemmas.{floored}
use Rattle.resolvo_turn.specs.Encoder.{IsInOrder, AddsParents}
use Rattle.resolvo_turn.specs.Turn.{IsRooted, IsTurn}
use Rattle.resolvo.specs.SoftTurns.{AreTrueParents, IsClosed, IsLearntAs, IsOpenSoft, IsOutcome, IsReasonOf, IsRefusable, IsJustified, IsRejected, KeepsRest, KeepsTrail, Settles}
use Rattle.resolvo.specs.declared.soft_requirements.SoftOutcome.{SoftOutcome}
use Rattle.resolvo_turn.proofs.EndLemmas.{contains_longer, still_rooted}
use Rattle.resolvo.proofs.Soft.{refused_all, refused_addable, refused_blamed, refused_denied, refused_empty, present_before, taken_true, true_before}

-- ---- a turn is undone

addable_clauses : (s t : SatState) (literals : List Signed) (causes : List ClauseId) → t.clauses ≡ s.clauses → IsDenial s literals causes → IsDenial t literals causes
addable_clauses s t literals causes same b = record {
  derived = subst (λ (cs : List SatClause). IsDerived (lists cs) literals causes) (sym same) b.derived;
  caused = b.caused;
  from = λ l h. (let (n, present) = b.from l h in (n, subst (λ (cs : List SatClause). has (clause_at (lists cs) n) l ≡ true) (sym same) present));
  negative = b.negative;
}

-- the added clause is learnt, and not the root's
added_learnt : {N S : Type 0} (a b : SolverState N S) (literals : List Signed) (causes : List ClauseId) (clause : ClauseId) → IsCoding a → AddsDenial literals causes clause a b → IsLearntAs b literals clause
added_learnt {N} {S} a b literals causes clause coding adding =
    let some : 0 < length a.kinds.items = slice_get_within a.kinds.items 0 Root coding.first in
    let each : length a.kinds.items ≡ length a.search.clauses = coding.each in
    let number : clause.0 ≡ length a.search.clauses = adding.number in
    record {
      later = omega arith;
      held = adding.clause;
      present = subst (λ (n : ℕ). slice_get b.search.clauses n ≡ Some adding.clause) (sym number) (subst (λ (cs : List SatClause). slice_get cs (length a.search.clauses) ≡ Some adding.clause) (sym adding.added) (get_last a.search.clauses adding.clause));
      learnt = subst (λ (n : ℕ). kind_at b.kinds.items n ≡ Some Learnt) (each ∙ sym number) (subst (λ (xs : List (Kind N S)). kind_at xs (length a.kinds.items) ≡ Some Learnt) (sym adding.kinds) (get_last a.kinds.items Learnt));
      is = adding.literals;
    }

module _ {N S : Type 0} (a b : Encoder N S) (undone : Undoes (a.coding.search.base_level - 1) a.coding.search b.coding.search) (turn : KeepsTurns a b) where
  -- the trail is that before the turn
  pub undone_base : (v : VariableId) → IsOpen a v → history b.coding.search ≡ base_of a
  undone_base v o =
      let (p, base) = turn (Some v) o in
      let two : 2 ≤ a.coding.search.base_level = o.later in
      let base_level : b.coding.search.base_level ≡ a.coding.search.base_level = undone.same.base_level in
      let low : top_level (history b.coding.search) ≤ a.coding.search.base_level - 1 = undone_low a.coding.search b.coding.search (a.coding.search.base_level - 1) undone (omega arith) in
      sym (below_all b.coding.search.base_level (history b.coding.search) (omega arith)) ∙ base

  -- the conflict's clause may be added
  pub undone_addable : (r : FinalConflict) → IsRefusable a r → IsDenial b.coding.search r.literals.items r.causes.items
  undone_addable r (v, o, last, refused) = addable_clauses a.coding.search b.coding.search r.literals.items r.causes.items undone.same.clauses (refused_addable a v r refused)

  module _ (goes : GoesOn a b) (c : Encoder N S) (learnt : GoesOn b c) (literals : List Signed) (causes : List ClauseId) (clause : ClauseId) (adding : AddsDenial literals causes clause b.coding c.coding) where
    left : (v : VariableId) → IsOpen a v → history c.coding.search ≡ base_of a
    left v o = ap (λ t. reverse t.trail) adding.trail.tracker ∙ undone_base v o

    softs_left : c.recorded.softs.items ≡ a.recorded.softs.items
    softs_left = ap (λ (n : EncodedOnce N S). n.softs.items) (learnt.rest.recorded ∙ goes.rest.recorded)

    -- the soft requirement isn't chosen any more
    pub undone_untaken : (r : FinalConflict) → IsRefusable a r → IsUntaken c
    undone_untaken r (v, o, (prefix, s, last, present), refused) = (
      prefix,
      s,
      softs_left ∙ last,
      λ u other.
          let stays : Represents c.coding.atoms.keys v (Solvable s) = represents_grow a.coding c.coding v (Solvable s) (grows_then a.coding b.coding c.coding goes.grows learnt.grows) present in
          let one : u ≡ v = represents_once c.coding u v (Solvable s) learnt.coding other stays in
          subst (λ (w : VariableId). has (made_true (history c.coding.search)) (yes w) ≡ false) (sym one) (subst (λ (h : List Entry). has (made_true h) (yes v) ≡ false) (sym (left v o)) o.before),
    )

    module _ (same : S → S → Bool) (d : Encoder N S) (taken : TakesBack same c d) where
      pub refuse_rest : KeepsRest a d
      refuse_rest =
          let coding : d.coding ≡ c.coding = ap (λ (x : Encoder N S). x.coding) taken.rest in
          record {
            grows = subst (λ (x : SolverState N S). Grows a.coding x) (sym coding) (grows_then a.coding b.coding c.coding goes.grows learnt.grows);
            lists = ap (λ (x : Encoder N S). x.lists) taken.rest ∙ learnt.rest.lists ∙ goes.rest.lists;
            parents = ap (λ (x : Encoder N S). x.parents) taken.rest ∙ learnt.rest.parents ∙ goes.rest.parents;
            encoded = ap (λ (x : Encoder N S). x.encoded) taken.rest ∙ learnt.rest.encoded ∙ goes.rest.encoded;
          }

      -- the conflict's clause was learnt
      refuse_learnt : IsCoding b.coding → IsLearntAs d.coding literals clause
      refuse_learnt before = subst (λ (x : SolverState N S). IsLearntAs x literals clause) (sym (ap (λ (x : Encoder N S). x.coding) taken.rest)) (added_learnt b.coding c.coding literals causes clause before adding)

      pub refuse_rejected : IsCoding b.coding → (r : FinalConflict) → literals ≡ r.literals.items → IsRefusable a r → IsRejected r a d (SoftOutcome.Refused clause)
      refuse_rejected before r are (v, o, last, refused) = (
        ap (λ (x : Encoder N S). history x.coding.search) taken.rest ∙ left v o,
        λ prefix s is. taken.softs prefix s (softs_left ∙ is),
        subst (λ (ls : List Signed). IsLearntAs d.coding ls clause) are (refuse_learnt before),
      )

-- ---- a soft requirement is recorded

module _ {N S : Type 0} (same : S → S → Bool) (a b : Encoder N S) (one : Offered N S) (many : Bool) (v : VariableId) (registered : RecordsSoft same one many v a b) where
  pub registered_same : history b.coding.search ≡ history a.coding.search
  registered_same = ap (λ t. reverse t.trail) registered.trail.tracker

  pub registered_rooted : IsRooted a → IsRooted b
  registered_rooted rooted = subst (λ ks. slice_get ks.keys 0 ≡ Some Place.Root) (sym registered.parents) rooted

  pub registered_soft : IsSoft b v
  registered_soft = record { solvable = one.solvable; present = registered.present; wished = subst (λ (ws : List S). Contains ws one.solvable) (sym registered.softs) (contains_right one.solvable a.recorded.softs.items (one.solvable ∷ []) (contains_only one.solvable)) }

  registered_parents : IsPrefixOf a.parents.keys b.parents.keys
  registered_parents = prefix_equal a.parents.keys b.parents.keys (ap (λ ks. ks.keys) registered.parents)

  -- what is true is still among the parents
  pub registered_taken : IsCoding a.coding → AreTrueParents a → AreTrueParents b
  registered_taken coding parents s (u, represents, truth) =
      let before : IsTrue a s = true_before a b coding registered.grows.atoms s u represents (subst (λ (h : List Entry). has (made_true h) (yes u) ≡ true) registered_same truth) in
      contains_longer a.parents.keys b.parents.keys (Place.Solvable s) registered_parents (parents s before)

  pub registered_in_order : (p : Packages N S) (orders : Requirement → List S → Type 0) (root : Rules) → IsLawful p → IsListed same p one → many ≡ is_many p one.name → IsInOrder same p orders root a → IsInOrder same p orders root b
  registered_in_order p orders root lawful listed is e = record { encoding = registered.encoding p root lawful e.encoding listed is; ordered = ordered_stays orders a b registered.grows registered.lists e.ordered }

  -- ---- its turn

  module _ (c : Encoder N S) (adds : AddsParents (turn_of b) c) (o : IsOpen c v) (base : base_of c ≡ history b.coding.search) where
    turn_represents : Represents c.coding.atoms.keys v (Solvable one.solvable)
    turn_represents = represents_more b.coding.atoms.keys c.coding.atoms.keys v (Solvable one.solvable) adds.grows.atoms registered.present

    turn_atoms : IsPrefixOf a.coding.atoms.keys c.coding.atoms.keys
    turn_atoms = prefix_then a.coding.atoms.keys b.coding.atoms.keys c.coding.atoms.keys registered.grows.atoms adds.grows.atoms

    turn_clauses : IsPrefixOf a.coding.search.clauses c.coding.search.clauses
    turn_clauses = prefix_then a.coding.search.clauses b.coding.search.clauses c.coding.search.clauses registered.grows.clauses adds.grows.clauses

    turn_kinds : IsPrefixOf a.coding.kinds.items c.coding.kinds.items
    turn_kinds = prefix_then a.coding.kinds.items b.coding.kinds.items c.coding.kinds.items registered.grows.kinds adds.grows.kinds

    turn_ends : EndsWith (history a.coding.search) (history c.coding.search)
    turn_ends = subst (λ (h : List Entry). EndsWith h (history c.coding.search)) (base ∙ registered_same) (below_ends c.coding.search.base_level (history c.coding.search))

    turn_rooted : IsRooted a → IsRooted c
    turn_rooted rooted = still_rooted (turn_of b) c (registered_rooted rooted) adds

    turn_parents : IsPrefixOf a.parents.keys c.parents.keys
    turn_parents = prefix_then a.parents.keys b.parents.keys c.parents.keys registered_parents adds.parents

    turn_encoded : a.encoded ≤ c.encoded
    turn_encoded = let one : b.encoded ≡ a.encoded = registered.encoded in let two : b.encoded ≤ c.encoded = adds.encoded in omega arith

    turn_keeps : KeepsTrail a c
    turn_keeps = record { atoms = turn_atoms; clauses = turn_clauses; kinds = turn_kinds; ends = turn_ends; parents = turn_parents; encoded = turn_encoded; rooted = turn_rooted }

    turn_chosen : IsTurn same (Some v) c None → IsOutcome same one.solvable a c SoftOutcome.Chosen
    turn_chosen ended = (adds.softs ∙ registered.softs, base ∙ registered_same, (v, turn_represents, ended))

    turn_refusable : (r : FinalConflict) → IsTurn same (Some v) c (Some r) → IsRefusable c r
    turn_refusable r ended = (v, o, (a.recorded.softs.items, one.solvable, adds.softs ∙ registered.softs, turn_represents), ended)

    -- ---- it is refused

    module _ (d : Encoder N S) (rest : KeepsRest c d) (r : FinalConflict) (ended : IsTurn same (Some v) c (Some r)) where
      rejected_rooted : IsRooted a → IsRooted d
      rejected_rooted rooted = subst (λ ks. slice_get ks.keys 0 ≡ Some Place.Root) (sym rest.parents) (turn_rooted rooted)

      rejected_parents : IsPrefixOf a.parents.keys d.parents.keys
      rejected_parents = prefix_then a.parents.keys c.parents.keys d.parents.keys turn_parents (prefix_equal c.parents.keys d.parents.keys (ap (λ ks. ks.keys) rest.parents))

      rejected_encoded : a.encoded ≤ d.encoded
      rejected_encoded = let one : a.encoded ≤ c.encoded = turn_encoded in let two : d.encoded ≡ c.encoded = rest.encoded in omega arith

      rejected_clauses : IsPrefixOf a.coding.search.clauses d.coding.search.clauses
      rejected_clauses = prefix_then a.coding.search.clauses c.coding.search.clauses d.coding.search.clauses turn_clauses rest.grows.clauses

      rejected_kinds : IsPrefixOf a.coding.kinds.items d.coding.kinds.items
      rejected_kinds = prefix_then a.coding.kinds.items c.coding.kinds.items d.coding.kinds.items turn_kinds rest.grows.kinds

      rejected_keeps : (w : SoftOutcome) → IsRejected r c d w → KeepsTrail a d
      rejected_keeps SoftOutcome.AlreadyChosen h = absurd h
      rejected_keeps SoftOutcome.Chosen h = absurd h
      rejected_keeps (SoftOutcome.Refused clause) (trail, softs, learnt) = record { atoms = prefix_then a.coding.atoms.keys c.coding.atoms.keys d.coding.atoms.keys turn_atoms rest.grows.atoms; clauses = rejected_clauses; kinds = rejected_kinds; ends = ([], trail ∙ base ∙ registered_same); parents = rejected_parents; encoded = rejected_encoded; rooted = rejected_rooted }
      rejected_keeps (SoftOutcome.Unsat q) (is, none, unchanged) = record {
        atoms = prefix_then a.coding.atoms.keys c.coding.atoms.keys d.coding.atoms.keys turn_atoms rest.grows.atoms;
        clauses = rejected_clauses;
        kinds = rejected_kinds;
        ends = subst (λ (x : Encoder N S). EndsWith (history a.coding.search) (history x.coding.search)) (sym unchanged) turn_ends;
        parents = rejected_parents;
        encoded = rejected_encoded;
        rooted = rejected_rooted;
      }

      rejected_outcome : IsBuilt d → has (made_true (history b.coding.search)) (yes v) ≡ false → (w : SoftOutcome) → IsRejected r c d w → IsOutcome same one.solvable a d w
      rejected_outcome built unchosen SoftOutcome.AlreadyChosen h = absurd h
      rejected_outcome built unchosen SoftOutcome.Chosen h = absurd h
      rejected_outcome built unchosen (SoftOutcome.Refused clause) (trail, softs, learnt) = (
        softs a.recorded.softs.items one.solvable (adds.softs ∙ registered.softs),
        trail ∙ base ∙ registered_same,
        untrue,
      )
        where
          untrue : IsTrue d one.solvable → ⊥
          untrue (u, present, known) =
              let stays : Represents d.coding.atoms.keys v (Solvable one.solvable) = represents_grow c.coding d.coding v (Solvable one.solvable) rest.grows turn_represents in
              let is : u ≡ v = represents_once d.coding u v (Solvable one.solvable) built.coding present stays in
              both_ways _ unchosen (subst (λ (h : List Entry). has (made_true h) (yes v) ≡ true) (trail ∙ base) (subst (λ (w : VariableId). has (made_true (history d.coding.search)) (yes w) ≡ true) is known))
      rejected_outcome built unchosen (SoftOutcome.Unsat q) (is, none, unchanged) = (
        subst (λ (x : Encoder N S). IsRefusal x.coding.search q.literals.items q.causes.items) (sym unchanged)
            (subst (λ (x : FinalConflict). IsRefusal c.coding.search x.literals.items x.causes.items) (sym is) (refused_empty c v r ended (ap (λ (x : FinalConflict). x.literals.items) (sym is) ∙ none))),
        none,
      )

      -- the added clause denies only the soft requirement and the choices before its turn
      rejected_reason : IsCoding a.coding → IsExact same → (same_name : N → N → Bool) → IsExact same_name → (p : Packages N S) (root : Rules) → IsEncoding same p root c → (clause : ClauseId) → IsLearntAs d.coding r.literals.items clause
          → IsReasonOf d.coding (λ t. (t ≡ one.solvable) ⊎ IsTrue a t) clause.0
      rejected_reason coding exact same_name names p root holds clause learnt = record {
        later = learnt.later;
        held = learnt.held;
        present = learnt.present;
        learnt = learnt.learnt;
        denies = λ l h. elim ((refused_blamed c v same exact p root holds same_name names o r ended).blame l (subst (λ (ls : List Signed). has ls l ≡ true) learnt.is h)) [
          | inl itself ↦ inl itself
          | inr (inl soft) ↦ inr (one.solvable, v, soft, represents_grow c.coding d.coding v (Solvable one.solvable) rest.grows turn_represents, inl refl)
          | inr (inr (s, u, is, present, truth)) ↦ inr (s, u, is, represents_grow c.coding d.coding u (Solvable s) rest.grows present, inr (taken_true c v same exact p root holds same_name names o a coding turn_atoms (base ∙ registered_same) s (u, present, truth)))
        ];
      }

      rejected_right : IsCoding a.coding → IsExact same → (same_name : N → N → Bool) → IsExact same_name → (p : Packages N S) (root : Rules) → IsEncoding same p root c → (w : SoftOutcome) → IsRejected r c d w → IsJustified same p root a d one.solvable w
      rejected_right coding exact same_name names p root holds SoftOutcome.AlreadyChosen h = tt
      rejected_right coding exact same_name names p root holds SoftOutcome.Chosen h = tt
      rejected_right coding exact same_name names p root holds (SoftOutcome.Refused clause) (trail, softs, learnt) = (
        refused_denied c v same exact p root holds same_name names o a coding turn_atoms (base ∙ registered_same) one.solvable turn_represents r ended,
        rejected_reason coding exact same_name names p root holds clause learnt,
      )
      rejected_right coding exact same_name names p root holds (SoftOutcome.Unsat q) (is, none, unchanged) = refused_all c v same exact p root holds same_name names o r ended (ap (λ (x : FinalConflict). x.literals.items) (sym is) ∙ none)

    -- ---- it has ended, and is closed

    pub turn_closable : (turn : Option FinalConflict) → IsTurn same (Some v) c turn → IfSome turn (IsRefusable c)
    turn_closable None ended = tt
    turn_closable (Some r) ended = turn_refusable r ended

    module _ (d : Encoder N S) (rest : KeepsRest c d) where
      pub closed_in_order : (p : Packages N S) (orders : Requirement → List S → Type 0) (root : Rules) → (IsEncoding same p root c → IsEncoding same p root d) → IsInOrder same p orders root c → IsInOrder same p orders root d
      closed_in_order p orders root stays e = record { encoding = stays e.encoding; ordered = ordered_stays orders c d rest.grows rest.lists e.ordered }

      pub closed_keeps : (turn : Option FinalConflict) → IsTurn same (Some v) c turn → (w : SoftOutcome) → IsClosed turn c d w → KeepsTrail a d
      closed_keeps None ended w (is, unchanged) = subst (λ (x : Encoder N S). KeepsTrail a x) (sym unchanged) turn_keeps
      closed_keeps (Some r) ended w rejected = rejected_keeps d rest r ended w rejected

      pub closed_outcome : (turn : Option FinalConflict) → IsTurn same (Some v) c turn → IsBuilt d → has (made_true (history b.coding.search)) (yes v) ≡ false → (w : SoftOutcome) → IsClosed turn c d w → IsOutcome same one.solvable a d w
      closed_outcome None ended built unchosen w (is, unchanged) = subst (λ (x : SoftOutcome). IsOutcome same one.solvable a d x) (sym is) (subst (λ (x : Encoder N S). IsOutcome same one.solvable a x SoftOutcome.Chosen) (sym unchanged) (turn_chosen ended))
      closed_outcome (Some r) ended built unchosen w rejected = rejected_outcome d rest r ended built unchosen w rejected

      pub closed_right : (turn : Option FinalConflict) → IsTurn same (Some v) c turn → IsCoding a.coding → IsExact same → (same_name : N → N → Bool) → IsExact same_name → (p : Packages N S) (root : Rules) → IsEncoding same p root c → (w : SoftOutcome) → IsClosed turn c d w
          → IsJustified same p root a d one.solvable w
      closed_right None ended coding exact same_name names p root holds w (is, unchanged) = subst (λ (x : SoftOutcome). IsJustified same p root a d one.solvable x) (sym is) tt
      closed_right (Some r) ended coding exact same_name names p root holds w rejected = rejected_right d rest r ended coding exact same_name names p root holds w rejected

-- ---- the soft requirement was true or false before its turn

-- clauses were added, and nothing else changed
keeps_by : {N S : Type 0} (a c : Encoder N S) → IsPrefixOf a.coding.atoms.keys c.coding.atoms.keys → IsPrefixOf a.coding.search.clauses c.coding.search.clauses → IsPrefixOf a.coding.kinds.items c.coding.kinds.items
    → history c.coding.search ≡ history a.coding.search → c.parents ≡ a.parents → c.encoded ≡ a.encoded → KeepsTrail a c
keeps_by a c atoms clauses kinds trail parents encoded = record {
  atoms = atoms;
  clauses = clauses;
  kinds = kinds;
  ends = ([], trail);
  parents = prefix_equal a.parents.keys c.parents.keys (ap (λ ks. ks.keys) parents);
  encoded = omega (arith, encoded);
  rooted = λ rooted. subst (λ ks. slice_get ks.keys 0 ≡ Some Place.Root) (sym parents) rooted;
}

-- one that was true is recorded
pub chosen_settles : {N S : Type 0} (same : S → S → Bool) (a b : Encoder N S) (s : S) → IsTrue a s → RecordsChosen same s a b → Settles same s a b SoftOutcome.AlreadyChosen
chosen_settles {N} {S} same a b s truth recorded = record {
  keeps = keeps_by a b grows.atoms grows.clauses grows.kinds trail (ap (λ (x : Encoder N S). x.parents) recorded.rest) (ap (λ (x : Encoder N S). x.encoded) recorded.rest);
  places = ap (λ (x : Encoder N S). x.registry) recorded.rest;
  lists = ap (λ (x : Encoder N S). x.lists) recorded.rest;
  outcome = (recorded.softs, trail, subst (λ (x : Encoder N S). IsTrue x s) (sym recorded.rest) truth);
  right = λ p root lawful e. (recorded.encoding p root lawful e, tt);
}
  where
    trail : history b.coding.search ≡ history a.coding.search
    trail = ap (λ (x : Encoder N S). history x.coding.search) recorded.rest

    grows : Grows a.coding b.coding
    grows = subst (λ (x : Encoder N S). Grows a.coding x.coding) (sym recorded.rest) (grows_same a.coding)

module _ {N S : Type 0} (same : S → S → Bool) (exact : IsExact same) (same_name : N → N → Bool) (names : IsExact same_name) (a : Encoder N S) (s : S) (v : VariableId) (present : Represents a.coding.atoms.keys v (Solvable s)) (r : FinalConflict) (tried : IsTried (turn_of a) v (Some r)) where
  -- nothing of the turn is on the trail
  begun_base : base_of (turn_of a) ≡ history a.coding.search
  begun_base = below_all (top_level (history a.coding.search) + 1) (history a.coding.search) tried.1

  begun_taken : (t : S) → IsTaken (turn_of a) t → IsTrue a t
  begun_taken t (u, represents, truth) = (u, represents, subst (λ (h : List Entry). has (made_true h) (yes u) ≡ true) begun_base truth)

  begun_blamed : (p : Packages N S) (root : Rules) → IsEncoding same p root (turn_of a) → IsBlamed (turn_of a) v r.literals.items r.causes.items
  begun_blamed p root holds = reason_blames same exact p root (turn_of a) holds v r.literals.items r.causes.items tried.1 tried.0

  -- a conflict without literals
  unsolvable : StaysEncoding same a (turn_of a) → r.literals.items ≡ [] → Settles same s a (turn_of a) (SoftOutcome.Unsat r)
  unsolvable stays none = record {
    keeps = keeps_by a (turn_of a) (prefix_same a.coding.atoms.keys) (prefix_same a.coding.search.clauses) (prefix_same a.coding.kinds.items) refl refl refl;
    places = refl;
    lists = refl;
    outcome = (refused_empty (turn_of a) v r (inr tried) none, none);
    right = λ p root lawful e.
        let holds = stays p root lawful e in (
          holds,
          λ set keeping. empty_refuses same exact p root (turn_of a) holds same_name names v r.literals.items r.causes.items (begun_blamed p root holds) (ap (λ ls. length ls) none) set keeping,
        );
  }

  -- the conflict's clause is added
  module _ (c : Encoder N S) (clause : ClauseId) (coding : IsCoding (turn_of a).coding) (learnt : GoesOn (turn_of a) c) (adding : AddsDenial r.literals.items r.causes.items clause (turn_of a).coding c.coding) where
    denied_trail : history c.coding.search ≡ history a.coding.search
    denied_trail = ap (λ t. reverse t.trail) adding.trail.tracker

    stays_present : (u : VariableId) (t : S) → Represents a.coding.atoms.keys u (Solvable t) → Represents c.coding.atoms.keys u (Solvable t)
    stays_present u t there = represents_grow (turn_of a).coding c.coding u (Solvable t) learnt.grows there

    denied_reason : (p : Packages N S) (root : Rules) → IsEncoding same p root (turn_of a) → IsReasonOf c.coding (λ t. (t ≡ s) ⊎ IsTrue a t) clause.0
    denied_reason p root holds =
        let is : IsLearntAs c.coding r.literals.items clause = added_learnt (turn_of a).coding c.coding r.literals.items r.causes.items clause coding adding in
        record {
          later = is.later;
          held = is.held;
          present = is.present;
          learnt = is.learnt;
          denies = λ l h. elim ((begun_blamed p root holds).blame l (subst (λ (ls : List Signed). has ls l ≡ true) is.is h)) [
            | inl itself ↦ inl itself
            | inr (inl soft) ↦ inr (s, v, soft, stays_present v s present, inl refl)
            | inr (inr (t, u, no_u, there, truth)) ↦ inr (t, u, no_u, stays_present u t there, inr (begun_taken t (u, there, truth)))
          ];
        }

    denied_untrue : has (made_true (history a.coding.search)) (no v) ≡ true → IsTrail (count_of a.coding.search) (clauses_of a.coding.search) (history a.coding.search) → IsTrue c s → ⊥
    denied_untrue denied trail (u, there, known) =
        let is : u ≡ v = represents_once c.coding u v (Solvable s) learnt.coding there (stays_present v s present) in
        consistent (count_of a.coding.search) (clauses_of a.coding.search) (history a.coding.search) (yes v) trail
        (subst (λ (h : List Entry). has (made_true h) (yes v) ≡ true) denied_trail (subst (λ (w : VariableId). has (made_true (history c.coding.search)) (yes w) ≡ true) is known)) denied

    refused : StaysEncoding same a (turn_of a) → StaysEncoding same (turn_of a) c → IsCoding a.coding → has (made_true (history a.coding.search)) (no v) ≡ true → Settles same s a c (SoftOutcome.Refused clause)
    refused begins stays before denied = record {
      keeps = keeps_by a c learnt.grows.atoms learnt.grows.clauses learnt.grows.kinds denied_trail learnt.rest.parents learnt.rest.encoded;
      places = learnt.rest.registry;
      lists = learnt.rest.lists;
      outcome = (ap (λ (n : EncodedOnce N S). n.softs.items) learnt.rest.recorded, denied_trail, denied_untrue denied before.ready.state.trail);
      right = λ p root lawful e.
          let holds = begins p root lawful e in (
            stays p root lawful holds,
            (
              λ set keeping all held. blame_refuses same exact p root (turn_of a) holds same_name names v s r.literals.items r.causes.items (begun_blamed p root holds) present set keeping (λ t taken. all t (begun_taken t taken)) held,
              denied_reason p root holds,
            ),
          );
    }

none_left : {X : Type 0} (xs : List X) → length xs ≡ 0 → xs ≡ []
none_left [] h = refl
none_left (x ∷ xs) h = absurd (let none : length (x ∷ xs) ≡ 0 = h in omega arith)

-- the same of the encoding at the turn's begin
module _ {N S : Type 0} (same : S → S → Bool) (exact : IsExact same) (same_name : N → N → Bool) (names : IsExact same_name) (a b : Encoder N S) (s : S) (v : VariableId) (present : Represents a.coding.atoms.keys v (Solvable s)) (r : FinalConflict) (tried : IsTried b v (Some r)) (begun : b ≡ turn_of a) (begins : StaysEncoding same a b) where
  tried_begun : IsTried (turn_of a) v (Some r)
  tried_begun = subst (λ (x : Encoder N S). IsTried x v (Some r)) begun tried

  begins_turn : StaysEncoding same a (turn_of a)
  begins_turn = subst (λ (x : Encoder N S). StaysEncoding same a x) begun begins

  pub unsat_settles : length r.literals.items ≡ 0 → Settles same s a b (SoftOutcome.Unsat r)
  unsat_settles none = subst (λ (x : Encoder N S). Settles same s a x (SoftOutcome.Unsat r)) (sym begun) (unsolvable same exact same_name names a s v present r tried_begun begins_turn (none_left r.literals.items none))

  pub refused_settles : (c : Encoder N S) (clause : ClauseId) → IsBuilt b → GoesOn b c → AddsDenial r.literals.items r.causes.items clause b.coding c.coding → StaysEncoding same b c → IsCoding a.coding → has (made_true (history a.coding.search)) (no v) ≡ true → Settles same s a c (SoftOutcome.Refused clause)
  refused_settles c clause built learnt adding stays before denied =
      refused same exact same_name names a s v present r tried_begun c clause (subst (λ (x : Encoder N S). IsCoding x.coding) begun built.coding) (subst (λ (x : Encoder N S). GoesOn x c) begun learnt)
      (subst (λ (x : Encoder N S). AddsDenial r.literals.items r.causes.items clause x.coding c.coding) begun adding) begins_turn (subst (λ (x : Encoder N S). StaysEncoding same x c) begun stays) before denied

-- the candidates stay in order
pub settled_order : {N S : Type 0} (same : S → S → Bool) (a c : Encoder N S) (s : S) (w : SoftOutcome) → Settles same s a c w → (orders : Requirement → List S → Type 0) → AreOrdered orders a → AreOrdered orders c
settled_order same a c s w settled orders = ordered_stays orders (floored a c.coding.search.base_level) c (record { atoms = settled.keeps.atoms; clauses = settled.keeps.clauses; kinds = settled.keeps.kinds; base_level = refl }) settled.lists

-- ---- it was undecided

-- a solvable without a variable is
pub unfound_open : {N S : Type 0} (e : Encoder N S) (s : S) → IsFound e.coding.atoms.keys (Solvable s) None → IsOpenSoft e s
unfound_open e s none u (k, is, at) = absurd (none k at)

-- one whose variable is neither true nor false is
pub found_open : {N S : Type 0} (e : Encoder N S) (s : S) (v : VariableId) → IsCoding e.coding → Represents e.coding.atoms.keys v (Solvable s) → IsUndecided (made_true (history e.coding.search)) (yes v) → IsOpenSoft e s
found_open e s v coding present undecided u there = subst (λ (w : VariableId). IsUndecided (made_true (history e.coding.search)) (yes w)) (sym (represents_once e.coding u v (Solvable s) coding there present)) undecided

-- and still is once it is recorded
pub recorded_undecided : {N S : Type 0} (same : S → S → Bool) (a b : Encoder N S) (one : Offered N S) (many : Bool) (v : VariableId) → RecordsSoft same one many v a b → IsCoding a.coding → IsOpenSoft a one.solvable → IsUndecided (made_true (history b.coding.search)) (yes v)
recorded_undecided same a b one many v recorded coding undecided = record { not_true = unknown (yes v) refl (λ before. before.not_true); not_false = unknown (no v) refl (λ before. before.not_false) }
  where
    before : List Signed
    before = made_true (history a.coding.search)

    unknown : (l : Signed) → l.variable ≡ v → (IsUndecided before (yes v) → has before l ≡ false) → has (made_true (history b.coding.search)) l ≡ false
    unknown l is free = elim (cases_Bool (has (made_true (history b.coding.search)) l)) [
      | inl known ↦
          let now : has before l ≡ true = subst (λ (h : List Entry). has (made_true h) l ≡ true) (registered_same same a b one many v recorded) known in
          let there : Represents a.coding.atoms.keys l.variable (Solvable one.solvable) = present_before a b coding recorded.grows.atoms one.solvable l (subst (λ (w : VariableId). Represents b.coding.atoms.keys w (Solvable one.solvable)) (sym is) recorded.present) now in
          absurd (both_ways _ (free (undecided v (subst (λ (w : VariableId). Represents a.coding.atoms.keys w (Solvable one.solvable)) is there))) now)
      | inr untrue ↦ untrue
    ]
