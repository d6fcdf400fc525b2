-- The trail before a turn.
use Rattle.std.proofs.Common.{◌≡◌, ℕ, ◌+◌, ◌-◌, ◌<◌, ◌≤◌, ◌⊎◌, inl, inr, Bool, true, false, List, [], ◌∷◌, ◌++◌, reverse, Option, Some, None, refl, sym, ◌∙◌, ap, subst, arith, lt-ltb, le-ltb}
use Rattle.std.specs.Prelude.{nat_lt, cond, Contains}
use Rattle.std.proofs.lemmas.Bool.{both_ways}
use Rattle.resolvo_pool_core.specs.declared.id.ClauseId.{ClauseId}
use Rattle.resolvo_pool_core.specs.declared.id.VariableId.{VariableId}
use Rattle.resolvo_store_core.specs.Signed.{Signed, has}
use Rattle.resolvo_store_core.specs.Clauses.{yes}
use Rattle.resolvo_store_core.specs.declared.decision.Entry.{Entry}
use Rattle.resolvo_sat.specs.declared.propagate_and_learn.StepResult.{StepResult}
use Rattle.resolvo_sat.specs.PropagateAndLearn.{IsProgress}
use Rattle.resolvo_sat.specs.Entries.{made_true, top_level, IsOnTrail, IsTrail, IsUndone, EndsWith}
use Rattle.resolvo_sat.specs.State.{count_of, history, clauses_of}
use Rattle.resolvo_sat.specs.Steps.{Chooses, Undoes, choice_entry}
use Rattle.resolvo_sat.proofs.ImproveLemmas.{extends_earlier, choice_earlier}
use Rattle.resolvo_sat.proofs.Trails.{level_steps}
use Rattle.resolvo_sat.proofs.StepLemmas.{reverse_push, undone_low}
use Rattle.resolvo_state.specs.declared.solver_state.SolverState.{SolverState}
use Rattle.resolvo_state.specs.SolverState.{Advances, Grows, SameTrail}
use Rattle.resolvo_state.proofs.Growth.{below_or_not, represents_grow}
use Rattle.resolvo_encoder.specs.declared.encoder.Encoder.{Encoder}
use Rattle.resolvo_encoder.specs.declared.encoder.EncodedOnce.{EncodedOnce}
use Rattle.resolvo_encoder.specs.Base.{below, base_of, IsFirst, IsOpen, HasTurn, KeepsTurn, KeepsTurns, KeepsFirst}
use Rattle.resolvo_encoder.specs.Progress.{GoesOn}
use Rattle.resolvo_encoder.specs.SoftRequirement.{turn_of, IsSoft}

-- ---- the part of a trail below a level

lt_true : (m n : ℕ) → m < n → nat_lt m n ≡ true
lt_true m n h = lt-ltb m n h

lt_false : (m n : ℕ) → n ≤ m → nat_lt m n ≡ false
lt_false m n h = le-ltb m n h

below_here : (level : ℕ) (e : Entry) (older : List Entry) → e.level < level → below level (e ∷ older) ≡ e ∷ older
below_here level e older low = ap (λ (b : Bool). cond b (e ∷ older) (below level older)) (lt_true e.level level low)

below_further : (level : ℕ) (e : Entry) (older : List Entry) → level ≤ e.level → below level (e ∷ older) ≡ below level older
below_further level e older high = ap (λ (b : Bool). cond b (e ∷ older) (below level older)) (lt_false e.level level high)

at_or_above : (e level : ℕ) → (e < level) ⊎ (level ≤ e)
at_or_above e level = below_or_not e level

-- a trail that ends below the level
pub below_all : (level : ℕ) (h : List Entry) → top_level h < level → below level h ≡ h
below_all level [] low = refl
below_all level (e ∷ older) low = below_here level e older low

-- the trail extends it
pub below_ends : (level : ℕ) (h : List Entry) → EndsWith (below level h) h
below_ends level [] = ([], refl)
below_ends level (e ∷ older) = elim (at_or_above e.level level) [
  | inl low ↦ ([], sym (below_here level e older low))
  | inr high ↦ let (p, is) = below_ends level older in (e ∷ p, ap (λ (x : List Entry). e ∷ x) (is ∙ ap (λ (x : List Entry). p ++ x) (sym (below_further level e older high))))
]

-- the rest where the entries of the level and above are undone
pub undone_below : (level : ℕ) (old new : List Entry) → IsUndone level old new → top_level new ≤ level → new ≡ below (level + 1) old
undone_below level [] new u low = u
undone_below level (e ∷ older) new (inl is) low =
    let top : top_level new ≡ e.level = ap top_level is in
    is ∙ sym (below_here (level + 1) e older (omega arith))
undone_below level (e ∷ older) new (inr (high, u)) low = undone_below level older new u low ∙ sym (below_further (level + 1) e older (omega arith))

-- levels don't fall below one that an earlier entry has
pub above_choice : (count : ℕ) (cs : List (List Signed)) (level : ℕ) (q rest : List Entry) → IsTrail count cs (q ++ rest) → level ≤ top_level rest → level ≤ top_level (q ++ rest)
above_choice count cs level [] rest t high = high
above_choice count cs level (d ∷ q) rest t high =
    let before : level ≤ top_level (q ++ rest) = above_choice count cs level q rest t.1 high in
    let step : top_level (q ++ rest) ≤ d.level = (level_steps count cs d (q ++ rest) t.0).0 in
    omega arith

pub below_choice : (count : ℕ) (cs : List (List Signed)) (level : ℕ) (q : List Entry) (e : Entry) (base : List Entry) → IsTrail count cs (q ++ e ∷ base) → level ≤ e.level → top_level base < level → below level (q ++ e ∷ base) ≡ base
below_choice count cs level [] e base t high low = below_further level e base high ∙ below_all level base low
below_choice count cs level (d ∷ q) e base t high low =
    let before : level ≤ top_level (q ++ e ∷ base) = above_choice count cs level q (e ∷ base) t.1 high in
    let step : top_level (q ++ e ∷ base) ≤ d.level = (level_steps count cs d (q ++ e ∷ base) t.0).0 in
    below_further level d (q ++ e ∷ base) (omega arith) ∙ below_choice count cs level q e base t.1 high low

-- an entry below the level is in the part below it
pub on_trail_below : (level : ℕ) (h : List Entry) (d : Entry) (older : List Entry) → IsOnTrail h d older → d.level < level → IsOnTrail (below level h) d older
on_trail_below level [] d older s low = absurd s
on_trail_below level (e ∷ rest) d older s low = elim (at_or_above e.level level) [
  | inl here ↦ subst (λ (x : List Entry). IsOnTrail x d older) (sym (below_here level e rest here)) s
  | inr high ↦ subst (λ (x : List Entry). IsOnTrail x d older) (sym (below_further level e rest high)) (elim s [
    | inl (is, same) ↦ (let one : e.level ≡ d.level = ap (λ (x : Entry). x.level) is in absurd (omega arith))
    | inr s ↦ on_trail_below level rest d older s low
  ])
]

one_above : (base_level : ℕ) → 2 ≤ base_level → (base_level - 1) + 1 ≡ base_level
one_above base_level two = omega arith

-- ---- a turn that continues

module _ {N S : Type 0} where
  -- the turn of a soft requirement, over another encoding with the same trail below the level
  open_kept : (old new : Encoder N S) (v : VariableId) → IsOpen old v → IsSoft new v → new.coding.search.base_level ≡ old.coding.search.base_level → base_of new ≡ base_of old → (has (made_true (history new.coding.search)) (yes v) ≡ true → IsFirst new v) → IsOpen new v
  open_kept old new v o soft base_level base first = record {
    soft = soft;
    later = subst (λ n. 2 ≤ n) (sym base_level) o.later;
    begun = ap (λ (h : List Entry). top_level h + 1) base ∙ o.begun ∙ sym base_level;
    before = subst (λ (h : List Entry). has (made_true h) (yes v) ≡ false) (sym base) o.before;
    first = first;
  }

  first_kept : (old new : Encoder N S) (v : VariableId) (c : ClauseId) → base_of new ≡ base_of old → EndsWith (choice_entry v c (base_of old) ∷ base_of old) (history new.coding.search) → IsFirst new v
  first_kept old new v c base ends = (c, subst (λ (h : List Entry). EndsWith (choice_entry v c h ∷ h) (history new.coding.search)) (sym base) ends)

  soft_grows : (old new : Encoder N S) (v : VariableId) → Grows old.coding new.coding → new.recorded.softs.items ≡ old.recorded.softs.items → IsSoft old v → IsSoft new v
  soft_grows old new v grows softs w = record {
    solvable = w.solvable;
    present = represents_grow old.coding new.coding v _ grows w.present;
    wished = subst (λ (xs : List S). Contains xs w.solvable) (sym softs) w.wished;
  }

  -- where the trail is unchanged
  pub same_turns : (old new : Encoder N S) → Grows old.coding new.coding → SameTrail old.coding new.coding → new.recorded.softs.items ≡ old.recorded.softs.items → KeepsTurns old new
  same_turns old new grows trail softs None = λ first. grows.base_level ∙ first
  same_turns old new grows trail softs (Some v) = λ o.
      let same : history new.coding.search ≡ history old.coding.search = ap (λ t. reverse t.trail) trail.tracker in
      let base : base_of new ≡ base_of old = ap (λ n. below n (history new.coding.search)) grows.base_level ∙ ap (λ (h : List Entry). below old.coding.search.base_level h) same in (
        open_kept old new v o (soft_grows old new v grows softs o.soft) grows.base_level base (λ known. (let (c, ends) = o.first (subst (λ (h : List Entry). has (made_true h) (yes v) ≡ true) same known) in first_kept old new v c base (subst (λ (h : List Entry). EndsWith (choice_entry v c (base_of old) ∷ base_of old) h) (sym same) ends))),
        base,
      )

  pub turn_then : (soft : Option VariableId) (a b c : Encoder N S) → KeepsTurn soft a b → KeepsTurn soft b c → KeepsTurn soft a c
  turn_then None a b c f g = λ h. g (f h)
  turn_then (Some v) a b c f g = λ h. (let (o, base) = f h in let (o', base') = g o in (o', base' ∙ base))

  pub turns_then : (a b c : Encoder N S) → KeepsTurns a b → KeepsTurns b c → KeepsTurns a c
  turns_then a b c f g soft = turn_then soft a b c (f soft) (g soft)

  pub turn_same : (soft : Option VariableId) (a : Encoder N S) → KeepsTurn soft a a
  turn_same None a = λ h. h
  turn_same (Some v) a = λ h. (h, refl)

  pub turn_has : (soft : Option VariableId) (a b : Encoder N S) → HasTurn soft a → KeepsTurn soft a b → HasTurn soft b
  turn_has None a b h k = k h
  turn_has (Some v) a b h k = (k h).0

  -- the turn's entries are undone
  pub turn_undone : (old new : Encoder N S) → GoesOn old new → Undoes (old.coding.search.base_level - 1) old.coding.search new.coding.search → KeepsTurns old new
  turn_undone old new goes undoes None = λ first. goes.grows.base_level ∙ first
  turn_undone old new goes undoes (Some v) = λ o.
      let two : 2 ≤ old.coding.search.base_level = o.later in
      let level : (old.coding.search.base_level - 1) + 1 ≡ old.coding.search.base_level = one_above old.coding.search.base_level two in
      let ends : top_level (history new.coding.search) ≤ old.coding.search.base_level - 1 = undone_low old.coding.search new.coding.search (old.coding.search.base_level - 1) undoes (omega arith) in
      let left : history new.coding.search ≡ base_of old = undone_below (old.coding.search.base_level - 1) (history old.coding.search) (history new.coding.search) undoes.undone ends ∙ ap (λ n. below n (history old.coding.search)) level in
      let low : top_level (history new.coding.search) < new.coding.search.base_level = (let base_level : new.coding.search.base_level ≡ old.coding.search.base_level = goes.grows.base_level in omega arith) in
      let base : base_of new ≡ base_of old = below_all new.coding.search.base_level (history new.coding.search) low ∙ left in (
        open_kept old new v o (soft_grows old new v goes.grows (ap (λ (n : EncodedOnce N S). n.softs.items) goes.rest.recorded) o.soft) goes.grows.base_level base
            (λ known. absurd (both_ways _ o.before (subst (λ (h : List Entry). has (made_true h) (yes v) ≡ true) left known))),
        base,
      )

  -- the soft requirement is decided at the turn's first level
  pub turn_chosen : (old new : Encoder N S) (v : VariableId) (c : ClauseId) → GoesOn old new → Chooses v c old.coding.search new.coding.search → top_level (history old.coding.search) < old.coding.search.base_level → KeepsTurn (Some v) old new
  turn_chosen old new v c goes chosen low o =
      let whole : base_of old ≡ history old.coding.search = below_all old.coding.search.base_level (history old.coding.search) low in
      let pushed : history new.coding.search ≡ choice_entry v c (base_of old) ∷ base_of old = (ap reverse chosen.pushed ∙ reverse_push old.coding.search.tracker.trail (choice_entry v c (history old.coding.search))) ∙ ap (λ (h : List Entry). choice_entry v c h ∷ h) (sym whole) in
      let base_level : new.coding.search.base_level ≡ old.coding.search.base_level = goes.grows.base_level in
      let begun : top_level (base_of old) + 1 ≡ old.coding.search.base_level = o.begun in
      let base : base_of new ≡ base_of old = ap (λ (h : List Entry). below new.coding.search.base_level h) pushed ∙ below_further new.coding.search.base_level (choice_entry v c (base_of old)) (base_of old) (omega arith) ∙ below_all new.coding.search.base_level (base_of old) (omega arith) in (
        open_kept old new v o (soft_grows old new v goes.grows (ap (λ (n : EncodedOnce N S). n.softs.items) goes.rest.recorded) o.soft) base_level base (λ known. first_kept old new v c base ([], pushed)),
        base,
      )

  -- a step of the search once the soft requirement is decided
  pub turn_decided : (old new : Encoder N S) (v : VariableId) → GoesOn old new → KeepsFirst old new → has (made_true (history old.coding.search)) (yes v) ≡ true → KeepsTurn (Some v) old new
  turn_decided old new v goes first known o =
      let (c, ends) = o.first known in
      let begun : top_level (base_of old) + 1 ≡ old.coding.search.base_level = o.begun in
      let base_level : new.coding.search.base_level ≡ old.coding.search.base_level = goes.grows.base_level in
      let (q, is) = first (choice_entry v c (base_of old) ∷ base_of old) (omega arith) ends in
      let trail : IsTrail (count_of new.coding.search) (clauses_of new.coding.search) (q ++ choice_entry v c (base_of old) ∷ base_of old) = subst (λ (h : List Entry). IsTrail (count_of new.coding.search) (clauses_of new.coding.search) h) is goes.coding.ready.state.trail in
      let base : base_of new ≡ base_of old = ap (λ (h : List Entry). below new.coding.search.base_level h) is ∙ below_choice (count_of new.coding.search) (clauses_of new.coding.search) new.coding.search.base_level q (choice_entry v c (base_of old)) (base_of old) trail (omega arith) (omega arith) in (
        open_kept old new v o (soft_grows old new v goes.grows (ap (λ (n : EncodedOnce N S). n.softs.items) goes.rest.recorded) o.soft) base_level base (λ now. first_kept old new v c base (q, is)),
        base,
      )

  -- a turn begins
  pub turn_begun : (e : Encoder N S) (v : VariableId) → IsSoft e v → 1 ≤ top_level (history e.coding.search) → has (made_true (history e.coding.search)) (yes v) ≡ false → IsOpen (turn_of e) v × (base_of (turn_of e) ≡ history e.coding.search)
  turn_begun e v soft one unchosen =
      let base : base_of (turn_of e) ≡ history e.coding.search = below_all (top_level (history e.coding.search) + 1) (history e.coding.search) (omega arith) in (
        record {
          soft = record { solvable = soft.solvable; present = soft.present; wished = soft.wished };
          later = omega arith;
          begun = ap (λ (h : List Entry). top_level h + 1) base;
          before = subst (λ (h : List Entry). has (made_true h) (yes v) ≡ false) (sym base) unchosen;
          first = λ known. absurd (both_ways _ unchosen known);
        },
        base,
      )

  -- a soft requirement that is to be decided isn't true
  pub open_unchosen : (e : Encoder N S) (v : VariableId) → IsOpen e v → top_level (history e.coding.search) < e.coding.search.base_level → has (made_true (history e.coding.search)) (yes v) ≡ false
  open_unchosen e v o low = subst (λ (h : List Entry). has (made_true h) (yes v) ≡ false) (below_all e.coding.search.base_level (history e.coding.search) low) o.before

  -- ---- the trail up to the turn's first level

  pub first_same : (a : Encoder N S) → KeepsFirst a a
  first_same a = λ base low ends. ends

  pub first_then : (a b c : Encoder N S) → b.coding.search.base_level ≡ a.coding.search.base_level → KeepsFirst a b → KeepsFirst b c → KeepsFirst a c
  first_then a b c base_level f g = λ base low ends. g base (omega arith) (f base low ends)

  pub step_first : (old : Encoder N S) (c : SolverState N S) (q : StepResult) → Advances old.coding c q → KeepsFirst old (record old { coding = c })
  step_first old c q step = go q step.progress
    where
      go : (r : StepResult) → IsProgress old.coding.search old.coding.watching c.search c.watching r → KeepsFirst old (record old { coding = c })
      go StepResult.Complete h = λ base low ends. extends_earlier old.coding.search c.search base h.extends ends
      go (StepResult.Learnt id) h = λ base low ends. h.earlier base low ends
      go (StepResult.Refused r) h = λ base low ends. extends_earlier old.coding.search c.search base h.2 ends

  pub choice_first : (old : Encoder N S) (c : SolverState N S) (v : VariableId) (clause : ClauseId) → Chooses v clause old.coding.search c.search → KeepsFirst old (record old { coding = c })
  choice_first old c v clause chosen = λ base low ends. choice_earlier old.coding.search c.search v clause base chosen ends
