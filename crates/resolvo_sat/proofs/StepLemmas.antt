-- Lemmas on the steps of the search.
use Rattle.std.proofs.Common.{◌≡◌, ℕ, zero, suc, ◌+◌, ◌-◌, ◌<◌, ◌≤◌, ◌^◌, ◌⊎◌, inl, inr, true, false, List, [], ◌∷◌, ◌++◌, reverse, length, get_or, None, refl, sym, ◌∙◌, ap, subst, arith}
use Rattle.std.specs.Prelude.{max}
use Rattle.std.proofs.lemmas.Bool.{both_ways}
use Rattle.std.proofs.lemmas.List.{append_assoc, length-append, reverse-append, reverse-reverse, length-reverse, get_or-reverse}
use Rattle.resolvo_pool_core.specs.declared.id.ClauseId.{ClauseId}
use Rattle.resolvo_pool_core.specs.declared.id.VariableId.{VariableId}
use Rattle.resolvo_store_core.specs.Signed.{Signed, has}
use Rattle.resolvo_store_core.specs.Clauses.{yes, root}
use Rattle.resolvo_store_core.specs.declared.decision.Decision.{Decision}
use Rattle.resolvo_store_core.specs.declared.decision.Entry.{Entry}
use Rattle.resolvo_store_core.specs.declared.decision_tracker.Set.{Set}
use Rattle.resolvo_store_core.specs.AddPairs.{set_for, with_entry}
use Rattle.resolvo_store_core.specs.Trail as Store
use Rattle.resolvo_store_core.proofs.Trails as StoreTrails
use Rattle.resolvo_sat.specs.Clauses.{SatClause}
use Rattle.resolvo_sat.specs.declared.state.SatState.{SatState}
use Rattle.resolvo_sat.specs.Known.{IsUndecided, Forces, clause_at}
use Rattle.resolvo_sat.specs.Entries.{made_true, top_level, Follows, IsTrail, IsUndone, IsRooted}
use Rattle.resolvo_sat.specs.State.{count_of, history, lists, clauses_of, IsDerived, AreDerived, IsState}
use Rattle.resolvo_sat.specs.Steps.{AreInRange, forced_entry, choice_entry, SameBut, Sets, Chooses, Shortens, IsQheadUndone, Undoes, Adds}
use Rattle.resolvo_sat.proofs.Trails.{trail_more, undone_trail, undone_rooted, undone_all, length_le, level_le_last, level_le_length, root_level, rooted_rest}
use Rattle.resolvo_sat.proofs.Values.{undecided_none}

pub reverse_push : {X : Type 0} (xs : List X) (y : X) → reverse (xs ++ y ∷ []) ≡ y ∷ reverse xs
reverse_push xs y = reverse-append xs (y ∷ [])

rooted_push : (e : Entry) (h : List Entry) → IsRooted h → IsRooted (e ∷ h)
rooted_push e [] r = absurd r
rooted_push e (d ∷ older) r = r

-- an entry that may follow is appended to the trail
pub state_pushed : (s : SatState) (t : Store.Tracked) (e : Entry) → IsState s → Follows (count_of s) (clauses_of s) e (history s) → t.trail ≡ s.tracker.trail ++ e ∷ [] → IsState (record s { tracker = t })
state_pushed s t e state follows pushed =
    let newest : reverse t.trail ≡ e ∷ history s = ap reverse pushed ∙ reverse_push s.tracker.trail e in
    record {
      trail = subst (IsTrail (count_of s) (clauses_of s)) (sym newest) (follows, state.trail);
      derived = state.derived;
      in_range = state.in_range;
      small = state.small;
      floor_low = state.floor_low;
      rooted = subst IsRooted (sym newest) (rooted_push e (history s) state.rooted);
    }

-- a decision of an undecided variable is new
added_new : (t u : Store.Tracked) (e : Entry) (x : Set) → Store.value_in t.trail e.decision.variable.0 ≡ None → x ≡ set_for e.decision.value (Store.value_in t.trail e.decision.variable.0) → u ≡ with_entry x e t → u ≡ record t { trail = t.trail ++ e ∷ [] }
added_new t u e x none answer is = is ∙ ap (λ (y : Set). with_entry y e t) (answer ∙ ap (set_for e.decision.value) none)

added_seen : (t u : Store.Tracked) (e : Entry) → u ≡ record t { trail = t.trail ++ e ∷ [] } → Store.KeepsSeen t u
added_seen t u e is = subst (Store.KeepsSeen t) (sym is) (StoreTrails.seen_pushed t e)

pub forced_added : (s : SatState) (u : Store.Tracked) (c : ClauseId) (l : Signed) (x : Set) (e : Entry) → IsState s → Forces (made_true (history s)) (clause_at (clauses_of s) c.0) l → e ≡ forced_entry c l (history s)
    → x ≡ set_for e.decision.value (Store.value_in s.tracker.trail e.decision.variable.0) → u ≡ with_entry x e s.tracker → Sets c l s (record s { tracker = u })
forced_added s u c l x e state forces is answer with =
    let none : Store.value_in s.tracker.trail e.decision.variable.0 ≡ None = subst (λ (d : Entry). Store.value_in s.tracker.trail d.decision.variable.0 ≡ None) (sym is) (undecided_none s.tracker.trail l forces.undecided) in
    let added : u ≡ record s.tracker { trail = s.tracker.trail ++ e ∷ [] } = added_new s.tracker u e x none answer with in
    let pushed : u.trail ≡ s.tracker.trail ++ forced_entry c l (history s) ∷ [] = ap (λ (t : Store.Tracked). t.trail) added ∙ ap (λ (d : Entry). s.tracker.trail ++ d ∷ []) is in
    record {
      state = state_pushed s u (forced_entry c l (history s)) state (record { undecided = forces.undecided; in_range = state.in_range c.0 l forces.forced.present; reasoned = inr (record { level = refl; forced = forces.forced }) }) pushed;
      same = record { variables = refl; base_level = refl; clauses = refl; seen = added_seen s.tracker u e added };
      pushed = pushed;
      qhead = refl;
      guard = refl;
    }

pub choice_added : (s : SatState) (u : Store.Tracked) (v : VariableId) (c : ClauseId) (x : Set) (e : Entry) → IsState s → v.0 < count_of s → IsUndecided (made_true (history s)) (yes v) → e ≡ choice_entry v c (history s)
    → x ≡ set_for e.decision.value (Store.value_in s.tracker.trail e.decision.variable.0) → u ≡ with_entry x e s.tracker → Chooses v c s (record s { tracker = u })
choice_added s u v c x e state in_range free is answer with =
    let none : Store.value_in s.tracker.trail e.decision.variable.0 ≡ None = subst (λ (d : Entry). Store.value_in s.tracker.trail d.decision.variable.0 ≡ None) (sym is) (undecided_none s.tracker.trail (yes v) free) in
    let added : u ≡ record s.tracker { trail = s.tracker.trail ++ e ∷ [] } = added_new s.tracker u e x none answer with in
    let pushed : u.trail ≡ s.tracker.trail ++ choice_entry v c (history s) ∷ [] = ap (λ (t : Store.Tracked). t.trail) added ∙ ap (λ (d : Entry). s.tracker.trail ++ d ∷ []) is in
    record {
      state = state_pushed s u (choice_entry v c (history s)) state (record { undecided = free; in_range = in_range; reasoned = inl (record { opens = refl; positive = refl }) }) pushed;
      same = record { variables = refl; base_level = refl; clauses = refl; seen = added_seen s.tracker u e added };
      pushed = pushed;
      qhead = refl;
      guard = refl;
    }

-- levels are small numbers
pub level_bounded : (s : SatState) → IsState s → top_level (history s) < 2 ^ 31
level_bounded s state =
    let a : top_level (history s) ≤ length (history s) = level_le_length (count_of s) (clauses_of s) (history s) state.trail in
    let b : length (history s) ≤ count_of s = length_le (count_of s) (clauses_of s) (history s) state.trail in
    let small : count_of s < 2 ^ 31 = state.small in
    omega arith

-- the tracker's last level is that of the newest entry
pub last_is_top : (es : List Entry) → Store.last_level es ≡ top_level (reverse es)
last_is_top es = go (reverse es) es (sym (reverse-reverse es))
  where
    go : (h es : List Entry) → es ≡ reverse h → Store.last_level es ≡ top_level h
    go [] es e = ap Store.last_level e
    go (d ∷ older) es e = ap Store.last_level (e ∙ reverse-append (d ∷ []) older) ∙ StoreTrails.last_level_end (reverse older) d

-- entries above the level are before the remaining ones
undone_over : (level : ℕ) (h base : List Entry) → ((i : ℕ) (d : Entry) → i < length h → level < (get_or h i d).level) → IsUndone level (h ++ base) base
undone_over level [] base above = undone_all level base
undone_over level (e ∷ h) base above = inr (above 0 e (omega arith), undone_over level h base (λ i d lt. above (suc i) d (omega arith)))

pub undone_is : (level : ℕ) (a b : Store.Tracked) → Store.TakesAway level a b → IsUndone level (reverse a.trail) (reverse b.trail)
undone_is level a b t =
    let whole : reverse a.trail ≡ reverse t.undone ++ reverse b.trail = ap reverse t.trail ∙ reverse-append b.trail t.undone in
    subst (λ (h : List Entry). IsUndone level h (reverse b.trail)) (sym whole) (undone_over level (reverse t.undone) (reverse b.trail) (λ i d lt.
    let same : length (reverse t.undone) ≡ length t.undone = length-reverse t.undone in
    let within : i < length t.undone = omega arith in
    subst (λ (e : Entry). level < e.level) (sym (get_or-reverse t.undone i d within)) (t.above (length t.undone - 1 - i) d (omega arith))))

-- entries were undone, and the propagation head was set
pub state_undone : (s u : SatState) (level : ℕ) → IsState s → 1 ≤ level → Store.Undoes level s.tracker u.tracker → u ≡ record s { tracker = u.tracker; qhead = u.qhead; guard_level = u.guard_level; indexed = u.indexed } → IsQheadUndone level s u → Undoes level s u
state_undone s u level state one undoes same qhead =
    let undone : IsUndone level (history s) (history u) = undone_is level s.tracker u.tracker undoes.0 in
    let here : IsState (record s { tracker = u.tracker; qhead = u.qhead; guard_level = u.guard_level; indexed = u.indexed }) = record {
      trail = undone_trail level (count_of s) (clauses_of s) (history s) (history u) undone state.trail;
      derived = state.derived;
      in_range = state.in_range;
      small = state.small;
      floor_low = state.floor_low;
      rooted = undone_rooted level (history s) (history u) one undone state.rooted;
    } in
    record {
      state = subst IsState (sym same) here;
      same = subst (SameBut s) (sym same) (record { variables = refl; base_level = refl; clauses = refl; seen = StoreTrails.seen_undone level s.tracker u.tracker undoes.0 });
      undone = undone;
      low = (
          let low : Store.last_level u.tracker.trail ≤ level = undoes.1 in
          let is : Store.last_level u.tracker.trail ≡ top_level (history u) = last_is_top u.tracker.trail in
          omega arith);
      root = λ zero. absurd (omega arith);
      qhead = qhead;
    }

-- above the root's level no entry is left
pub undone_low : (s t : SatState) (level : ℕ) → Undoes level s t → 1 ≤ level → top_level (history t) ≤ level
undone_low s t level undoes one = let low : top_level (history t) ≤ max level 1 = undoes.low in omega arith

-- ---- all entries but the root's are undone

-- one entry more was taken away
pub shortens_more : (a b c : Store.Tracked) (d : Decision) → Shortens a b → Store.PopsLast b c d → 1 < length b.trail → Shortens a c
shortens_more a b c d shortened pops long =
    let e : Entry = record { decision = d; level = pops.level } in
    let (rest, is) = shortened.left in
    let one : length b.trail ≡ length c.trail + 1 = ap length pops.trail ∙ length-append c.trail (e ∷ []) in
    record {
      left = (e ∷ rest, is ∙ ap (λ (xs : List Entry). xs ++ rest) pops.trail ∙ append_assoc c.trail (e ∷ []) rest);
      seen = λ seen h. StoreTrails.seen_popped b c d pops seen (shortened.seen seen h);
      some = omega arith;
    }

rooted_older : (e : Entry) (h : List Entry) → 0 < length h → IsRooted (e ∷ h) → IsRooted h
rooted_older e [] some r = absurd (omega arith)
rooted_older e (d ∷ older) some r = r

rooted_left : (p base : List Entry) → 0 < length base → IsRooted (p ++ base) → IsRooted base
rooted_left p [] some r = absurd (omega arith)
rooted_left p (e ∷ base) some r = rooted_rest p e base r

-- each entry is above level 0
undone_from_root : (count : ℕ) (cs : List (List Signed)) (p base : List Entry) → IsTrail count cs (p ++ base) → IsRooted (p ++ base) → 0 < length base → IsUndone 0 (p ++ base) base
undone_from_root count cs [] base t r some = undone_all 0 base
undone_from_root count cs (e ∷ p) base t r some =
    let one : 1 ≤ e.level = level_le_last count cs (e ∷ p ++ base) (yes root) 1 t (root_level (e ∷ p ++ base) r) in
    let long : length (p ++ base) ≡ length p + length base = length-append p base in
    inr (omega arith, undone_from_root count cs p base t.1 (rooted_older e (p ++ base) (omega arith) r) some)

root_low : (h : List Entry) → length h ≡ 1 → IsRooted h → top_level h ≤ 1
root_low [] one r = absurd r
root_low (e ∷ []) one r = let a : e.level ≡ 1 = r.1 in omega arith
root_low (e ∷ d ∷ older) one r = absurd (omega arith)

pub state_restarted : (s u : SatState) → IsState s → Shortens s.tracker u.tracker → length u.tracker.trail ≡ 1 → u ≡ record s { tracker = u.tracker; qhead = u.qhead; guard_level = u.guard_level; indexed = u.indexed } → u.qhead ≡ 0 → Undoes 0 s u
state_restarted s u state shortened one same qhead =
    let (rest, is) = shortened.left in
    let whole : history s ≡ reverse rest ++ history u = ap reverse is ∙ reverse-append u.tracker.trail rest in
    let long : length (history u) ≡ length u.tracker.trail = length-reverse u.tracker.trail in
    let some : 0 < length (history u) = omega arith in
    let rooted : IsRooted (reverse rest ++ history u) = subst IsRooted whole state.rooted in
    let left : IsRooted (history u) = rooted_left (reverse rest) (history u) some rooted in
    let undone : IsUndone 0 (history s) (history u) =
    subst (λ (h : List Entry). IsUndone 0 h (history u)) (sym whole)
    (undone_from_root (count_of s) (clauses_of s) (reverse rest) (history u) (subst (IsTrail (count_of s) (clauses_of s)) whole state.trail) rooted some) in
    let here : IsState (record s { tracker = u.tracker; qhead = u.qhead; guard_level = u.guard_level; indexed = u.indexed }) = record {
      trail = undone_trail 0 (count_of s) (clauses_of s) (history s) (history u) undone state.trail;
      derived = state.derived;
      in_range = state.in_range;
      small = state.small;
      floor_low = state.floor_low;
      rooted = left;
    } in
    record {
      state = subst IsState (sym same) here;
      same = subst (SameBut s) (sym same) (record { variables = refl; base_level = refl; clauses = refl; seen = shortened.seen });
      undone = undone;
      low = (let low : top_level (history u) ≤ 1 = root_low (history u) (omega arith) left in omega arith);
      root = λ zero. one;
      qhead = inl qhead;
    }

pub lists-append : (xs ys : List SatClause) → lists (xs ++ ys) ≡ lists xs ++ lists ys
lists-append [] ys = refl
lists-append (c ∷ xs) ys = ap (λ (l : List (List Signed)). c.literals ∷ l) (lists-append xs ys)

has_in_push : (cs : List (List Signed)) (c : List Signed) (n : ℕ) (l : Signed) → has (clause_at (cs ++ c ∷ []) n) l ≡ true → (has (clause_at cs n) l ≡ true) ⊎ (has c l ≡ true)
has_in_push [] c zero l h = inr h
has_in_push [] c (suc n) l h = absurd (both_ways false refl h)
has_in_push (x ∷ xs) c zero l h = inl h
has_in_push (x ∷ xs) c (suc n) l h = has_in_push xs c n l h

pub clause_at_end : (cs : List (List Signed)) (c : List Signed) → clause_at (cs ++ c ∷ []) (length cs) ≡ c
clause_at_end [] c = refl
clause_at_end (x ∷ xs) c = clause_at_end xs c

pub clause_held : (s : SatState) (more : List SatClause) (c : SatClause) (id : ClauseId) → IsState s → (0 < length c.causes → IsDerived (clauses_of s) c.literals c.causes) → AreInRange (count_of s) c.literals
    → id.0 ≡ length s.clauses → more ≡ s.clauses ++ c ∷ [] → Adds c id s (record s { clauses = more })
clause_held s more c id state follows in_range number pushed =
    let added : lists more ≡ clauses_of s ++ c.literals ∷ [] = ap lists pushed ∙ lists-append s.clauses (c ∷ []) in
    let newest : reverse more ≡ c ∷ reverse s.clauses = ap reverse pushed ∙ reverse_push s.clauses c in
    let all : clauses_of s ≡ lists (reverse (reverse s.clauses)) = ap lists (sym (reverse-reverse s.clauses)) in
    record {
      state = record {
        trail = subst (λ (cs : List (List Signed)). IsTrail (count_of s) cs (history s)) (sym added) (trail_more (count_of s) (count_of s) (clauses_of s) (c.literals ∷ []) (history s) (omega arith) state.trail);
        derived = subst AreDerived (sym newest) ((λ some. subst (λ (cs : List (List Signed)). IsDerived cs c.literals c.causes) all (follows some)), state.derived);
        in_range = λ n l h.
            elim (has_in_push (clauses_of s) c.literals n l (subst (λ (cs : List (List Signed)). has (clause_at cs n) l ≡ true) added h)) [
              | inl e ↦ state.in_range n l e
              | inr e ↦ in_range l e
            ];
        small = state.small;
        floor_low = state.floor_low;
        rooted = state.rooted;
      };
      variables = refl;
      base_level = refl;
      tracker = refl;
      qhead = refl;
      guard = refl;
      number = number;
      added = pushed;
    }
