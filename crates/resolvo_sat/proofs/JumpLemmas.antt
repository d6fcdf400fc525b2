-- After the jump the learnt clause forces its asserted literal.
use Rattle.std.proofs.Common.{◌≡◌, ℕ, ◌+◌, ◌-◌, ◌^◌, ◌<◌, ◌≤◌, inl, inr, false, List, [], ◌∷◌, ◌++◌, reverse, length, sym, ◌∙◌, ap, subst, arith}
use Rattle.resolvo_pool_core.specs.declared.id.ClauseId.{ClauseId}
use Rattle.resolvo_store_core.specs.Signed.{Signed, negation, has}
use Rattle.resolvo_store_core.specs.Trail.{Tracked, IsSeenOf}
use Rattle.resolvo_store_core.specs.declared.decision.Entry.{Entry}
use Rattle.resolvo_sat.specs.Clauses.{SatClause}
use Rattle.resolvo_sat.specs.declared.state.SatState.{SatState}
use Rattle.resolvo_sat.specs.declared.analyze.Learnt.{Learnt}
use Rattle.resolvo_sat.specs.declared.watch_lists.WatchLists.{WatchLists}
use Rattle.resolvo_sat.specs.Known.{IsUndecided, Forces, clause_at}
use Rattle.resolvo_sat.specs.Entries.{made_true, top_level, IsUndone, IsOnTrail, weight}
use Rattle.resolvo_sat.specs.State.{count_of, history, clauses_of, lists, IsState}
use Rattle.resolvo_sat.specs.Analysis.{IsLearnt}
use Rattle.resolvo_sat.specs.Steps.{Sets, Undoes, KeepsChoices, forced_entry}
use Rattle.resolvo_sat.specs.AddClause.{AddsClause, Learns}
use Rattle.resolvo_sat.proofs.Literals.{negation-negation}
use Rattle.resolvo_sat.proofs.Trails.{kept, undone_undecided, known_from_level}
use Rattle.resolvo_sat.proofs.Weights.{weight_jump}
use Rattle.resolvo_sat.proofs.Clauses.{length-lists}
use Rattle.resolvo_sat.proofs.StepLemmas.{lists-append, clause_at_end, undone_low}
use Rattle.resolvo_sat.proofs.ExtendLemmas.{forced_keeps, set_pushed, set_extends}
use Rattle.resolvo_sat.proofs.Readiness.{ready_extends, covered_same}

-- a jump leaves the root's entry
pub learnt_above : (s : SatState) (x : Learnt) → IsState s → IsLearnt s x → 1 ≤ x.level
learnt_above s x state learnt = let a : 1 ≤ s.base_level = state.floor_low in let b : s.base_level ≤ x.level = learnt.low in omega arith

learnt_forces : (s t : SatState) (x : Learnt) → IsState s → IsLearnt s x → Undoes x.level s t → Forces (made_true (history t)) x.literals.items x.asserting
learnt_forces s t x state learnt u =
    let (high, above, at_level) = learnt.fell in
    let free : IsUndecided (made_true (history t)) (negation x.asserting) = undone_undecided x.level (count_of s) (clauses_of s) (history s) (history t) (negation x.asserting) high state.trail u.undone (undone_low s t x.level u (learnt_above s x state learnt)) at_level above in
    record {
      forced = record {
        present = learnt.present;
        others = λ l h. elim (learnt.others l h) [
          | inl e ↦ inl e
          | inr e ↦ let (k, below, present) = e in inr (known_from_level (history t) (negation l) k (kept x.level (history s) (history t) (negation l) k u.undone present below))
        ];
      };
      undecided = record {
        not_true = subst (λ (l : Signed). has (made_true (history t)) l ≡ false) (negation-negation x.asserting) free.not_false;
        not_false = free.not_true;
      };
    }

pub added_forces : (s t a : SatState) (v w : WatchLists) (x : Learnt) (c : SatClause) (id : ClauseId) → IsState s → IsLearnt s x → Undoes x.level s t → c ≡ record { literals = x.literals.items; causes = x.causes.items } → AddsClause c id t v a w
    → Forces (made_true (history a)) (clause_at (clauses_of a) id.0) x.asserting
added_forces s t a v w x c id state learnt u is addition =
    let forces : Forces (made_true (history t)) x.literals.items x.asserting = learnt_forces s t x state learnt u in
    let added : clauses_of a ≡ clauses_of t ++ c.literals ∷ [] = ap lists addition.adds.added ∙ lists-append t.clauses (c ∷ []) in
    let clause : clause_at (clauses_of a) id.0 ≡ x.literals.items =
    ap (λ (cs : List (List Signed)). clause_at cs id.0) added
    ∙ ap (λ (n : ℕ). clause_at (clauses_of t ++ c.literals ∷ []) n) (addition.adds.number ∙ sym (length-lists t.clauses))
    ∙ clause_at_end (clauses_of t) c.literals
    ∙ ap (λ (h : SatClause). h.literals) is in
    let entries : history a ≡ history t = ap (λ (k : Tracked). reverse k.trail) addition.adds.tracker in
    subst (λ (h : List Entry). Forces (made_true h) (clause_at (clauses_of a) id.0) x.asserting) (sym entries)
    (subst (λ (l : List Signed). Forces (made_true (history t)) l x.asserting) (sym clause) forces)

pub learns : (s t a b : SatState) (v w : WatchLists) (x : Learnt) (c : SatClause) (id : ClauseId) → 1 ≤ x.level → Undoes x.level s t → c ≡ record { literals = x.literals.items; causes = x.causes.items } → AddsClause c id t v a w → Sets id x.asserting a b → Learns x id s b w
learns s t a b v w x c id one u is addition set =
    let entries : history a ≡ history t = ap (λ (k : Tracked). reverse k.trail) addition.adds.tracker in
    record {
      ready = ready_extends a b w addition.ready (set_extends a b id x.asserting set) set.qhead;
      covered = covered_same a b w addition.covered set.same.clauses;
      variables = set.same.variables ∙ addition.adds.variables ∙ u.same.variables;
      base_level = set.same.base_level ∙ addition.adds.base_level ∙ u.same.base_level;
      number = addition.adds.number ∙ ap length u.same.clauses;
      added = set.same.clauses ∙ addition.adds.added ∙ ap (λ (cs : List SatClause). cs ++ c ∷ []) u.same.clauses ∙ ap (λ (h : SatClause). s.clauses ++ h ∷ []) is;
      base = history t;
      undone = u.undone;
      low = undone_low s t x.level u one;
      pushed = set_pushed a b id x.asserting set ∙ ap (λ (h : List Entry). forced_entry id x.asserting h ∷ h) entries;
      seen = λ known h. set.same.seen known (subst (λ (k : Tracked). IsSeenOf k known) (sym addition.adds.tracker) (u.same.seen known h));
    }

-- the entries after a jump were there before it
pub undone_on : (level : ℕ) (old new : List Entry) (e : Entry) (older : List Entry) → IsUndone level old new → IsOnTrail new e older → IsOnTrail old e older
undone_on level [] new e older u s = subst (λ (h : List Entry). IsOnTrail h e older) u s
undone_on level (d ∷ ds) new e older (inl u) s = subst (λ (h : List Entry). IsOnTrail h e older) u s
undone_on level (d ∷ ds) new e older (inr u) s = inr (undone_on level ds new e older u.1 s)

-- each choice that is left was one before
pub learns_choices : (s b : SatState) (w : WatchLists) (x : Learnt) (id : ClauseId) → Learns x id s b w → KeepsChoices (history s) (history b)
learns_choices s b w x id l e older present choice =
    undone_on x.level (history s) l.base e older l.undone
    (forced_keeps id x.asserting l.base (history b) l.pushed e older present choice)

-- the trail is heavier than before the jump
pub learns_heavier : (s b : SatState) (w : WatchLists) (x : Learnt) (id : ClauseId) → IsState s → IsLearnt s x → Learns x id s b w → weight (count_of s) (history s) < weight (count_of s) (history b)
learns_heavier s b w x id state learnt l =
    let (high, above, at_level) = learnt.fell in
    let jump : weight (count_of s) (history s) < (count_of s + 1) ^ (count_of s + 1 - top_level l.base) + weight (count_of s) l.base =
    weight_jump (count_of s) x.level (clauses_of s) (history s) l.base (negation x.asserting) high state.trail l.undone l.low at_level above in
    subst (λ (h : List Entry). weight (count_of s) (history s) < weight (count_of s) h) (sym l.pushed) jump
