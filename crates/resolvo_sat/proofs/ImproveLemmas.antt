-- The search improves: the trail grows heavier, and its weight is bounded.
use Rattle.std.proofs.Common.{◌≡◌, ℕ, ◌+◌, ◌-◌, ◌*◌, ◌^◌, ◌<◌, ◌≤◌, inl, inr, true, List, [], ◌∷◌, ◌++◌, reverse, length, Vec, Global, sym, ◌∙◌, ap, subst, arith, append_assoc}
use Rattle.std.proofs.lemmas.List.{reverse-append}
use Rattle.std.proofs.Math.Nat.{one-le-pow}
use Rattle.resolvo_pool_core.specs.declared.id.ClauseId.{ClauseId}
use Rattle.resolvo_pool_core.specs.declared.id.VariableId.{VariableId}
use Rattle.resolvo_store_core.specs.Signed.{Signed, negation, has}
use Rattle.resolvo_store_core.specs.declared.decision.Entry.{Entry}
use Rattle.resolvo_sat.specs.Clauses.{SatClause}
use Rattle.resolvo_sat.specs.declared.state.SatState.{SatState}
use Rattle.resolvo_sat.specs.declared.state.VariableKind.{VariableKind}
use Rattle.resolvo_sat.specs.declared.analyze.Learnt.{Learnt}
use Rattle.resolvo_sat.specs.declared.watch_lists.WatchLists.{WatchLists}
use Rattle.resolvo_sat.specs.Known.{clause_at}
use Rattle.resolvo_sat.specs.Entries.{weight, made_true, top_level, EndsWith, IsUndone}
use Rattle.resolvo_sat.specs.State.{count_of, history, clauses_of, IsDerived, IsState, AreApart}
use Rattle.resolvo_sat.specs.Analysis.{IsLearnt}
use Rattle.resolvo_sat.specs.Steps.{SameBut, Chooses, Undoes, choice_entry, forced_entry}
use Rattle.resolvo_sat.specs.Propagation.{Extends}
use Rattle.resolvo_sat.specs.AddClause.{Learns}
use Rattle.resolvo_sat.specs.PropagateAndLearn.{Improves, weight_left}
use Rattle.resolvo_sat.proofs.Trails.{known_from_level, undone_ends}
use Rattle.resolvo_sat.proofs.Apart.{false_apart}
use Rattle.resolvo_sat.proofs.Weights.{weight_bounded}
use Rattle.resolvo_sat.proofs.StepLemmas.{reverse_push}
use Rattle.resolvo_sat.proofs.ExtendLemmas.{same_clauses}
use Rattle.resolvo_sat.proofs.JumpLemmas.{learns_choices, learns_heavier}

weight-append : (count : ℕ) (p h : List Entry) → weight count h ≤ weight count (p ++ h)
weight-append count [] h = omega arith
weight-append count (e ∷ p) h = let a : weight count h ≤ weight count (p ++ h) = weight-append count p h in omega arith

same_count : (s t : SatState) → SameBut s t → count_of t ≡ count_of s
same_count s t same = ap (λ (v : Vec VariableKind Global). length v.items) same.variables

-- a trail that grows is no lighter
pub extends_heavier : (s t : SatState) (count : ℕ) → Extends s t → weight count (history s) ≤ weight count (history t)
extends_heavier s t count e =
    subst (λ (h : List Entry). weight count (history s) ≤ weight count h) (sym (ap reverse e.added ∙ reverse-append s.tracker.trail e.more)) (weight-append count (reverse e.more) (history s))

-- the learnt literals are false on the trail, so they are distinct
learnt_apart : (s : SatState) (x : Learnt) → IsState s → IsLearnt s x → AreApart x.literals.items
learnt_apart s x state learnt = false_apart s x.literals.items state (λ l h. elim (learnt.others l h) [
  | inl e ↦
      let (level, above, at_level) = learnt.fell in
      subst (λ (y : Signed). has (made_true (history s)) (negation y) ≡ true) (sym e) (known_from_level (history s) (negation x.asserting) level at_level)
  | inr (level, low, present) ↦ known_from_level (history s) (negation l) level present
])

-- the entries up to the turn's first level are under those assigned after it
pub extends_earlier : (s t : SatState) (base : List Entry) → Extends s t → EndsWith base (history s) → EndsWith base (history t)
extends_earlier s t base e (p, is) = (reverse e.more ++ p, (ap reverse e.added ∙ reverse-append s.tracker.trail e.more) ∙ ap (λ (h : List Entry). reverse e.more ++ h) is ∙ sym (append_assoc (reverse e.more) p base))

-- a jump does not go below it
learns_earlier : (m b : SatState) (w : WatchLists) (x : Learnt) (id : ClauseId) → IsLearnt m x → Learns x id m b w → (base : List Entry) → top_level base ≤ m.base_level → EndsWith base (history m) → EndsWith base (history b)
learns_earlier m b w x id learnt l base low (p, is) =
    let under : m.base_level ≤ x.level = learnt.low in
    let (q, ends) = undone_ends x.level (count_of m) (clauses_of m) p base l.base (subst (λ (h : List Entry). IsUndone x.level h l.base) is l.undone) (omega arith) in
    (forced_entry id x.asserting l.base ∷ q, l.pushed ∙ ap (λ (h : List Entry). forced_entry id x.asserting l.base ∷ h) ends)

pub learning_improves : (s m b : SatState) (w : WatchLists) (x : Learnt) (id : ClauseId) → Extends s m → IsLearnt m x → Learns x id m b w → Improves id s b w
learning_improves s m b w x id e learnt l =
    let count : count_of m ≡ count_of s = same_count s m e.same in
    let one : weight (count_of s) (history s) ≤ weight (count_of s) (history m) = extends_heavier s m (count_of s) e in
    let two : weight (count_of s) (history m) < weight (count_of s) (history b) = subst (λ (n : ℕ). weight n (history m) < weight n (history b)) count (learns_heavier m b w x id e.state learnt l) in
    record {
      ready = l.ready;
      covered = l.covered;
      variables = l.variables ∙ e.same.variables;
      base_level = l.base_level ∙ e.same.base_level;
      number = l.number ∙ ap (λ (cs : List SatClause). length cs) e.same.clauses;
      clause = record { literals = x.literals.items; causes = x.causes.items };
      added = l.added ∙ ap (λ (cs : List SatClause). cs ++ record { literals = x.literals.items; causes = x.causes.items } ∷ []) e.same.clauses;
      derived = subst (λ (cs : List (List Signed)). IsDerived cs x.literals.items x.causes.items) (same_clauses s m e) learnt.derived;
      caused = learnt.caused;
      from = λ k h. let (n, present) = learnt.from k h in (n, subst (λ (cs : List (List Signed)). has (clause_at cs n) k ≡ true) (same_clauses s m e) present);
      apart = learnt_apart m x e.state learnt;
      heavier = omega arith;
      choices = λ d older present choice. e.choices d older (learns_choices m b w x id l d older present choice) choice;
      seen = λ known h. l.seen known (e.same.seen known h);
      earlier = λ base low ends. learns_earlier m b w x id learnt l base (subst (λ (n : ℕ). top_level base ≤ n) (sym e.same.base_level) low) (extends_earlier s m base e ends);
    }

-- the older entries are under a decision
pub choice_earlier : (s t : SatState) (v : VariableId) (c : ClauseId) (base : List Entry) → Chooses v c s t → EndsWith base (history s) → EndsWith base (history t)
choice_earlier s t v c base chosen (p, is) =
    let d : Entry = choice_entry v c (history s) in
    (d ∷ p, (ap reverse chosen.pushed ∙ reverse_push s.tracker.trail d) ∙ ap (λ (h : List Entry). d ∷ h) is)

-- the entries up to the level remain after those above it are undone
pub undo_earlier : (s t : SatState) (level : ℕ) (base : List Entry) → Undoes level s t → top_level base ≤ level → EndsWith base (history s) → EndsWith base (history t)
undo_earlier s t level base undoes low (p, is) = undone_ends level (count_of s) (clauses_of s) p base (history t) (subst (λ (h : List Entry). IsUndone level h (history t)) is undoes.undone) low

-- a choice makes the trail heavier
pub choice_heavier : (s t : SatState) (v : VariableId) (c : ClauseId) → Chooses v c s t → weight (count_of s) (history s) < weight (count_of s) (history t)
choice_heavier s t v c chosen =
    let d : Entry = choice_entry v c (history s) in
    let one : 1 ≤ (count_of s + 1) ^ (count_of s + 1 - d.level) = one-le-pow (count_of s + 1 - d.level) (count_of s + 1) (omega arith) in
    subst (λ (h : List Entry). weight (count_of s) (history s) < weight (count_of s) h) (sym (ap reverse chosen.pushed ∙ reverse_push s.tracker.trail d)) (omega arith)

-- the weight left falls as the trail grows heavier over the same variables
pub weight_falls : (s t : SatState) → IsState t → count_of t ≡ count_of s → weight (count_of s) (history s) < weight (count_of s) (history t) → weight_left t < weight_left s
weight_falls s t state count heavier =
    let bound : weight (count_of t) (history t) ≤ count_of t * (count_of t + 1) ^ (count_of t + 1) = weight_bounded (count_of t) (clauses_of t) (history t) state.trail in
    let bound' : weight (count_of s) (history t) ≤ count_of s * (count_of s + 1) ^ (count_of s + 1) = subst (λ (n : ℕ). weight n (history t) ≤ n * (n + 1) ^ (n + 1)) count bound in
    let same : weight_left t ≡ count_of s * (count_of s + 1) ^ (count_of s + 1) - weight (count_of s) (history t) = ap (λ (n : ℕ). n * (n + 1) ^ (n + 1) - weight n (history t)) count in
    omega arith
