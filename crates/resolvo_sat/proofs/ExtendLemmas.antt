-- Lemmas on a trail that grows.
use Rattle.std.proofs.Common.{◌≡◌, ℕ, ◌≤◌, ◌⊎◌, inl, inr, true, List, [], ◌∷◌, ◌++◌, reverse, take, drop, length, suc, refl, sym, ◌∙◌, ap, subst, arith, append_assoc}
use Rattle.std.proofs.lemmas.List.{append-nil, reverse-append, take-append-le, take-append-drop}
use Rattle.resolvo_pool_core.specs.declared.id.ClauseId.{ClauseId}
use Rattle.resolvo_store_core.specs.Signed.{Signed, has}
use Rattle.resolvo_store_core.specs.declared.decision.Entry.{Entry}
use Rattle.resolvo_sat.specs.declared.state.SatState.{SatState}
use Rattle.resolvo_sat.specs.Entries.{made_true, literal_of, before, top_level, IsTrueAt, IsOnTrail}
use Rattle.resolvo_sat.specs.State.{history, clauses_of, lists, IsState}
use Rattle.resolvo_sat.specs.Steps.{Sets, SameBut, KeepsChoices, forced_entry}
use Rattle.resolvo_sat.specs.Propagation.{Extends}
use Rattle.resolvo_sat.proofs.Literals.{has_right}
use Rattle.resolvo_sat.proofs.StepLemmas.{reverse_push}

-- a forced entry is no choice
pub forced_keeps : (c : ClauseId) (l : Signed) (h new : List Entry) → new ≡ forced_entry c l h ∷ h → KeepsChoices h new
forced_keeps c l h new is e older present choice = go (subst (λ (x : List Entry). IsOnTrail x e older) is present)
  where
    go : ((forced_entry c l h ≡ e) × (h ≡ older)) ⊎ IsOnTrail h e older → IsOnTrail h e older
    go (inr s) = s
    go (inl s) =
        let a : e.level ≡ suc (top_level older) = choice.opens in
        let b : top_level h ≡ e.level = ap (λ (x : Entry). x.level) s.0 in
        let d : top_level h ≡ top_level older = ap top_level s.1 in
        absurd (omega arith)

pub set_pushed : (s t : SatState) (c : ClauseId) (l : Signed) → Sets c l s t → history t ≡ forced_entry c l (history s) ∷ history s
set_pushed s t c l set = ap reverse set.pushed ∙ reverse_push s.tracker.trail (forced_entry c l (history s))

pub set_extends : (s t : SatState) (c : ClauseId) (l : Signed) → Sets c l s t → Extends s t
set_extends s t c l set = record { state = set.state; same = set.same; more = forced_entry c l (history s) ∷ []; added = set.pushed; choices = forced_keeps c l (history s) (history t) (set_pushed s t c l set); guard = let e : t.guard_level ≡ s.guard_level = set.guard in omega arith }

same_itself : (s : SatState) → SameBut s s
same_itself s = record { variables = refl; base_level = refl; clauses = refl; seen = λ entries h. h }

pub extends_nothing : (s : SatState) → IsState s → Extends s s
extends_nothing s state = record { state = state; same = same_itself s; more = []; added = sym (append-nil s.tracker.trail); choices = λ e older present choice. present; guard = omega arith }

pub same_more : (s t u : SatState) → SameBut s t → SameBut t u → SameBut s u
same_more s t u a b = record { variables = b.variables ∙ a.variables; base_level = b.base_level ∙ a.base_level; clauses = b.clauses ∙ a.clauses; seen = λ entries h. b.seen entries (a.seen entries h) }

pub extends_more : (s t u : SatState) → Extends s t → Extends t u → Extends s u
extends_more s t u a b = record {
  state = b.state;
  same = same_more s t u a.same b.same;
  more = a.more ++ b.more;
  added = b.added ∙ ap (λ (xs : List Entry). xs ++ b.more) a.added ∙ append_assoc s.tracker.trail a.more b.more;
  choices = λ e older present choice. a.choices e older (b.choices e older present choice) choice;
  guard = let low : s.guard_level ≤ t.guard_level = a.guard in let high : t.guard_level ≤ u.guard_level = b.guard in omega arith;
}

pub made_true-append : (xs ys : List Entry) → made_true (xs ++ ys) ≡ made_true xs ++ made_true ys
made_true-append [] ys = refl
made_true-append (x ∷ xs) ys = ap (λ (ls : List Signed). literal_of x ∷ ls) (made_true-append xs ys)

pub known_in_more : (xs ys : List Entry) (l : Signed) → has (made_true (reverse xs)) l ≡ true → has (made_true (reverse (xs ++ ys))) l ≡ true
known_in_more xs ys l h =
    subst (λ (ls : List Signed). has ls l ≡ true) (sym (ap made_true (reverse-append xs ys) ∙ made_true-append (reverse ys) (reverse xs)))
    (has_right (made_true (reverse ys)) (made_true (reverse xs)) l h)

-- true literals stay true
pub still_true : (s t : SatState) (l : Signed) → Extends s t → has (made_true (history s)) l ≡ true → has (made_true (history t)) l ≡ true
still_true s t l e h = subst (λ (xs : List Entry). has (made_true (reverse xs)) l ≡ true) (sym e.added) (known_in_more s.tracker.trail e.more l h)

-- a literal that the first entries make true is true
pub true_by_now : (xs : List Entry) (k : ℕ) (l : Signed) → has (made_true (before xs k)) l ≡ true → has (made_true (reverse xs)) l ≡ true
true_by_now xs k l h = subst (λ (ys : List Entry). has (made_true (reverse ys)) l ≡ true) (take-append-drop k xs) (known_in_more (take k xs) (drop k xs) l h)

pub before_kept : (s t : SatState) (k : ℕ) → Extends s t → k ≤ length s.tracker.trail → before t.tracker.trail k ≡ before s.tracker.trail k
before_kept s t k e h = ap (λ (xs : List Entry). before xs k) e.added ∙ ap reverse (take-append-le k s.tracker.trail e.more h)

pub same_clauses : (s t : SatState) → Extends s t → clauses_of t ≡ clauses_of s
same_clauses s t e = ap lists e.same.clauses

level_later : (xs ys : List Entry) (l : Signed) (k : ℕ) → IsTrueAt ys l k → IsTrueAt (xs ++ ys) l k
level_later [] ys l k h = h
level_later (x ∷ xs) ys l k h = inr (level_later xs ys l k h)

pub level_in_more : (xs ys : List Entry) (l : Signed) (k : ℕ) → IsTrueAt (reverse xs) l k → IsTrueAt (reverse (xs ++ ys)) l k
level_in_more xs ys l k h = subst (λ (zs : List Entry). IsTrueAt zs l k) (sym (reverse-append xs ys)) (level_later (reverse ys) (reverse xs) l k h)

-- an entry of the trail is still on it
pub level_kept : (s t : SatState) (l : Signed) (k : ℕ) → Extends s t → IsTrueAt (history s) l k → IsTrueAt (history t) l k
level_kept s t l k e h = subst (λ (xs : List Entry). IsTrueAt (reverse xs) l k) (sym e.added) (level_in_more s.tracker.trail e.more l k h)

-- one of the first entries is on the trail
pub level_by_now : (xs : List Entry) (n : ℕ) (l : Signed) (k : ℕ) → IsTrueAt (before xs n) l k → IsTrueAt (reverse xs) l k
level_by_now xs n l k h = subst (λ (ys : List Entry). IsTrueAt (reverse ys) l k) (take-append-drop n xs) (level_in_more (take n xs) (drop n xs) l k h)
