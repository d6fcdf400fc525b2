-- More rules, clauses and variables keep the invariant.
use Rattle.std.proofs.Common.{◌≡◌, ℕ, zero, suc, ◌+◌, ◌<◌, inl, inr, Bool, true, ◌==◌, List, [], ◌∷◌, ◌++◌, length, cond, refl, sym, ◌∙◌, ap, subst, arith}
use Rattle.std.specs.Prelude.{Contains}
use Rattle.resolvo_pool_core.specs.declared.requirement.Requirement.{Requirement}
use Rattle.resolvo_pool_core.specs.OnePass.{Literal}
use Rattle.resolvo_pool_core.specs.RuleKeeping.{Packages}
use Rattle.resolvo_store_core.specs.Signed.{Signed, has}
use Rattle.resolvo_store_core.specs.declared.decision.Entry.{Entry}
use Rattle.resolvo_sat.specs.Known.{clause_at}
use Rattle.resolvo_sat.specs.Entries.{literal_of, made_true, IsOnTrail, IsTrail}
use Rattle.resolvo_sat.specs.Steps.{KeepsChoices}
use Rattle.resolvo_sat.proofs.Literals.{has_here, has_later}
use Rattle.resolvo_sat.proofs.Trails.{known_in_range}
use Rattle.resolvo_sat.specs.RuleClauses.{Atom, Rule}
use Rattle.resolvo_sat.specs.SearchEnd.{IsAsked}
use Rattle.resolvo_sat.specs.First.{IsFirstPick}
use Rattle.resolvo_sat.specs.Numbered.{meaning, meanings, known_of, Spells, AreCalledFor}

-- an entry of a trail, with those before it, is a trail
trail_under : (count : ℕ) (cs : List (List Signed)) (h : List Entry) (e : Entry) (older : List Entry) → IsTrail count cs h → IsOnTrail h e older → IsTrail count cs (e ∷ older)
trail_under count cs [] e older t s = absurd s
trail_under count cs (d ∷ rest) e older t (inl (same, before)) = subst (λ (xs : List Entry). IsTrail count cs (e ∷ xs)) before (subst (λ (x : Entry). IsTrail count cs (x ∷ rest)) same t)
trail_under count cs (d ∷ rest) e older t (inr s) = trail_under count cs rest e older t.1 s

-- the old clauses are at their places
pub clause_stays : (xs ys : List (List Signed)) (n : ℕ) → n < length xs → clause_at (xs ++ ys) n ≡ clause_at xs n
clause_stays [] ys n below = absurd (omega arith)
clause_stays (x ∷ xs) ys zero below = refl
clause_stays (x ∷ xs) ys (suc n) below = clause_stays xs ys n (omega arith)

module _ {N S : Type 0} (same : S → S → Bool) (p : Packages N S) (rules more : Rule N S → Type 0) (adds : (r : Rule N S) → rules r → more r) where
  asked_grows : (known : List (Literal (Atom N S))) (r : Requirement) → IsAsked same p rules known r → IsAsked same p more known r
  asked_grows known r (inl k) = inl (record { parent = k.parent; need = k.need; case = k.case; present = adds _ k.present; chosen = k.chosen; holds = k.holds; asks = k.asks })
  asked_grows known r (inr k) = inr (record { present = adds _ k.present; opened = k.opened })

  -- more rules, and orders in place of others, leave it a first pick
  pub first_pick_grows : (orders wider : Requirement → List S → Type 0) (known : List (Literal (Atom N S))) (l : Literal (Atom N S)) → ((r : Requirement) (list : List S) → orders r list → wider r list) → IsFirstPick same p orders rules known l → IsFirstPick same p wider more known l
  first_pick_grows orders wider known l f k = record {
    requirement = k.requirement;
    asked = asked_grows known k.requirement k.asked;
    solvable = k.solvable;
    is = k.is;
    first = record { list = k.first.list; ordered = f k.requirement k.first.list k.first.ordered; before = k.first.before; after = k.first.after; splits = k.first.splits; fell = k.first.fell };
  }

-- the choices of a trail that only lost choices are called for
pub called_kept : {N S : Type 0} (origin : ℕ → Atom N S) (choice : List (Literal (Atom N S)) → Literal (Atom N S) → Type 0) (old new : List Entry) → KeepsChoices old new → AreCalledFor origin choice old → AreCalledFor origin choice new
called_kept origin choice old new keeps called e older present is other = called e older (keeps e older present is) is other

-- one choice more
pub called_choice : {N S : Type 0} (origin : ℕ → Atom N S) (choice : List (Literal (Atom N S)) → Literal (Atom N S) → Type 0) (e : Entry) (h : List Entry) → choice (known_of origin h) (meaning origin (literal_of e)) → AreCalledFor origin choice h → AreCalledFor origin choice (e ∷ h)
called_choice origin choice e h now called d older (inl (same, before)) is other = subst (λ (xs : List Entry). choice (known_of origin xs) (meaning origin (literal_of d))) before (subst (λ (x : Entry). choice (known_of origin h) (meaning origin (literal_of x))) same now)
called_choice origin choice e h now called d older (inr present) is other = called d older present is other

-- variables were added, and the first ones represent the same atoms
module _ {N S : Type 0} (origin other : ℕ → Atom N S) (count : ℕ) (agree : (n : ℕ) → 0 < n → n < count → origin n ≡ other n) where
  meaning_agrees : (l : Signed) → 0 < l.variable.0 → l.variable.0 < count → meaning origin l ≡ meaning other l
  meaning_agrees l a b = ap (λ (x : Atom N S). let m : Literal (Atom N S) = record { atom = x; positive = l.positive } in m) (agree l.variable.0 a b)

  pub meanings_agree : (ls : List Signed) → ((l : Signed) → has ls l ≡ true → l.variable.0 < count) → meanings origin ls ≡ meanings other ls
  meanings_agree [] below = refl
  meanings_agree (x ∷ xs) below = go (meanings_agree xs (λ l h. below l (has_later x xs l h))) x.variable.0 (below x (has_here x xs x refl)) refl
    where
      go : meanings origin xs ≡ meanings other xs → (n : ℕ) → n < count → x.variable.0 ≡ n → meanings origin (x ∷ xs) ≡ meanings other (x ∷ xs)
      go rest zero b e = subst (λ k. cond (k == 0) (meanings origin xs) (meaning origin x ∷ meanings origin xs) ≡ cond (k == 0) (meanings other xs) (meaning other x ∷ meanings other xs)) (sym e) rest
      go rest (suc n) b e =
          ap (λ (m : Literal (Atom N S)). cond (x.variable.0 == 0) (meanings origin xs) (m ∷ meanings origin xs)) (meaning_agrees x (omega arith) (omega arith))
          ∙ ap (λ (ms : List (Literal (Atom N S))). cond (x.variable.0 == 0) ms (meaning other x ∷ ms)) rest

  -- a reason for a choice remains one
  pub called_grows : (choice wider : List (Literal (Atom N S)) → Literal (Atom N S) → Type 0) (cs : List (List Signed)) (h : List Entry) → IsTrail count cs h
      → ((known : List (Literal (Atom N S))) (l : Literal (Atom N S)) → choice known l → wider known l) → AreCalledFor origin choice h → AreCalledFor other wider h
  called_grows choice wider cs h t f called e older present is a =
      let part = trail_under count cs h e older t present in
      let now : wider (known_of origin older) (meaning origin (literal_of e)) = f (known_of origin older) (meaning origin (literal_of e)) (called e older present is a) in
      subst (λ m. wider (known_of other older) m) (meaning_agrees (literal_of e) a part.0.in_range)
      (subst (λ k. wider k (meaning origin (literal_of e))) (meanings_agree (made_true older) (λ l h. known_in_range count cs older l part.1 h)) now)

  -- a clause that spells a rule still does
  pub spells_agree : (clause : List Signed) (literals : List (Literal (Atom N S))) → ((l : Signed) → has clause l ≡ true → l.variable.0 < count) → Spells origin clause literals → Spells other clause literals
  spells_agree clause literals below s = record {
    only = λ l h. elim (s.only l h) [ inl e ↦ inl e | inr (a, c) ↦ inr (a, subst (Contains literals) (meaning_agrees l a (below l h)) c) ];
    each = λ m c. (let (l, h, (a, e)) = s.each m c in (l, h, (a, e ∙ meaning_agrees l a (below l h))));
  }
