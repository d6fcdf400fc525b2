-- The end of an accepted turn, and refusals, over the clauses and the trail of the search.
use Rattle.std.proofs.Common.{◌≡◌, ℕ, ◌<◌, inl, inr, Bool, true, false, List, [], refl, sym, ◌∙◌, ap, subst, arith}
use Rattle.std.proofs.lemmas.Bool.{both_ways}
use Rattle.std.specs.Prelude.{Contains}
use Rattle.resolvo_pool_core.specs.declared.id.ClauseId.{ClauseId}
use Rattle.resolvo_pool_core.specs.declared.requirement.Requirement.{Requirement}
use Rattle.resolvo_pool_core.specs.RuleKeeping.{Packages, Rules, is_in, IsRuleKeeping}
use Rattle.resolvo_store_core.specs.Signed.{Signed, has}
use Rattle.resolvo_store_core.specs.Clauses.{yes, root as root_variable}
use Rattle.resolvo_store_core.specs.declared.decision.Entry.{Entry}
use Rattle.resolvo_sat.specs.Clauses.{SatClause}
use Rattle.resolvo_sat.specs.Known.{clause_at}
use Rattle.resolvo_sat.specs.Entries.{made_true}
use Rattle.resolvo_sat.specs.State.{lists, IsDerived}
use Rattle.resolvo_sat.specs.RuleClauses.{IsExact, Atom, Rule, plus, literals_of, IsRule, AgreeWith}
use Rattle.resolvo_sat.specs.SearchEnd as Ending
use Rattle.resolvo_sat.specs.First.{IsFirstPick, ArePreferred}
use Rattle.resolvo_sat.specs.Numbered.{meanings, known_of, AreCalledFor, AreCoded, IsTurnEnd, Denies}
use Rattle.resolvo_sat.proofs.FirstLemmas.{end_preferred}
use Rattle.resolvo_sat.proofs.Meanings.{meaning_in, meaning_from, quiet_meaning, trail_meaning, derived_implied}
use Rattle.resolvo_sat.proofs.Ended.{turn_is_right, keeping_without_softs, refusal_is_right}

module _ {N S : Type 0} (same : S → S → Bool) (exact : IsExact same) (same_name : N → N → Bool) (names : IsExact same_name) (p : Packages N S) (root : Rules) (origin : ℕ → Atom N S) (rules : Rule N S → Type 0) (registered : S → Type 0) where
  -- the end of a turn over variables is one over atoms
  pub end_meaning : (softs : List S) (count : ℕ) (clauses : List SatClause) (h : List Entry) (members : List S) → IsTurnEnd origin same p rules root registered softs count clauses h members → Ending.IsEnd same p rules root registered softs (known_of origin h) members
  end_meaning softs count clauses h members t = record {
    lawful = t.lawful;
    trail = trail_meaning origin same p rules registered count clauses t.coded (Ending.IsCalledFor same p rules softs) h t.trail t.rooted t.choices;
    true_on_trail = known;
    chosen = λ s a. (let (l, b, e) = meaning_from origin (made_true h) (plus (Atom.solvable s)) a in t.chosen l s b e);
    quiet = λ r present. (let (n, below, spells) = t.coded.spelled r present in quiet_meaning origin count t.coded.once (lists clauses) h (clause_at (lists clauses) n) (literals_of same p r) t.trail t.rooted (t.coded.in_range n) spells (t.quiet n below));
    met = λ r asked. elim (t.met r asked) [ inl none ↦ inl none | inr (s, o, c) ↦ inr (s, o, known s c) ];
    register = t.register;
    encoded = t.encoded;
  }
    where
      known : (s : S) → is_in same p members s ≡ true → Contains (known_of origin h) (plus (Atom.solvable s))
      known s c = let (l, a, (o, e)) = t.true_on_trail s c in subst (Contains (known_of origin h)) (sym e) (meaning_in origin (made_true h) l a o)

  -- An accepted turn's members keep all rules, except exempt soft requirements, and are their
  -- reached part.
  pub turn_accepted : (softs : List S) (count : ℕ) (clauses : List SatClause) (h : List Entry) (members : List S) → IsTurnEnd origin same p rules root registered softs count clauses h members → Ending.IsAccepted same p root softs members
  turn_accepted softs count clauses h members t = turn_is_right same exact same_name names p root rules registered softs (known_of origin h) members (end_meaning softs count clauses h members t)

  -- Without soft requirements they keep all rules.
  pub turn_keeps_rules : (count : ℕ) (clauses : List SatClause) (h : List Entry) (members : List S) → IsTurnEnd origin same p rules root registered [] count clauses h members → IsRuleKeeping same p root members
  turn_keeps_rules count clauses h members t = keeping_without_softs same exact p root members (turn_accepted [] count clauses h members t).keeping

  -- Without soft requirements, and where each choice took the first candidate that was not false, they were chosen in the order in
  -- which they are tried.
  pub turn_prefers : (orders : Requirement → List S → Type 0) (bits : S → ℕ → Bool) (count : ℕ) (clauses : List SatClause) (h : List Entry) (members : List S)
      → IsTurnEnd origin same p rules root registered [] count clauses h members → AreCalledFor origin (IsFirstPick same p orders rules) h → AgreeWith rules bits → ArePreferred same p orders root members
  turn_prefers orders bits count clauses h members t picks agree =
      end_preferred same exact p root rules registered orders same_name names bits (known_of origin h) members (end_meaning [] count clauses h members t) agree
      (trail_meaning origin same p rules registered count clauses t.coded (IsFirstPick same p orders rules) h t.trail t.rooted picks)

  -- A clause that follows from the clauses, and denies solvables of a list alone: no rule-keeping set holds them all. With
  -- no literal it leaves no rule-keeping set.
  pub turn_refused : (count : ℕ) (clauses : List SatClause) (literals : List Signed) (causes : List ClauseId) (bits : S → ℕ → Bool) (list chosen : List S)
      → AreCoded origin same p rules registered count clauses → ((r : Rule N S) → rules r → IsRule same p root r) → AgreeWith rules bits → IsDerived (lists clauses) literals causes → Denies origin same p list literals
      → IsRuleKeeping same p root chosen → ((s : S) → is_in same p list s ≡ true → is_in same p chosen s ≡ true) → ⊥
  turn_refused count clauses literals causes bits list chosen coded rule agree derived denies =
      refusal_is_right same exact p root same_name names rules bits list (meanings origin literals) chosen rule agree
      (derived_implied origin same p rules registered count clauses coded literals causes derived rootless)
      (λ m a. (let (l, b, e) = meaning_from origin literals m a in elim (denies l b) [
        | inl z ↦ (let other : 0 < l.variable.0 = e.0 in let same_variable : l.variable.0 ≡ 0 = ap (λ (x : Signed). x.variable.0) z in absurd (omega arith))
        | inr d ↦ (d.0, e.1 ∙ sym d.1.1, d.2)
      ]))
    where
      rootless : has literals (yes root_variable) ≡ true → ⊥
      rootless a = elim (denies (yes root_variable) a) [
        | inl e ↦ both_ways false refl (ap (λ (x : Signed). x.positive) (sym e))
        | inr d ↦ (let other : 0 < 0 = d.1.0 in omega arith)
      ]
