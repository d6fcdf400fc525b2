-- The clauses of steps, by the rules of their lines.
use Rattle.std.proofs.Common.{◌≡◌, ℕ, zero, suc, Bool, true, false, List, [], ◌∷◌, Option, Some, None, refl, sym, ap, subst, ◌∙◌, cond, inl, inr, IfSome}
use Rattle.std.specs.Prelude.{slice_get, ◌||◌}
use Rattle.std.specs.Global.{Vec}
use Rattle.std.specs.Option.{option_map, option_and_then}
use Rattle.std.proofs.lemmas.Bool.{false≢true, cases_Bool, or_left, or_right}
use Rattle.std.proofs.lemmas.Option.{slice_get-map}
use Rattle.resolvo_text.specs.Line.{Version, Cond, Line, Skipped, Listed, Needs, Limits, Unknown, Lock, Favour, Exclude, Many, Wish}
use Rattle.resolvo_text.specs.Matches.{same_version, is_member}
use Rattle.resolvo_text.specs.Cases.{cases}
use Rattle.resolvo_text.specs.View.{specs_of, cases_of}
use Rattle.resolvo_text.specs.declared.spec.Spec as code
use Rattle.resolvo_catalogue_core.specs.Questions.{is_rule, rule_found}
use Rattle.resolvo_catalogue_core.specs.declared.rule.Rule.{Rule}
use Rattle.resolvo_catalogue_core.specs.declared.rule.FoundRule.{FoundRule}
use Rattle.resolvo_report.specs.Value.{Place}
use Rattle.resolvo_checker.specs.StepClauses.{Clause, case_at, need_clause, gate_clause, limit_bars_clause, limit_clause, lock_clause, exclude_clause, unknown_clause}
use Rattle.resolvo_checker.specs.RuleLines.{line_of_rule, rule_line, is_owned, owned_line}
use Rattle.resolvo_checker.proofs.Sets.{same_own, same_is}

-- ---- lines without such a rule give no clause

by_owned : (f : Option Line → Option Clause) → ((x : Line) → is_owned x ≡ false → f (Some x) ≡ f None) → (l : Option Line) → f (owned_line l) ≡ f l
by_owned f other None = refl
by_owned f other (Some x) = one (is_owned x) refl where
  one : (b : Bool) → is_owned x ≡ b → f (cond b (Some x) None) ≡ f (Some x)
  one true e = refl
  one false e = sym (other x e)

by_rule : (f : Option Line → Option Clause) → ((x : Line) → is_rule x ≡ false → f (Some x) ≡ f None) → (l : Option Line) → f (rule_line l) ≡ f l
by_rule f other None = refl
by_rule f other (Some x) = one (is_rule x) refl where
  one : (b : Bool) → is_rule x ≡ b → f (cond b (Some x) None) ≡ f (Some x)
  one true e = refl
  one false e = sym (other x e)

pub need_owned : (c : List Line) (p : Place) (k : ℕ) (l : Option Line) → need_clause c p k (owned_line l) ≡ need_clause c p k l
need_owned c p k l = by_owned (need_clause c p k) other l where
  other : (x : Line) → is_owned x ≡ false → need_clause c p k (Some x) ≡ None
  other (Needs a d) h = absurd (false≢true (sym h))
  other (Limits s) h = refl
  other Skipped h = refl
  other (Listed v) h = refl
  other (Unknown r) h = refl
  other (Lock v) h = refl
  other (Favour v) h = refl
  other (Many name) h = refl
  other (Exclude v r) h = refl
  other (Wish v) h = refl

pub gate_owned : (v : Version) (l : Option Line) → gate_clause v (owned_line l) ≡ gate_clause v l
gate_owned v l = by_owned (gate_clause v) other l where
  other : (x : Line) → is_owned x ≡ false → gate_clause v (Some x) ≡ None
  other (Needs a d) h = absurd (false≢true (sym h))
  other (Limits s) h = refl
  other Skipped h = refl
  other (Listed v) h = refl
  other (Unknown r) h = refl
  other (Lock v) h = refl
  other (Favour v) h = refl
  other (Many name) h = refl
  other (Exclude v r) h = refl
  other (Wish v) h = refl

pub limit_owned : (p : Place) (l : Option Line) → limit_clause p (owned_line l) ≡ limit_clause p l
limit_owned p l = by_owned (limit_clause p) other l where
  other : (x : Line) → is_owned x ≡ false → limit_clause p (Some x) ≡ None
  other (Limits s) h = absurd (false≢true (sym h))
  other (Needs a d) h = refl
  other Skipped h = refl
  other (Listed v) h = refl
  other (Unknown r) h = refl
  other (Lock v) h = refl
  other (Favour v) h = refl
  other (Many name) h = refl
  other (Exclude v r) h = refl
  other (Wish v) h = refl

pub limit_bars_owned : (c : List Line) (p : Place) (v : Version) (l : Option Line) → limit_bars_clause c p v (owned_line l) ≡ limit_bars_clause c p v l
limit_bars_owned c p v l = by_owned (limit_bars_clause c p v) other l where
  other : (x : Line) → is_owned x ≡ false → limit_bars_clause c p v (Some x) ≡ None
  other (Limits s) h = absurd (false≢true (sym h))
  other (Needs a d) h = refl
  other Skipped h = refl
  other (Listed w) h = refl
  other (Unknown r) h = refl
  other (Lock w) h = refl
  other (Favour w) h = refl
  other (Many name) h = refl
  other (Exclude w r) h = refl
  other (Wish w) h = refl

pub lock_rule : (c : List Line) (v : Version) (l : Option Line) → lock_clause c v (rule_line l) ≡ lock_clause c v l
lock_rule c v l = by_rule (lock_clause c v) other l where
  other : (x : Line) → is_rule x ≡ false → lock_clause c v (Some x) ≡ None
  other (Lock w) h = absurd (false≢true (sym h))
  other (Needs a d) h = refl
  other (Limits s) h = refl
  other Skipped h = refl
  other (Listed w) h = refl
  other (Unknown r) h = refl
  other (Favour w) h = refl
  other (Many name) h = refl
  other (Exclude w r) h = refl
  other (Wish w) h = refl

pub exclude_rule : (l : Option Line) → exclude_clause (rule_line l) ≡ exclude_clause l
exclude_rule l = by_rule exclude_clause other l where
  other : (x : Line) → is_rule x ≡ false → exclude_clause (Some x) ≡ None
  other (Exclude w r) h = absurd (false≢true (sym h))
  other (Needs a d) h = refl
  other (Limits s) h = refl
  other Skipped h = refl
  other (Listed w) h = refl
  other (Unknown r) h = refl
  other (Lock w) h = refl
  other (Favour w) h = refl
  other (Many name) h = refl
  other (Wish w) h = refl

pub unknown_rule : (o : Option Version) (l : Option Line) → unknown_clause o (rule_line l) ≡ unknown_clause o l
unknown_rule o l = by_rule (unknown_clause o) other l where
  other : (x : Line) → is_rule x ≡ false → unknown_clause o (Some x) ≡ None
  other (Unknown r) h = absurd (false≢true (sym h))
  other (Needs a d) h = refl
  other (Limits s) h = refl
  other Skipped h = refl
  other (Listed w) h = refl
  other (Lock w) h = refl
  other (Favour w) h = refl
  other (Many name) h = refl
  other (Exclude w r) h = refl
  other (Wish w) h = refl

-- ---- a rule that is lent is the one that was made or found

pub if_lent : {X : Type 0} (P : X → Type 0) (lent made : Option X) → lent ≡ made → IfSome made P → IfSome lent P
if_lent {X = X} P lent made same h = subst (λ (o : Option X). IfSome o P) (sym same) h

pub if_found : (P : Rule → Type 0) (rule : Option FoundRule) (lent : Option Rule) → lent ≡ option_map rule_found rule → IfSome rule (λ r. P (rule_found r)) → IfSome lent P
if_found P rule lent same h = if_lent P lent (option_map rule_found rule) same (within rule h) where
  within : (o : Option FoundRule) → IfSome o (λ r. P (rule_found r)) → IfSome (option_map rule_found o) P
  within None k = k
  within (Some r) k = k

-- the line of a rule that is lent
pub line_lent : (vs : List Version) (lent made : Option Rule) (l : Option Line) → lent ≡ made → l ≡ option_and_then (line_of_rule vs) made → option_and_then (line_of_rule vs) lent ≡ l
line_lent vs lent made l same e = ap (option_and_then (line_of_rule vs)) same ∙ sym e

-- ---- versions by their numbers

pub is_listed_at : (vs : List Version) (n : ℕ) (v : Version) → slice_get vs n ≡ Some v → is_member v vs ≡ true
is_listed_at [] n v e = cc
is_listed_at (w ∷ vs) zero v e = let same : w ≡ v = cc in or_left _ _ (subst (λ (x : Version). same_version v x ≡ true) (sym same) (same_own v))
is_listed_at (w ∷ vs) (suc n) v e = or_right _ _ (is_listed_at vs n v e)

pub is_unlisted : (vs : List Version) (v : Version) → ((n : ℕ) → slice_get vs n ≡ Some v → ⊥) → is_member v vs ≡ false
is_unlisted [] v h = refl
is_unlisted (w ∷ vs) v h = elim (cases_Bool (same_version v w)) [
  | inl e ↦ absurd (h 0 (ap Some (sym (same_is v w e))))
  | inr e ↦ ap (λ b. b || is_member v vs) e ∙ is_unlisted vs v (λ n g. h (suc n) g)
]

-- ---- cases by their numbers

pub case_is : (c : Cond) (case k : ℕ) (cs : List (Vec code.Spec)) → case ≡ suc k → cases_of cs ≡ cases c → case_at (Some c) case ≡ option_map (λ x. specs_of x.items) (slice_get cs k)
case_is c case k cs e is = ap (case_at (Some c)) e ∙ (ap (λ xs. slice_get xs k) (sym is) ∙ slice_get-map (λ x. specs_of x.items) cs k)

pub named : (m n : List ℕ) (k : ℕ) → m ≡ n → (let v : Version = record { name = m; number = k } in v) ≡ record { name = n; number = k }
named m n k e = λ i. record { name = e i; number = k }
