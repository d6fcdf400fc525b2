-- Marks of named lines, and lines with a rule.
use Rattle.std.proofs.Common.{◌≡◌, ℕ, zero, suc, ◌<◌, Bool, true, false, List, [], ◌∷◌, ◌++◌, length, Option, Some, None, refl, sym, ap, ◌∙◌, eqb, slice_set, inl, inr}
use Rattle.std.specs.Prelude.{◌||◌, unwrap_or}
use Rattle.std.proofs.lemmas.Bool.{false≢true, cases_Bool, eqb-true, eq-eqb}
use Rattle.resolvo_checker.proofs.CheckLemmas.{get_set, get_set_other}
use Rattle.resolvo_text.specs.Line.{Version, Line}
use Rattle.resolvo_catalogue_core.specs.Questions.{IsRuleLine, is_rule}
use Rattle.resolvo_catalogue_core.specs.declared.rule.Rule.{Rule}
use Rattle.resolvo_catalogue_core.specs.declared.rule.Rule.TheVariants as rule
use Rattle.resolvo_checker.specs.CheckStep.{flag_at}
use Rattle.resolvo_judge.specs.Refusal.{has_rule}

pub flag_push : (marks : List Bool) (n : ℕ) → flag_at (marks ++ false ∷ []) n ≡ flag_at marks n
flag_push [] zero = refl
flag_push [] (suc n) = refl
flag_push (m ∷ marks) zero = refl
flag_push (m ∷ marks) (suc n) = flag_push marks n

pub flag_set : (marks : List Bool) (k n : ℕ) → k < length marks → flag_at (slice_set marks k true) n ≡ (eqb k n || flag_at marks n)
flag_set marks k n h = elim (cases_Bool (eqb k n)) [
  | inl e ↦ ap (λ (i : ℕ). flag_at (slice_set marks k true) i) (sym (eqb-true k n e)) ∙ (ap (λ o. unwrap_or o false) (get_set marks k true h) ∙ sym (ap (λ b. b || flag_at marks n) e))
  | inr e ↦ ap (λ o. unwrap_or o false) (get_set_other marks k n true (λ i. false≢true (sym e ∙ eq-eqb k n i))) ∙ sym (ap (λ b. b || flag_at marks n) e)
]

pub is_rule_line : (vs : List Version) (r : Rule) (owner : Option Version) (l : Line) → IsRuleLine vs r owner l → is_rule l ≡ true
is_rule_line vs (rule.Needs of a c) owner l s = ap is_rule s.0
is_rule_line vs (rule.Limits of x) owner l s = ap is_rule s.0
is_rule_line vs (rule.Unknown of w) owner l s = ap is_rule s.0
is_rule_line vs (rule.Lock n) owner l s = ap is_rule s.2
is_rule_line vs (rule.Exclude n w) owner l s = ap is_rule s.2

pub rule_line_at : (o : Option Line) (l : Line) → o ≡ Some l → is_rule l ≡ true → true ≡ has_rule o
rule_line_at o l at is = sym (ap has_rule at ∙ is)

pub no_rule_line : (o : Option Line) → ((l : Line) → o ≡ Some l → is_rule l ≡ false) → false ≡ has_rule o
no_rule_line None h = refl
no_rule_line (Some l) h = sym (h l refl)
