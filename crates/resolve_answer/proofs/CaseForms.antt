-- The SPECs of a condition's cases have forms, where a text spells the condition.
use Rattle.std.proofs.Common.{◌≡◌, inl, inr, ℕ, List, [], ◌∷◌, ◌++◌, map, Option, Some, None, sym, subst}
use Rattle.std.specs.Prelude.{Contains}
use Rattle.resolvo_text.specs.Line.{Spec, Cond, Needs}
use Rattle.resolvo_text.specs.Cases.{cases, condition_cases}
use Rattle.resolvo_text.specs.Spelling.{Written, Lone, Group, Both, Either, meant, IsSpec, IsWritten, Spells}
use Rattle.resolvo_catalogue.proofs.Elements.{flat_from}
use Rattle.resolvo_sat.proofs.Lists.{contains_none, contains_one, contains_parts, map_contains}

written_fits : (w : Written) → IsWritten w → (case : List Spec) → Contains (cases (meant w)) case → (s : Spec) → Contains case s → IsSpec s
written_fits (Lone t) fits case among s has =
    let only : s ≡ t = contains_one s t (subst (λ (ss : List Spec). Contains ss s) (contains_one case (t ∷ []) among) has) in
    subst (λ (x : Spec). IsSpec x) (sym only) fits
written_fits (Group w) fits case among s has = written_fits w fits case among s has
written_fits (Both v w) fits case among s has =
    let (l, left, more) = flat_from (λ (l : List Spec). map (λ r. l ++ r) (cases (meant w))) (cases (meant v)) case among in
    let (r, right, is) = map_contains (λ (r : List Spec). l ++ r) case (cases (meant w)) more in
    elim (contains_parts s l r (subst (λ (ss : List Spec). Contains ss s) is has)) [ inl a ↦ written_fits v fits.0 l left s a | inr b ↦ written_fits w fits.1 r right s b ]
written_fits (Either v w) fits case among s has =
    elim (contains_parts case (cases (meant v)) (cases (meant w)) among) [ inl a ↦ written_fits v fits.0 case a s has | inr b ↦ written_fits w fits.1 case b s has ]

-- a line's condition is one that is written
pub case_fits : (text : List ℕ) (alternatives : List Spec) (condition : Option Cond) → Spells text (Needs alternatives condition) → (case : List Spec) → Contains (condition_cases condition) case → (s : Spec) → Contains case s → IsSpec s
case_fits text alternatives None spells case among s has = absurd (contains_none s (subst (λ (ss : List Spec). Contains ss s) (contains_one case [] among) has))
case_fits text alternatives (Some c) (words, is, (others, source, condition)) case among s has =
    written_fits condition.written condition.form.form case (subst (λ (x : Cond). Contains (cases x) case) (sym condition.means) among) s has
