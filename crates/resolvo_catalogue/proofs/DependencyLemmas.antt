-- The dependencies of lines, line by line.
use Rattle.std.proofs.Common.{◌≡◌, ℕ, zero, suc, ◌+◌, false, List, [], ◌∷◌, ◌++◌, take, Option, Some, None, refl, ap, subst, ◌∙◌, arith}
use Rattle.std.specs.Prelude.{option_to_list, slice_get}
use Rattle.std.specs.List.{flat_map}
use Rattle.std.proofs.lemmas.Grind.{flat_map-append}
use Rattle.std.proofs.lemmas.List.Concat.{flat_map-cons}
use Rattle.std.proofs.lemmas.List.{append-nil}
use Rattle.std.proofs.lemmas.List.Elements.{Contains-push}
use Rattle.resolvo_text.specs.Line.{Spec, Cond, Line, Skipped, Listed, Needs, Limits, Unknown, Lock, Favour, Exclude, Many, Wish}
use Rattle.resolvo_catalogue_core.specs.Grammar.{line_at}
use Rattle.resolvo_catalogue_core.specs.Questions.{is_rule}
use Rattle.resolvo_pool_core.specs.declared.id.StringId.{StringId}
use Rattle.resolvo_pool_core.specs.declared.id.VersionSetId.{VersionSetId}
use Rattle.resolvo_pool_core.specs.declared.requirement.ConditionalRequirement.{ConditionalRequirement}
use Rattle.resolvo_catalogue.specs.Ids.{Ids, IsSpec, IsNeed, IsWord, Grows}
use Rattle.resolvo_catalogue.specs.Dependencies.{VersionDependencies, AreDependenciesOf, IsReason, need_in, limit_in, reason_in}
use Rattle.resolvo_catalogue.proofs.GrowLemmas.{needs_stay, specs_stay}
use Rattle.resolvo_terms.proofs.GrowLemmas.{each_more}

pub last_piece : {X A : Type 0} (f : X → List A) (xs : List X) (x : X) → flat_map f (xs ++ x ∷ []) ≡ flat_map f xs ++ f x
last_piece f xs x = flat_map-append f xs (x ∷ []) ∙ ap (λ ys. flat_map f xs ++ ys) (flat_map-cons f x [] ∙ append-nil (f x))

reason_stays : (a b : Ids) → Grows a b → (w : Option StringId) (reasons : List (List ℕ)) → IsReason a w reasons → IsReason b w reasons
reason_stays a b grows None reasons h = h
reason_stays a b grows (Some w) reasons h = (h.0, h.1, grows.words _ _ h.2)

pub deps_of_stay : (a b : Ids) → Grows a b → (ls : List Line) (deps : VersionDependencies) → AreDependenciesOf a ls deps → AreDependenciesOf b ls deps
deps_of_stay a b grows ls deps h = record {
  requirements = needs_stay a b grows deps.requirements _ h.requirements;
  constrains = specs_stay a b grows deps.constrains _ h.constrains;
  unknown = reason_stays a b grows deps.unknown _ h.unknown;
}

module _ (ids : Ids) (ls : List Line) (deps : VersionDependencies) (h : AreDependenciesOf ids ls deps) where
  pub deps_need : (line : Line) (alternatives : List Spec) (condition : Option Cond) (need : ConditionalRequirement) (needs : List ConditionalRequirement) → line ≡ Needs alternatives condition → IsNeed ids need (alternatives, condition)
      → needs ≡ deps.requirements ++ need ∷ [] → AreDependenciesOf ids (ls ++ line ∷ []) (record deps { requirements = needs })
  deps_need line alternatives condition need needs line_is is put = rw (line_is, put) (record {
    requirements = rw (last_piece need_in ls (Needs alternatives condition)) (each_more (IsNeed ids) deps.requirements (need ∷ []) _ ((alternatives, condition) ∷ []) h.requirements (is, tt));
    constrains = rw (last_piece limit_in ls (Needs alternatives condition), append-nil (flat_map limit_in ls)) h.constrains;
    unknown = rw (last_piece reason_in ls (Needs alternatives condition), append-nil (flat_map reason_in ls)) h.unknown;
  })

  pub deps_limit : (line : Line) (s : Spec) (v : VersionSetId) (vs : List VersionSetId) → line ≡ Limits s → IsSpec ids v s → vs ≡ deps.constrains ++ v ∷ [] → AreDependenciesOf ids (ls ++ line ∷ []) (record deps { constrains = vs })
  deps_limit line s v vs line_is is put = rw (line_is, put) (record {
    requirements = rw (last_piece need_in ls (Limits s), append-nil (flat_map need_in ls)) h.requirements;
    constrains = rw (last_piece limit_in ls (Limits s)) (each_more (IsSpec ids) deps.constrains (v ∷ []) _ (s ∷ []) h.constrains (is, tt));
    unknown = rw (last_piece reason_in ls (Limits s), append-nil (flat_map reason_in ls)) h.unknown;
  })

  pub deps_unknown : (line : Line) (reason : List ℕ) (w : StringId) → line ≡ Unknown reason → IsWord ids w reason → AreDependenciesOf ids (ls ++ line ∷ []) (record deps { unknown = Some w })
  deps_unknown line reason w line_is is = rw line_is (record {
    requirements = rw (last_piece need_in ls (Unknown reason), append-nil (flat_map need_in ls)) h.requirements;
    constrains = rw (last_piece limit_in ls (Unknown reason), append-nil (flat_map limit_in ls)) h.constrains;
    unknown = rw (last_piece reason_in ls (Unknown reason)) (reason, Contains-push (flat_map reason_in ls) reason, is);
  })

  pub deps_other : (line : Line) → need_in line ≡ [] → limit_in line ≡ [] → reason_in line ≡ [] → AreDependenciesOf ids (ls ++ line ∷ []) deps
  deps_other line n l r = record {
    requirements = rw (last_piece need_in ls line, n, append-nil (flat_map need_in ls)) h.requirements;
    constrains = rw (last_piece limit_in ls line, l, append-nil (flat_map limit_in ls)) h.constrains;
    unknown = rw (last_piece reason_in ls line, r, append-nil (flat_map reason_in ls)) h.unknown;
  }

  -- a line without a rule adds no dependency
  pub deps_no_rule : (line : Line) → is_rule line ≡ false → AreDependenciesOf ids (ls ++ line ∷ []) deps
  deps_no_rule Skipped e = deps_other Skipped refl refl refl
  deps_no_rule (Listed v) e = deps_other (Listed v) refl refl refl
  deps_no_rule (Favour v) e = deps_other (Favour v) refl refl refl
  deps_no_rule (Many name) e = deps_other (Many name) refl refl refl
  deps_no_rule (Wish v) e = deps_other (Wish v) refl refl refl
  deps_no_rule (Needs ss c) e = absurd cc
  deps_no_rule (Limits s) e = absurd cc
  deps_no_rule (Unknown r) e = absurd cc
  deps_no_rule (Lock v) e = absurd cc
  deps_no_rule (Exclude v r) e = absurd cc

text_suc : (lines : List Line) (i : ℕ) → take (suc i) lines ≡ take i lines ++ option_to_list (slice_get lines i)
text_suc [] zero = refl
text_suc [] (suc i) = refl
text_suc (l ∷ lines) zero = refl
text_suc (l ∷ lines) (suc i) = ap (λ (ls : List Line). l ∷ ls) (text_suc lines i)

-- the lines of a text, one more
pub text_next : (lines : List Line) (i : ℕ) → take (i + 1) lines ≡ take i lines ++ option_to_list (line_at lines (i + 1))
text_next lines i = subst (λ (n : ℕ). take n lines ≡ take i lines ++ option_to_list (line_at lines n)) (let e : suc i ≡ i + 1 = omega arith in e) (text_suc lines i)

pub text_step : (lines : List Line) (i : ℕ) (l : Line) → line_at lines (i + 1) ≡ Some l → take (i + 1) lines ≡ take i lines ++ l ∷ []
text_step lines i l at = text_next lines i ∙ ap (λ o. take i lines ++ option_to_list o) at

-- a number without a rule adds no dependency
pub deps_none : (ids : Ids) (deps : VersionDependencies) (lines before : List Line) (n : ℕ) → AreDependenciesOf ids before deps → ((l : Line) → line_at lines n ≡ Some l → is_rule l ≡ false) → AreDependenciesOf ids (before ++ option_to_list (line_at lines n)) deps
deps_none ids deps lines before n h none = go (line_at lines n) none
  where
    go : (o : Option Line) → ((l : Line) → o ≡ Some l → is_rule l ≡ false) → AreDependenciesOf ids (before ++ option_to_list o) deps
    go None none = rw (append-nil before) h
    go (Some l) none = deps_no_rule ids before deps h l (none l refl)
