-- The keys of steps: a key is of one step, and what is known of a step that has one.
use Rattle.std.proofs.Common.{◌≡◌, ◌⊎◌, inl, inr, ℕ, zero, suc, true, List, [], ◌∷◌, ◌++◌, length, Option, Some, None, refl, sym, ap, subst, ◌∙◌, cond}
use Rattle.std.specs.Prelude.{slice_get, is_some}
use Rattle.std.specs.Global.{Vec}
use Rattle.std.specs.List.{flat_map}
use Rattle.std.specs.Str.{bytes_eq}
use Rattle.std.specs.Cmp.Lexicographic.{bytes_decides}
use Rattle.std.proofs.lemmas.Bool.{false≢true, cases_Bool, cond-true, cond-false}
use Rattle.std.proofs.lemmas.Option.{none-some, same_Some}
use Rattle.resolvo_text.specs.Line.{Version, Spec, Line}
use Rattle.resolvo_terms.proofs.Places.{get_new, get_kept}
use Rattle.resolvo_report.specs.Value.{Place, OfRequest, OfVersion, Step}
use Rattle.resolvo_report.specs.Value as step
use Rattle.resolvo_checker.specs.Numbers.{number_in}
use Rattle.resolvo_checker.specs.Keys.{spec_key}
use Rattle.resolvo_checker.specs.StepClauses.{clause_of}
use Rattle.resolvo_checker.specs.Proof.{allows_place, follows}
use Rattle.resolvo_checker.specs.CheckStep.{causes_in}
use Rattle.resolvo_checker.specs.Kept.{is_long}
use Rattle.resolvo_checker.specs.StepKeys.{key_of, Recorded}
use Rattle.resolvo_checker.proofs.NameLemmas.{specs_key_is, tail}

-- ---- a key is of one step

abbrev place_in : List ℕ → Place
place_in [] = OfRequest
place_in (number ∷ name) = OfVersion (record { name = name; number = number })

-- the step of a key, if it isn't that of a helper
abbrev step_in : List ℕ → Option Step
step_in (zero ∷ line ∷ case ∷ place) = Some (step.Need (place_in place) line case)
step_in (suc zero ∷ line ∷ number ∷ name) = Some (step.Gate (record { name = name; number = number }) line)
step_in (suc (suc (suc zero)) ∷ line ∷ place) = Some (step.Limit (place_in place) line)
step_in key = None

abbrev IsShared : Step → List ℕ → Type 0
IsShared s key = (ss : List Spec) × (s ≡ step.Shared ss) × (key ≡ 2 ∷ flat_map spec_key ss)

step_is : (s : Step) (key : List ℕ) → key_of s ≡ Some key → (step_in key ≡ Some s) ⊎ IsShared s key
step_is (step.Need OfRequest line case) key e = inl (ap step_in (sym (same_Some (0 ∷ line ∷ case ∷ []) key e)))
step_is (step.Need (OfVersion v) line case) key e = inl (ap step_in (sym (same_Some (0 ∷ line ∷ case ∷ v.number ∷ v.name) key e)))
step_is (step.Gate v line) key e = inl (ap step_in (sym (same_Some (1 ∷ line ∷ v.number ∷ v.name) key e)))
step_is (step.Shared ss) key e = inr (ss, refl, sym (same_Some (2 ∷ flat_map spec_key ss) key e))
step_is (step.Limit OfRequest line) key e = inl (ap step_in (sym (same_Some (3 ∷ line ∷ []) key e)))
step_is (step.Limit (OfVersion v) line) key e = inl (ap step_in (sym (same_Some (3 ∷ line ∷ v.number ∷ v.name) key e)))
step_is (step.LimitBars p line v) key e = absurd (none-some key e)
step_is (step.Outside s v) key e = absurd (none-some key e)
step_is (step.Matches s v) key e = absurd (none-some key e)
step_is (step.Lock line v) key e = absurd (none-some key e)
step_is (step.Exclude line) key e = absurd (none-some key e)
step_is (step.Unknown line) key e = absurd (none-some key e)
step_is (step.Digit v place bit) key e = absurd (none-some key e)
step_is (step.Any v) key e = absurd (none-some key e)
step_is (step.Derive literals causes) key e = absurd (none-some key e)

key_is : (s t : Step) (key : List ℕ) → key_of s ≡ Some key → key_of t ≡ Some key → s ≡ t
key_is s t key e f = elim (step_is s key e) [
  | inl a ↦ elim (step_is t key f) [
    | inl b ↦ same_Some s t (sym a ∙ b)
    | inr b ↦ absurd (none-some s (sym (ap step_in b.2) ∙ a))
  ]
  | inr a ↦ elim (step_is t key f) [
    | inl b ↦ absurd (none-some t (sym (ap step_in a.2) ∙ b))
    | inr b ↦ a.1 ∙ (ap step.Shared (specs_key_is a.0 b.0 (tail 2 2 (flat_map spec_key a.0) (flat_map spec_key b.0) (sym a.2 ∙ b.2))) ∙ sym b.1)
  ]
]

-- ---- steps that have keys

-- It gives no place and names no step.
pub record IsPlain (s : Step) : Type 0 where
  pub follows : (catalogue request : List Line) (earlier : List Step) → follows catalogue request earlier s ≡ true
  pub allows : (v : Version) (place : ℕ) → allows_place v place s ≡ true
  pub causes : causes_in s ≡ 0

pub plain : (s : Step) (key : List ℕ) → key_of s ≡ Some key → IsPlain s
plain (step.Need p line case) key e = record { follows = λ c r before. refl; allows = λ v place. refl; causes = refl }
plain (step.Gate w line) key e = record { follows = λ c r before. refl; allows = λ v place. refl; causes = refl }
plain (step.Shared ss) key e = record { follows = λ c r before. refl; allows = λ v place. refl; causes = refl }
plain (step.Limit p line) key e = record { follows = λ c r before. refl; allows = λ v place. refl; causes = refl }
plain (step.LimitBars p line v) key e = absurd (none-some key e)
plain (step.Outside s v) key e = absurd (none-some key e)
plain (step.Matches s v) key e = absurd (none-some key e)
plain (step.Lock line v) key e = absurd (none-some key e)
plain (step.Exclude line) key e = absurd (none-some key e)
plain (step.Unknown line) key e = absurd (none-some key e)
plain (step.Digit v place bit) key e = absurd (none-some key e)
plain (step.Any v) key e = absurd (none-some key e)
plain (step.Derive literals causes) key e = absurd (none-some key e)

pub plain_long : (s : Step) → is_long s ≡ true → IsPlain s
plain_long (step.Need p line case) h = record { follows = λ c r before. refl; allows = λ v place. refl; causes = refl }
plain_long (step.Shared ss) h = record { follows = λ c r before. refl; allows = λ v place. refl; causes = refl }
plain_long (step.Gate w line) h = absurd (false≢true h)
plain_long (step.Limit p line) h = absurd (false≢true h)
plain_long (step.LimitBars p line v) h = absurd (false≢true h)
plain_long (step.Outside s v) h = absurd (false≢true h)
plain_long (step.Matches s v) h = absurd (false≢true h)
plain_long (step.Lock line v) h = absurd (false≢true h)
plain_long (step.Exclude line) h = absurd (false≢true h)
plain_long (step.Unknown line) h = absurd (false≢true h)
plain_long (step.Digit v place bit) h = absurd (false≢true h)
plain_long (step.Any v) h = absurd (false≢true h)
plain_long (step.Derive literals causes) h = absurd (false≢true h)

-- ---- one step more

pub recorded_kept : (catalogue request : List Line) (rules : List (Vec ℕ × ℕ)) (earlier : List Step) (s : Step) → Recorded catalogue request rules earlier → Recorded catalogue request rules (earlier ++ s ∷ [])
recorded_kept catalogue request rules earlier s h = λ t k known. let before = h t k known in (get_kept earlier s t k before.0, before.1)

pub recorded_put : (catalogue request : List Line) (old new : List (Vec ℕ × ℕ)) (earlier : List Step) (s : Step) (key : List ℕ) (at : ℕ) → key_of s ≡ Some key
    → ((other : List ℕ) → number_in new other ≡ cond (bytes_eq key other) (Some at) (number_in old other)) → at ≡ length earlier → is_some (clause_of catalogue request s) ≡ true
    → Recorded catalogue request old earlier → Recorded catalogue request new (earlier ++ s ∷ [])
recorded_put catalogue request old new earlier s key at is put last there h = λ t k known. elim (cases_Bool (bytes_eq key known.0)) [
  | inl y ↦
      let same : key ≡ known.0 = (bytes_decides key known.0).0 y in
      let one : s ≡ t = key_is s t known.0 (is ∙ ap Some same) known.1 in
      let given : at ≡ k = same_Some at k (sym (cond-true (bytes_eq key known.0) (Some at) (number_in old known.0) y) ∙ (sym (put known.0) ∙ known.2)) in (
        subst (λ (n : ℕ). slice_get (earlier ++ s ∷ []) n ≡ Some t) (sym last ∙ given) (get_new earlier s ∙ ap Some one),
        subst (λ (u : Step). is_some (clause_of catalogue request u) ≡ true) one there,
      )
  | inr y ↦
      let before = h t k (known.0, known.1, sym (cond-false (bytes_eq key known.0) (Some at) (number_in old known.0) y) ∙ (sym (put known.0) ∙ known.2)) in
      (get_kept earlier s t k before.0, before.1)
]
