-- Sets with the same members keep the same rules, and a step forbids a version with either.
use Rattle.std.proofs.Common.{◌≡◌, ◌↔◌, inl, inr, ℕ, zero, suc, Bool, true, false, List, [], ◌∷◌, Option, Some, None, refl, sym, ap, subst, ◌∙◌}
use Rattle.std.specs.Prelude.{Contains, not, ◌&&◌, ◌||◌, ◌==◌, slice_get}
use Rattle.std.specs.List.{list_any, list_all}
use Rattle.std.specs.Option.{option_map_or, option_and_then}
use Rattle.std.specs.Str.{bytes_eq}
use Rattle.std.proofs.lemmas.Bool.{and_from, and_parts}
use Rattle.resolvo_text.specs.Line.{Version, Spec, Cond, Is, And, Or, Line, Skipped, Listed, Needs, Limits, Unknown, Lock, Favour, Exclude, Many, Wish}
use Rattle.resolvo_text.specs.Matches.{Set, same_package, same_version, matches, is_met_by_one, holds, condition_holds}
use Rattle.resolvo_catalogue_core.specs.Grammar.{line_at, owner_of}
use Rattle.resolvo_catalogue_core.specs.Rules.{binds, obeys}
use Rattle.resolvo_catalogue_core.specs.Sets.{IsRuleKeeping}
use Rattle.resolve_order.proofs.Elements.{no_element, first_element, later_element, element_cases, any_from, any_element}
use Rattle.resolvo_report.specs.Value.{Atom, Chosen, AnyOf, SharedBy, OutsideOf, MatchesOf, BitOf, Step}
use Rattle.resolvo_checker.specs.StepClauses.{Clause, clause_of}
use Rattle.resolvo_checker.specs.Proof.{is_among, forbids}
use Rattle.resolvo_judge.specs.Refusal.{step_forbids}

-- The sets have the same members.
abbrev pub AreSame : Set → Set → Type 0
AreSame a b = (v : Version) → Contains a v ↔ Contains b v

-- a property of each element
all_from : {X : Type 0} (p : X → Bool) (xs : List X) → ((x : X) → Contains xs x → p x ≡ true) → list_all p xs ≡ true
all_from p [] h = refl
all_from p (x ∷ xs) h = and_from _ _ (h x (first_element x xs)) (all_from p xs (λ y c. h y (later_element x xs y c)))

all_of : {X : Type 0} (p : X → Bool) (xs : List X) → list_all p xs ≡ true → (x : X) → Contains xs x → p x ≡ true
all_of p [] h x c = absurd (no_element x c)
all_of p (y ∷ xs) h x c =
    let parts = and_parts (p y) (list_all p xs) h in
    elim (element_cases y xs x c) [ inl is ↦ subst (λ z. p z ≡ true) is parts.0 | inr more ↦ all_of p xs parts.1 x more ]

-- two tests that are true alike
true_alike : (a b : Bool) → (a ≡ true → b ≡ true) → (b ≡ true → a ≡ true) → a ≡ b
true_alike true b f g = sym (f refl)
true_alike false true f g = g refl
true_alike false false f g = refl

module _ (a b : Set) (same : AreSame a b) where
  any_same : (p : Version → Bool) → list_any p a ≡ list_any p b
  any_same p = true_alike (list_any p a) (list_any p b) (λ h. let f = any_element p a h in any_from p b f.0 ((same f.0).0 f.1) f.2) (λ h. let f = any_element p b h in any_from p a f.0 ((same f.0).1 f.1) f.2)

  all_same : (p : Version → Bool) → list_all p a ≡ list_all p b
  all_same p = true_alike (list_all p a) (list_all p b) (λ h. all_from p b (λ v c. all_of p a h v ((same v).1 c))) (λ h. all_from p a (λ v c. all_of p b h v ((same v).0 c)))

  met_same : (ss : List Spec) → is_met_by_one ss a ≡ is_met_by_one ss b
  met_same [] = refl
  met_same (s ∷ ss) = λ i. any_same (matches s) i || met_same ss i

  holds_same : (c : Cond) → holds c a ≡ holds c b
  holds_same (Is s) = any_same (matches s)
  holds_same (And x y) = λ i. holds_same x i && holds_same y i
  holds_same (Or x y) = λ i. holds_same x i || holds_same y i

  condition_same : (c : Option Cond) → condition_holds c a ≡ condition_holds c b
  condition_same None = refl
  condition_same (Some c) = holds_same c

  binds_same : (owner : Option Version) → binds owner a ≡ binds owner b
  binds_same None = refl
  binds_same (Some v) = any_same (same_version v)

  obeys_same : (owner : Option Version) (line : Line) → obeys owner line a ≡ obeys owner line b
  obeys_same owner (Needs alternatives condition) = λ i. not (binds_same owner i) || not (condition_same condition i) || met_same alternatives i
  obeys_same owner (Limits s) = λ i. not (binds_same owner i) || all_same (λ v. not (bytes_eq v.name s.name) || matches s v) i
  obeys_same owner (Lock v) = all_same (λ w. not (same_package w v) || w.number == v.number)
  obeys_same owner (Exclude v reason) = λ i. not (any_same (same_version v) i)
  obeys_same owner (Unknown reason) = λ i. not (binds_same owner i)
  obeys_same owner Skipped = refl
  obeys_same owner (Listed v) = refl
  obeys_same owner (Favour v) = refl
  obeys_same owner (Many name) = refl
  obeys_same owner (Wish v) = refl

  line_same : (owner : Option Version) (o : Option Line) → option_map_or (λ line. obeys owner line a) o true ≡ option_map_or (λ line. obeys owner line b) o true
  line_same owner None = refl
  line_same owner (Some l) = obeys_same owner l

  -- so both keep the rules, or none does
  pub keeping_same : (catalogue request : List Line) → IsRuleKeeping catalogue request a → IsRuleKeeping catalogue request b
  keeping_same catalogue request h = record {
    single = record {
      listed = λ v c. h.single.listed v ((same v).1 c);
      one_each = λ v w c d. h.single.one_each v w ((same v).1 c) ((same w).1 d);
    };
    catalogue_lines = λ n. sym (line_same (owner_of catalogue n) (line_at catalogue n)) ∙ h.catalogue_lines n;
    request_lines = λ n. sym (line_same None (line_at request n)) ∙ h.request_lines n;
  }

  among_same : (wish : Version) (x : Atom) → is_among a wish x ≡ is_among b wish x
  among_same wish (Chosen v) = ap (λ t. same_version v wish || t) (any_same (same_version v))
  among_same wish (AnyOf name) = refl
  among_same wish (SharedBy ss) = refl
  among_same wish (OutsideOf s) = refl
  among_same wish (MatchesOf s) = refl
  among_same wish (BitOf bit name) = refl

  forbids_same : (wish : Version) (clause : Clause) → forbids a wish clause ≡ forbids b wish clause
  forbids_same wish [] = refl
  forbids_same wish (l ∷ clause) = λ i. (not l.positive && among_same wish l.atom i) && forbids_same wish clause i

  clause_same : (wish : Version) (o : Option Clause) → option_map_or (forbids a wish) o false ≡ option_map_or (forbids b wish) o false
  clause_same wish None = refl
  clause_same wish (Some clause) = forbids_same wish clause

  -- and a step forbids the version with both, or with none
  pub step_forbids_same : (catalogue request : List Line) (steps : List Step) (wish : Version) (step : ℕ) → step_forbids catalogue request steps a wish step ≡ step_forbids catalogue request steps b wish step
  step_forbids_same catalogue request steps wish zero = refl
  step_forbids_same catalogue request steps wish (suc k) = clause_same wish (option_and_then (clause_of catalogue request) (slice_get steps k))
