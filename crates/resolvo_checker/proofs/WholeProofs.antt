-- The steps of a proof, one after the other.
use Rattle.std.proofs.Common.{◌≡◌, ℕ, zero, suc, ◌+◌, ◌<◌, ◌≤◌, Bool, true, false, List, [], ◌∷◌, ◌++◌, length, take, get_or, Option, Some, None, refl, sym, ap, subst, ◌∙◌, inl, inr, arith, replicate, IfNone}
use Rattle.std.specs.Prelude.{slice_get}
use Rattle.std.specs.Global.{Vec}
use Rattle.std.specs.Option.{option_map}
use Rattle.std.proofs.lemmas.Option.{none-some, slice_get-map, slice_get_read, slice_get_within}
use Rattle.std.proofs.lemmas.List.{take_more, map-append, take-append-le}
use Rattle.resolvo_text.specs.Line.{Line}
use Rattle.resolvo_terms.proofs.Places.{get_push}
use Rattle.resolvo_report.specs.Value.{Step}
use Rattle.resolvo_report.specs.View.{step_of, steps_of}
use Rattle.resolvo_report.specs.declared.step.Step.{Step as CodeStep}
use Rattle.resolvo_checker.specs.Kept.{Kept}
use Rattle.resolvo_checker.specs.Numbers.{number_in}
use Rattle.resolvo_checker.specs.Proof.{is_valid_step, IsProof, IsWrongAt}
use Rattle.resolvo_checker.specs.CheckStep.{allows, causes_in, count_causes, CheckerInvariant}

-- at first every place is allowed
none_given : (n v place : ℕ) → allows (slice_get (replicate n None) v) place ≡ true
none_given zero v place = refl
none_given (suc n) zero place = refl
none_given (suc n) (suc v) place = none_given n v place

pub invariant_empty : (catalogue request : List Line) (entries : List (Vec ℕ × ℕ)) (clauses : List Kept) (places : List (Option ℕ)) (rules : List (Vec ℕ × ℕ)) (n : ℕ) → clauses ≡ [] → places ≡ replicate n None → rules ≡ [] → CheckerInvariant catalogue request entries clauses places rules []
invariant_empty catalogue request entries clauses places rules n e f g =
    subst (λ (cs : List Kept). CheckerInvariant catalogue request entries cs places rules []) (sym e)
    (subst (λ (ps : List (Option ℕ)). CheckerInvariant catalogue request entries [] ps rules []) (sym f)
    (record { kept = tt; placed = λ v k place at. sym (none_given n k place); recorded = λ s k known. absurd (none-some k (ap (λ (rs : List (Vec ℕ × ℕ)). number_in rs known.0) (sym g) ∙ known.2)) }))

-- one step more
pub steps_more : (steps : List CodeStep) (i : ℕ) (s : CodeStep) → i < length steps → s ≡ get_or steps i s → steps_of (take (i + 1) steps) ≡ steps_of (take i steps) ++ step_of s ∷ []
steps_more steps i s h is = ap steps_of (take_more steps i s h ∙ ap (λ (x : CodeStep). take i steps ++ x ∷ []) (sym is)) ∙ map-append step_of (take i steps) (s ∷ [])

pub taken : (steps : List CodeStep) (i : ℕ) → take i (steps_of steps) ≡ steps_of (take i steps)
taken steps zero = refl
taken [] (suc i) = refl
taken (s ∷ steps) (suc i) = ap (λ xs. step_of s ∷ xs) (taken steps i)

pub count_push : (xs : List Step) (s : Step) → count_causes (xs ++ s ∷ []) ≡ count_causes xs + causes_in s
count_push [] s = omega arith
count_push (x ∷ xs) s = omega (arith, count_push xs s)

pub count_more : (steps : List CodeStep) (i : ℕ) (s : CodeStep) → i < length steps → s ≡ get_or steps i s → count_causes (steps_of (take (i + 1) steps)) ≡ count_causes (steps_of (take i steps)) + causes_in (step_of s)
count_more steps i s h is = ap count_causes (steps_more steps i s h is) ∙ count_push (steps_of (take i steps)) (step_of s)

count_take : (steps : List CodeStep) (n : ℕ) → count_causes (steps_of (take n steps)) ≤ count_causes (steps_of steps)
count_take steps zero = omega arith
count_take [] (suc n) = omega arith
count_take (s ∷ steps) (suc n) = omega (arith, count_take steps n)

pub room_for : (steps : List CodeStep) (i : ℕ) (s : CodeStep) → i < length steps → s ≡ get_or steps i s → count_causes (steps_of (take i steps)) + causes_in (step_of s) ≤ count_causes (steps_of steps)
room_for steps i s h is = omega (arith, count_more steps i s h is, count_take steps (i + 1))

pub take_prefix : {X : Type 0} (xs ys : List X) → take (length xs) (xs ++ ys) ≡ xs
take_prefix [] ys = refl
take_prefix (x ∷ xs) ys = ap (λ zs. x ∷ zs) (take_prefix xs ys)

pub proof_push : (catalogue request : List Line) (c r : ℕ → Bool) (xs : List Step) (s : Step) → IsProof catalogue request c r xs → is_valid_step catalogue request c r xs s ≡ true → IsProof catalogue request c r (xs ++ s ∷ [])
proof_push catalogue request c r xs s proof fine n t at = elim (get_push xs s t n at) [
  | inl e ↦ subst (λ (ys : List Step). is_valid_step catalogue request c r ys t ≡ true) (sym (take-append-le n xs (s ∷ []) (let w = slice_get_within xs n t e in omega (arith, w)))) (proof n t e)
  | inr e ↦ subst (λ (ys : List Step). is_valid_step catalogue request c r ys t ≡ true) (sym (ap (λ k. take k (xs ++ s ∷ [])) e.0 ∙ take_prefix xs (s ∷ []))) (subst (λ (u : Step). is_valid_step catalogue request c r xs u ≡ true) e.1 fine)
]

pub wrong_at : (catalogue request : List Line) (c r : ℕ → Bool) (steps : List CodeStep) (i : ℕ) (s : CodeStep) → i < length steps → s ≡ get_or steps i s → IsProof catalogue request c r (steps_of (take i steps)) → is_valid_step catalogue request c r (steps_of (take i steps)) (step_of s) ≡ false
    → IsWrongAt catalogue request c r (steps_of steps) i
wrong_at catalogue request c r steps i s h is proof refused = record {
  before = subst (IsProof catalogue request c r) (sym (taken steps i)) proof;
  wrong = step_of s;
  there = slice_get-map step_of steps i ∙ ap (λ o. option_map step_of o) (slice_get_read steps (length steps) i s refl h is);
  refused = subst (λ (xs : List Step). is_valid_step catalogue request c r xs (step_of s) ≡ false) (sym (taken steps i)) refused;
}

pub none_then : {X P Q : Type 0} (o : Option X) → IfNone o P → (P → Q) → IfNone o Q
none_then None p f = f p
none_then (Some x) p f = p
