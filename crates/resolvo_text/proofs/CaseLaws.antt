-- A condition holds exactly if all SPECs of some case are met.
use Rattle.std.proofs.Common.{◌≡◌, Bool, true, false, ◌&&◌, ◌||◌, List, [], ◌∷◌, ◌++◌, map, Option, Some, None, refl, sym, ap, ◌∙◌}
use Rattle.std.proofs.lemmas.List.Folds.{list_all-append}
use Rattle.std.proofs.lemmas.List.{append-nil}
use Rattle.std.proofs.lemmas.Grind.{flat_map-append}
use Rattle.resolvo_text.specs.Line.{Spec, Cond, Is, And, Or}
use Rattle.resolvo_text.specs.Matches.{Set, is_met, holds, condition_holds}
use Rattle.resolvo_text.specs.Cases.{cases, pairs, condition_cases, all_met, some_case_met}

or_assoc : (a b c : Bool) → ((a || b) || c) ≡ (a || (b || c))
or_assoc true b c = refl
or_assoc false b c = refl

and_or : (a b c : Bool) → (a && (b || c)) ≡ ((a && b) || (a && c))
and_or true b c = refl
and_or false b c = refl

or_and : (a b c : Bool) → ((a || b) && c) ≡ ((a && c) || (b && c))
or_and true true c = or_same c
  where
    or_same : (c : Bool) → c ≡ (c || c)
    or_same true = refl
    or_same false = refl
or_and true false c = or_none c
  where
    or_none : (c : Bool) → c ≡ (c || false)
    or_none true = refl
    or_none false = refl
or_and false b c = refl

and_false : (a : Bool) → false ≡ (a && false)
and_false true = refl
and_false false = refl

list_any-append : (cs ds : List (List Spec)) (set : Set) → some_case_met (cs ++ ds) set ≡ (some_case_met cs set || some_case_met ds set)
list_any-append [] ds set = refl
list_any-append (c ∷ cs) ds set = ap (λ (b : Bool). all_met c set || b) (list_any-append cs ds set) ∙ sym (or_assoc (all_met c set) (some_case_met cs set) (some_case_met ds set))

with_each : (l : List Spec) (right : List (List Spec)) (set : Set) → some_case_met (map (λ r. l ++ r) right) set ≡ (all_met l set && some_case_met right set)
with_each l [] set = and_false (all_met l set)
with_each l (r ∷ right) set =
    ap (λ (b : Bool). b || some_case_met (map (λ x. l ++ x) right) set) (list_all-append (λ s. is_met s set) l r)
    ∙ ap (λ (b : Bool). (all_met l set && all_met r set) || b) (with_each l right set)
    ∙ sym (and_or (all_met l set) (all_met r set) (some_case_met right set))

of_pairs : (left right : List (List Spec)) (set : Set) → some_case_met (pairs left right) set ≡ (some_case_met left set && some_case_met right set)
of_pairs [] right set = refl
of_pairs (l ∷ left) right set =
    list_any-append (map (λ r. l ++ r) right) (pairs left right) set
    ∙ ap (λ (b : Bool). b || some_case_met (pairs left right) set) (with_each l right set)
    ∙ ap (λ (b : Bool). (all_met l set && some_case_met right set) || b) (of_pairs left right set)
    ∙ sym (or_and (all_met l set) (some_case_met left set) (some_case_met right set))

one_case : (b : Bool) → ((b && true) || false) ≡ b
one_case true = refl
one_case false = refl

pub holds-cases : (c : Cond) (set : Set) → some_case_met (cases c) set ≡ holds c set
holds-cases (Is s) set = one_case (is_met s set)
holds-cases (And a b) set = of_pairs (cases a) (cases b) set ∙ ap (λ (x : Bool). x && some_case_met (cases b) set) (holds-cases a set) ∙ ap (λ (x : Bool). holds a set && x) (holds-cases b set)
holds-cases (Or a b) set = list_any-append (cases a) (cases b) set ∙ ap (λ (x : Bool). x || some_case_met (cases b) set) (holds-cases a set) ∙ ap (λ (x : Bool). holds a set || x) (holds-cases b set)

pub condition_holds-cases : (c : Option Cond) (set : Set) → some_case_met (condition_cases c) set ≡ condition_holds c set
condition_holds-cases None set = refl
condition_holds-cases (Some c) set = holds-cases c set

pub pairs_more : (left : List (List Spec)) (l : List Spec) (right : List (List Spec)) → pairs (left ++ l ∷ []) right ≡ pairs left right ++ map (λ r. l ++ r) right
pairs_more left l right = flat_map-append (λ x. map (λ r. x ++ r) right) left (l ∷ []) ∙ ap (λ (cs : List (List Spec)). pairs left right ++ cs) (append-nil (map (λ r. l ++ r) right))
