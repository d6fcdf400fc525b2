-- The cases of a condition: it holds exactly if all SPECs of some case are met.
use Rattle.std.specs.Prelude.{List, [], ◌∷◌, ◌++◌, map, Bool, Option, Some, None}
use Rattle.std.specs.List.{flat_map, list_any, list_all}
use Rattle.resolvo_text.specs.Line.{Spec, Cond, Is, And, Or}
use Rattle.resolvo_text.specs.Matches.{Set, is_met}

-- each case with each of these, in order
abbrev pub pairs : List (List Spec) → List (List Spec) → List (List Spec)
pairs left right = flat_map (λ l. map (λ r. l ++ r) right) left

-- `or` lists the left side's cases, then the right side's. `and` pairs each left case with each right case,
-- the left one outer.
abbrev pub cases : Cond → List (List Spec)
cases (Is s) = (s ∷ []) ∷ []
cases (And a b) = pairs (cases a) (cases b)
cases (Or a b) = cases a ++ cases b

-- A line without condition has one case, which is empty.
abbrev pub condition_cases : Option Cond → List (List Spec)
condition_cases None = [] ∷ []
condition_cases (Some c) = cases c

abbrev pub all_met : List Spec → Set → Bool
all_met ss set = list_all (λ s. is_met s set) ss

abbrev pub some_case_met : List (List Spec) → Set → Bool
some_case_met cs set = list_any (λ c. all_met c set) cs
