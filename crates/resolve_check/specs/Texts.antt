-- The texts that a run or a check writes beside reports.
use Rattle.std.specs.Prelude.{ℕ, List, [], ◌∷◌, ◌++◌, codes}
use Rattle.std.specs.Fmt.{decimal}

abbrev pub newline : List ℕ
newline = 10 ∷ []

-- the line of a fault
abbrev pub fault_text : List ℕ → ℕ → List ℕ
fault_text which n = codes "fault at " ++ (which ++ (codes " line " ++ (decimal n ++ newline)))
