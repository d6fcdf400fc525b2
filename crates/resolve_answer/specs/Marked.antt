-- A text as the message of a report has it: with a sign before each line.
use Rattle.std.specs.Prelude.{◌≡◌, ℕ, Bool, true, false, List, [], ◌∷◌, ◌++◌, codes}
use Rattle.resolvo_text.specs.Lines.{is_newline}

-- the sign before a line, where one begins
abbrev pub sign_at : Bool → List ℕ
sign_at true = codes "| "
sign_at false = []

-- these bytes with the sign before each line, the first of which is begun or begins with them
abbrev pub marked : Bool → List ℕ → List ℕ
marked begins [] = []
marked begins (b ∷ bs) = sign_at begins ++ b ∷ marked (is_newline b) bs

-- whether a byte after these begins a line
abbrev pub begins_after : Bool → List ℕ → Bool
begins_after begins [] = begins
begins_after begins (b ∷ bs) = begins_after (is_newline b) bs

-- These bytes were appended so: whether a line begins, and the text, before and after.
abbrev pub Marks : Bool → List ℕ → List ℕ → Bool → List ℕ → Type 0
Marks begins before bytes begins_now after = (after ≡ before ++ marked begins bytes) × (begins_now ≡ begins_after begins bytes)
