-- Which literals a clause can watch.
use Rattle.std.specs.Prelude.{◌≡◌, ◌≤◌, ◌-◌, ◌||◌, length, slice_get, Bool, true, false, List, Option, Some, None, All, Contains}
use Rattle.resolvo_store_core.specs.Signed.{Signed, same_literal, is_false}
use Rattle.resolvo_store_core.specs.Pairs.{watches}
use Rattle.resolvo_store_core.specs.declared.watched_literals.WatchedLiterals.{WatchedLiterals}

-- two different literals of the clause, or none where it has no two
abbrev pub CanWatch : List Signed → Option WatchedLiterals → Type 0
CanWatch literals None = (l m : Signed) → Contains literals l → Contains literals m → l ≡ m
CanWatch literals (Some p) = Contains literals p.first × Contains literals p.second × (same_literal p.first p.second ≡ false)

-- a literal of the clause that is neither watched nor false, or none where there is no such
abbrev pub IsNext : (Signed → Option Bool) → WatchedLiterals → List Signed → Option Signed → Type 0
IsNext value p literals None = All (λ m. (watches (Some p) m || is_false (value m)) ≡ true) literals
IsNext value p literals (Some l) = Contains literals l × (watches (Some p) l ≡ false) × (is_false (value l) ≡ false)

-- the second is not false, unless all but the first are
abbrev pub HasFreeSecond : (Signed → Option Bool) → List Signed → WatchedLiterals → Type 0
HasFreeSecond value literals p = is_false (value p.second) ≡ true → All (λ m. (same_literal m p.first || is_false (value m)) ≡ true) literals

-- a literal to watch beside the first, one that is not false where there is one; none where the clause has no other
abbrev pub IsSecond : (Signed → Option Bool) → Signed → List Signed → Option Signed → Type 0
IsSecond value first literals None = All (λ m. same_literal m first ≡ true) literals
IsSecond value first literals (Some l) = Contains literals l × (same_literal first l ≡ false) × (is_false (value l) ≡ true → All (λ m. (same_literal m first || is_false (value m)) ≡ true) literals)

-- the same of the literals so far, all of which are the first one or false
abbrev pub IsSecondSoFar : (Signed → Option Bool) → Signed → List Signed → Option Signed → Type 0
IsSecondSoFar value first literals None = All (λ m. same_literal m first ≡ true) literals
IsSecondSoFar value first literals (Some l) = Contains literals l × (same_literal first l ≡ false) × All (λ m. (same_literal m first || is_false (value m)) ≡ true) literals

-- where there are two literals or more, the first differs from the last
abbrev pub AreEnds : List Signed → Type 0
AreEnds literals = (f l : Signed) → 2 ≤ length literals → slice_get literals 0 ≡ Some f → slice_get literals (length literals - 1) ≡ Some l → same_literal f l ≡ false
