-- The two literals that a clause watches.
use Rattle.std.specs.Prelude.{◌≡◌, Bool, true, false, ◌||◌, if◌then◌else◌, Option, Some, None}
use Rattle.resolvo_store_core.specs.Signed.{Signed, same_literal, literal_at}
use Rattle.resolvo_store_core.specs.declared.watched_literals.WatchedLiterals.{WatchedLiterals}
use Rattle.resolvo_store_core.specs.declared.watched_literals.Watch.{Watch}
use Rattle.resolvo_store_core.specs.declared.watched_literals.Watch.TheVariants.{First, Second}

-- the literal is one of the two
abbrev pub watches : Option WatchedLiterals → Signed → Bool
watches None l = false
watches (Some p) l = same_literal p.first l || same_literal p.second l

-- which of the two the literal is: the second, unless it is the first
abbrev pub side_of : WatchedLiterals → Signed → Watch
side_of p l = if same_literal p.first l then First else Second

-- the one of the two that is not the literal
abbrev pub other_of : WatchedLiterals → Signed → Signed
other_of p l = if same_literal p.first l then p.second else p.first

-- the two with one literal in another's place
abbrev pub moved_pair : WatchedLiterals → Signed → Signed → WatchedLiterals
moved_pair p from to = if same_literal p.first from then record p { first = to } else record p { second = to }

-- two literals that differ, or none where they are one
abbrev pub pair_in : Signed → Signed → Option WatchedLiterals
pair_in l m = if same_literal l m then None else Some (record { first = l; second = m })

-- what is kept of the two, and of none
abbrev pub first_in : Option WatchedLiterals → Signed
first_in None = literal_at 0
first_in (Some p) = p.first

abbrev pub second_in : Option WatchedLiterals → Signed
second_in None = literal_at 0
second_in (Some p) = p.second

-- the two differ, or are what is kept of none
abbrev pub IsKeptPair : Signed → Signed → Type 0
IsKeptPair l m = same_literal l m ≡ true → (l ≡ literal_at 0) × (m ≡ literal_at 0)
