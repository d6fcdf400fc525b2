-- The assignment in a table of marked values.
use Rattle.std.specs.Prelude.{ℕ, Bool, ◌==◌, if◌then◌else◌, List, Option, None, slice_get}
use Rattle.std.specs.Option.{option_and_then}
use Rattle.resolvo_checker.specs.declared.assignment.Mark.{Mark}

-- the value, where the mark is of this pass
abbrev pub marked_at : ℕ → Mark → Option Bool
marked_at pass m = if m.pass == pass then m.value else None

abbrev pub known_in : List Mark → ℕ → ℕ → Option Bool
known_in marks pass variable = option_and_then (marked_at pass) (slice_get marks variable)
