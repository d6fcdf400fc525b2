-- The text of a run, of which a report's message is kept apart.
use Rattle.std.specs.Prelude.{◌≡◌, ℕ, List, ◌++◌, Result, Ok, Err}
use Rattle.resolve_check.specs.declared.outcome.RunFault.{RunFault}
use Rattle.resolve_check.specs.declared.read_fault.Written.{Written}
use Rattle.resolve_run.specs.declared.stop.RunStop.{RunStop}
use Rattle.resolve_run.specs.declared.stop.RunStop.TheVariants.{Fault}
use Rattle.resolve_run.specs.declared.text.RunText.{RunText}

-- both parts
abbrev pub whole : RunText → List ℕ
whole t = t.head.items ++ t.message.items

-- The same end, of a run that may have a budget: the whole text is this one.
abbrev pub IsAlone : Result Written RunFault → Result RunText RunStop → Type 0
IsAlone (Ok w) (Ok t) = (t.outcome ≡ w.outcome) × (whole t ≡ w.text.items)
IsAlone (Err e) (Err s) = s ≡ Fault e
IsAlone _ _ = ⊥
