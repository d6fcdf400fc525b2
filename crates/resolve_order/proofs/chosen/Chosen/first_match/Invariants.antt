use Rattle.std.specs.Prelude.{take, None}
use Rattle.resolvo_text.specs.Matches.{Set}
use Rattle.resolve_order.specs.Kept.{Holds, IsFirstMatch}
use Rattle.resolve_order.specs.Need.{alternatives_in}
use Rattle.resolve_order.proofs.chosen.Chosen.first_match.Given as goal

abbrev pub invariant-loop-place : goal.invariant-loop-place
invariant-loop-place l = (chosen entries : Set) → Holds l.catalogue l.fn.self chosen entries → IsFirstMatch l.catalogue chosen entries (take l.place (alternatives_in l.need)) None
