use Rattle.std.proofs.Common.{◌≡◌, take}
use Rattle.resolvo_text.specs.View.{specs_of}
use Rattle.resolve_refusal.proofs.lines.same_specs.Given as goal

-- the SPECs so far are the same
abbrev pub invariant-loop-index : goal.invariant-loop-index
invariant-loop-index l = specs_of (take l.index l.some) ≡ specs_of (take l.index l.others)
