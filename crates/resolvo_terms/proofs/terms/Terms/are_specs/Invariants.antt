use Rattle.std.proofs.Common.{◌≡◌, map, take}
use Rattle.resolvo_text.specs.View.{specs_of}
use Rattle.resolvo_terms.specs.Known.{spec_at}
use Rattle.resolvo_terms.proofs.terms.Terms.are_specs.Given as goal

-- the SPECs so far are the same
abbrev pub invariant-loop-index : goal.invariant-loop-index
invariant-loop-index l = map (spec_at l.self) (take l.index l.version_sets) ≡ specs_of (take l.index l.specs)
