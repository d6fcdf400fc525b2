use Rattle.std.proofs.Common.{◌≡◌, map, take}
use Rattle.resolvo_text.specs.View.{specs_of}
use Rattle.resolvo_catalogue.specs.Known.{spec_at}
use Rattle.resolve_refusal.proofs.steps.Writing.specs.Given as goal

-- the SPECs so far
abbrev pub invariant-loop-version_set : goal.invariant-loop-version_set
invariant-loop-version_set l = specs_of l.specs.items ≡ map (spec_at l.self.provider.now.ids) (take l.version_set-index l.version_sets)
