use Rattle.std.proofs.Common.{◌≡◌, map, take}
use Rattle.resolvo_text.specs.View.{specs_of}
use Rattle.resolvo_terms.specs.Known.{spec_at}
use Rattle.resolvo_terms.proofs.terms.Terms.specs_of.Given as goal

abbrev pub invariant-loop-version_set : goal.invariant-loop-version_set
invariant-loop-version_set l = specs_of l.specs.items ≡ map (spec_at l.self) (take l.version_set-index l.version_sets)
