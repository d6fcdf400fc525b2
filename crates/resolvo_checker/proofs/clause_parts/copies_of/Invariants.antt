use Rattle.std.proofs.Common.{◌≡◌, take}
use Rattle.resolvo_text.specs.View.{specs_of}
use Rattle.resolvo_checker.proofs.clause_parts.copies_of.Given as goal

abbrev pub invariant-loop-spec : goal.invariant-loop-spec
invariant-loop-spec l = specs_of l.copies.items ≡ specs_of (take l.spec-index l.specs)
