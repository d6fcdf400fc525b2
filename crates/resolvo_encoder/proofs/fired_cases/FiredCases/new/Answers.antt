use Rattle.std.proofs.Common.{List, Bool, ℕ, [], sym, subst}
use Rattle.resolvo_encoder.specs.FiredCases.{AreFlagged}
use Rattle.resolvo_encoder.proofs.FlagLemmas.{flags_none}
use Rattle.resolvo_encoder.proofs.fired_cases.FiredCases.new.Goals as goal

pub invariant_of-result : goal.invariant_of-result
invariant_of-result c =
    subst (λ (bs : List Bool). AreFlagged bs c.new.result.items) (sym c.new-2.ensures.items)
    (subst (λ (xs : List ℕ). AreFlagged [] xs) (sym c.new.ensures.items) flags_none)
