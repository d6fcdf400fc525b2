use Rattle.std.proofs.Common.{◌≡◌, ℕ, ◌+◌, ◌-◌, ◌≤◌, List, [], ◌∷◌, ◌++◌, length, replicate, append_assoc, refl, arith}
use Rattle.std.proofs.lemmas.List.Sums.{sum_by-le}
use Rattle.std.proofs.lemmas.Grind.{replicate_next}
use Rattle.std.specs.Prelude.{Option, None, Some}
use Rattle.std.specs.List.{sum_by}
use Rattle.resolvo_pool_core.specs.Slots.{filled}

filled-one : {V : Type 0} (o : Option V) → filled o ≤ 1
filled-one None = omega arith
filled-one (Some v) = omega arith

pub filled-le : {V : Type 0} (xs : List (Option V)) → sum_by filled xs ≤ length xs
filled-le xs = omega (arith, sum_by-le filled 1 xs (λ k d h. filled-one _))

pub replicate_up : {V : Type 0} (old new grown : List (Option V)) (i before : ℕ) → before ≤ i → grown ≡ old ++ replicate (i - before) None → new ≡ grown ++ None ∷ [] → new ≡ old ++ replicate (i + 1 - before) None
replicate_up old new grown i before h e f =
    let n : i + 1 - before ≡ (i - before) + 1 = omega arith in
    rw (f, e, n, replicate_next, append_assoc) refl
