use Rattle.std.proofs.Common.{◌≡◌, ◌++◌, ◌+◌, map, take, drop, get_or, sym, subst, arith}
use Rattle.std.specs.Prelude.{slice_set}
use Rattle.std.proofs.lemmas.List.Edits.{map_over_more}
use Rattle.std.proofs.lemmas.Option.{slice_get-get_or, get_or_from_slice_get}
use Rattle.resolvo_proof.specs.Trimmed.{number_of}
use Rattle.resolvo_proof.proofs.trim.renumber.Goals as goal

pub loop-cause-preserved : goal.loop-cause-preserved
loop-cause-preserved c =
    let xs = c.deref_mut-cause-items.result.now in
    let ys = c.loop-cause.cause-items in
    let i = c.loop-cause.cause-index in
    let x = get_or ys i 0 in
    subst (λ n. slice_set ys i n ≡ map (number_of c.args.numbers.now) (take (i + 1) xs) ++ drop (i + 1) xs) (sym c.number_of.ensures)
    (map_over_more (number_of c.args.numbers.now) xs ys i x c.loop-cause-test.true c.loop-cause.invariant (sym (get_or_from_slice_get ys i x x (slice_get-get_or ys i 0 (omega (arith, c.loop-cause.auto.cause-items, c.loop-cause-test.true))))))
