use Rattle.std.proofs.Common.{refl, ap, ◌∙◌, List, ℕ, [], ◌∷◌, ◌++◌}
use Rattle.resolve_check.proofs.SplitLemmas.{moved, longer, one_more_above, not_parted, nothing_left}
use Rattle.resolve_check.proofs.input.split_input.Goals as goal

pub loop-line-preserved : goal.loop-line-preserved
loop-line-preserved c =
    let before = c.loop-line.invariant in
    let line = c.first_line.result.0.now in (
      before.0 ++ (line ++ 10 ∷ []),
      moved c.args.input.now before.0 c.loop-line.rest.now line c.in-false-Some.below.now before.1 (rw c.in-false-Some.is-1 at c.first_line.ensures.text_is),
      longer before.0 line c.loop-line.start before.2,
      one_more_above before.0 line before.3 c.first_line.ensures.no_newline (c.in-false-Some.ensures.no refl),
    )

pub returns-in-false-None : goal.returns-in-false-None
returns-in-false-None c =
    let before = c.loop-line.invariant in
    let rest = c.loop-line.rest.now in
    not_parted c.args.input.now before.0 c.first_line.result.0.now _ before.3 (before.1 ∙ ap (λ (r : List ℕ). before.0 ++ r) (rw c.in-false-None.is-1 at c.first_line.ensures.text_is)) c.first_line.ensures.no_newline (c.in-false-None.ensures.no refl) (nothing_left c.args.input.now)
