use Rattle.std.proofs.Common.{sym, ◌∙◌, ◌≡◌, ◌<◌, length, ap, Some, arith}
use Rattle.std.proofs.lemmas.Bool.{false≢true, both_ways}
use Rattle.std.proofs.lemmas.Option.{slice_get-get_or}
use Rattle.resolve_refusal.proofs.FindLemmas.{specs_at}
use Rattle.resolve_refusal.proofs.lines.same_specs.Goals as goal

pub returns-then-not-same_spec : goal.returns-then-not-same_spec
returns-then-not-same_spec c =
    let xs = c.args.some.now in
    let ys = c.args.others.now in
    let i = c.loop-index.index in
    let within : i < length xs = c.loop-index-test.true in
    let long : length xs ≡ length ys = c.if-some-others.false in (
      λ e. absurd (false≢true e),
      λ e. absurd (both_ways c.same_spec.result c.if-not-same_spec.true (c.same_spec.ensures.1 (specs_at xs ys i c.index-some-index.result c.index-others-index.result (slice_get-get_or xs i c.index-some-index.result within ∙ ap Some (sym c.index-some-index.is)) (slice_get-get_or ys i c.index-others-index.result (omega (arith, within, long)) ∙ ap Some (sym c.index-others-index.is)) e))),
    )
