use Rattle.std.proofs.Common.{sym, ◌∙◌, ◌≡◌, ◌<◌, length, ap, Some, arith}
use Rattle.std.proofs.lemmas.Bool.{false≢true, both_ways}
use Rattle.std.proofs.lemmas.Option.{slice_get-get_or}
use Rattle.resolvo_text.specs.View.{spec_of}
use Rattle.resolvo_terms.specs.Known.{spec_at}
use Rattle.resolvo_terms.proofs.CompareLemmas.{values_at}
use Rattle.resolvo_terms.proofs.terms.Terms.are_specs.Goals as goal

pub returns-then-not-is_spec : goal.returns-then-not-is_spec
returns-then-not-is_spec c =
    let xs = c.args.version_sets.now in
    let ys = c.args.specs.now in
    let i = c.loop-index.index in
    let within : i < length xs = c.loop-index-test.true in
    let long : length xs ≡ length ys = c.if-version_sets-specs.false in (
      λ e. absurd (false≢true e),
      λ e. absurd (both_ways c.is_spec.result c.if-not-is_spec.true (c.is_spec.ensures.1 (values_at (spec_at c.args.self.now) spec_of xs ys i _ c.index-specs-index.result (slice_get-get_or xs i _ within) (slice_get-get_or ys i c.index-specs-index.result (omega (arith, within, long)) ∙ ap Some (sym c.index-specs-index.is)) e))),
    )
