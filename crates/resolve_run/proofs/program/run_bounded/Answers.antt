use Rattle.std.proofs.Common.{◌++◌, ◌∙◌, ap, refl, subst, List, ℕ}
use Rattle.std.specs.Io.KnownBytes.{Appends}
use Rattle.resolvo_text.specs.Device.{TakesPrefix}
use Rattle.resolve_run.specs.Whole.{whole}
use Rattle.resolve_run.proofs.HeadlineLemmas.{headline_of}
use Rattle.resolve_run.proofs.Reports.{nothing_written_within}
use Rattle.resolve_run.proofs.program.run_bounded.Goals as goal

pub returns-in-Ok-write_both : goal.returns-in-Ok-write_both
returns-in-Ok-write_both g c =
    let output = whole c.in-Ok.text in
    let both = ap (λ (t : List ℕ). t ++ c.as_slice-in-Ok.result.now) c.as_slice.ensures.value ∙ ap (λ (t : List ℕ). c.in-Ok.text.head.items ++ t) c.as_slice-in-Ok.ensures.value in
    let appends = subst (λ (xs : List ℕ). Appends (g.W.Sink.contents c.args.writer.now) (g.W.Sink.contents c.write_both.new.writer) xs) both c.in-Ok-write_both.ensures.whole in
    record {
      headline = (output, (λ t is_c u is_r. headline_of t u c.in-Ok.text.outcome output (c.in-Ok.ensures.ok t is_c u is_r)), appends);
      written = (output, c.in-Ok.ensures.ok, appends);
      stopped = tt;
      catalogue_faulty = c.answer.ensures.catalogue_faulty;
    }

pub returns-in-Ok : goal.returns-in-Ok
returns-in-Ok g c = record {
  headline = tt;
  written = tt;
  stopped = (
    c.in-Err-write_both.ensures.fault,
    (
      c.in-Ok.text.outcome,
      whole c.in-Ok.text,
      c.in-Ok.ensures.ok,
      subst (λ (xs : List ℕ). TakesPrefix (g.W.Sink.contents c.args.writer.now) (g.W.Sink.contents c.write_both.new.writer) xs)
          (ap (λ (t : List ℕ). t ++ c.as_slice-in-Ok.result.now) c.as_slice.ensures.value ∙ ap (λ (t : List ℕ). c.in-Ok.text.head.items ++ t) c.as_slice-in-Ok.ensures.value) c.in-Err-write_both.ensures.prefix,
    ),
  );
  catalogue_faulty = c.answer.ensures.catalogue_faulty;
}

pub returns : goal.returns
returns g c = record {
  headline = tt;
  written = tt;
  stopped = nothing_written_within c.args.budget c.in-Err.stop _ _ _ c.in-Err.ensures.err refl;
  catalogue_faulty = c.answer.ensures.catalogue_faulty;
}
