use Rattle.std.proofs.Common.{refl, subst, List, ℕ}
use Rattle.std.specs.Io.KnownBytes.{Appends}
use Rattle.resolvo_text.specs.Device.{TakesPrefix}
use Rattle.resolve_check.proofs.CheckLemmas.{nothing_written}
use Rattle.resolve_check.proofs.check.check.Goals as goal

pub returns-in-Ok-write_all-clause-written : goal.returns-in-Ok-write_all-clause-written
returns-in-Ok-write_all-clause-written g c = (
  c.in-Ok.answered.text.items,
  c.in-Ok.ensures.ok,
  subst (λ (xs : List ℕ). Appends (g.W.Sink.contents c.args.writer.now) (g.W.Sink.contents c.write_all.new.sink) xs) c.as_slice.ensures.value c.in-Ok-write_all.ensures.whole,
)

pub returns-in-Ok-clause-stopped : goal.returns-in-Ok-clause-stopped
returns-in-Ok-clause-stopped g c = (
  c.in-Err-write_all.ensures.fault,
  (
    c.in-Ok.answered.checked,
    c.in-Ok.answered.text.items,
    c.in-Ok.ensures.ok,
    subst (λ (xs : List ℕ). TakesPrefix (g.W.Sink.contents c.args.writer.now) (g.W.Sink.contents c.write_all.new.sink) xs) c.as_slice.ensures.value c.in-Err-write_all.ensures.prefix,
  ),
)

pub returns-clause-stopped : goal.returns-clause-stopped
returns-clause-stopped g c = nothing_written c.in-Err.fault _ _ _ _ c.in-Err.ensures.err refl
