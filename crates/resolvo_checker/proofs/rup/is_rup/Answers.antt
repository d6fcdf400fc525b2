use Rattle.std.proofs.Common.{◌≡◌, ap, ◌∙◌, ◌+◌, ◌-◌, ℕ, List, get_or, arith}
use Rattle.resolvo_checker.specs.declared.clauses.Readings.{Readings}
use Rattle.resolvo_checker.specs.Kept.{Kept, literals_at}
use Rattle.resolvo_checker.specs.Truth.{known_in}
use Rattle.resolvo_checker.proofs.ReadLemmas.{refutes-more}
use Rattle.resolvo_checker.proofs.rup.is_rup.Goals as goal

pub loop-cause-preserved : goal.loop-cause-preserved
loop-cause-preserved c =
    let more : c.args.clauses.now.readings.read + c.loop-cause.cause-index + 1 ≡ c.args.clauses.now.readings.read + (c.loop-cause.cause-index + 1) = omega arith in
    let step = get_or c.args.causes.now c.loop-cause.cause-index 0 - 1 in
    let given : c.last_read.result.now ≡ literals_at c.args.clauses.now.kept step =
    c.last_read.ensures ∙ (ap (λ (n : ℕ). literals_at c.read_clause.new.self.kept n) c.read_clause.ensures.last ∙ ap (λ (ks : List Kept). literals_at ks step) (c.read_clause.ensures.kept ∙ c.loop-cause.invariant.kept)) in
    record {
      answer = rw (c.in_ok-refuted.ensures.broken, c.in_ok-refuted.ensures.known)
          (refutes-more c.args.clauses.now.kept c.args.causes.now c.loop-cause.cause-index 0 (known_in c.loop-cause.truth.marks.items c.loop-cause.truth.pass) c.last_read.result.now c.loop-cause.refuted c.loop-cause-test.true given
          ∙ c.loop-cause.invariant.answer);
      kept = c.read_clause.ensures.kept ∙ c.loop-cause.invariant.kept;
      read = c.read_clause.ensures.read ∙ (ap (λ (r : Readings). record r { read = r.read + 1 }) c.loop-cause.invariant.read ∙ ap (λ (n : ℕ). record c.args.clauses.now.readings { read = n }) more);
      pass = c.in_ok-refuted.ensures.pass ∙ c.loop-cause.invariant.pass;
    }
