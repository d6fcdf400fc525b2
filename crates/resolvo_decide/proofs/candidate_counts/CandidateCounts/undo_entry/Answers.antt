use Rattle.std.proofs.Common.{subst}
use Rattle.resolvo_decide.specs.declared.candidate_count.CandidateChange.TheVariants.{UndoneTrue, UndoneFalse}
use Rattle.resolvo_decide.specs.CandidateCounts.{Changes}
use Rattle.resolvo_decide.proofs.ChangeLemmas.{counts_undo}
use Rattle.resolvo_decide.proofs.candidate_counts.CandidateCounts.undo_entry.Goals as goal

pub returns : goal.returns
returns c = record {
  kept = counts_undo c.args.entry c.args.self.now c.change.new.self c.change-2.new.self (subst (λ i. Changes UndoneTrue i c.args.self.now c.change.new.self) c.index_made_true.ensures c.change.ensures)
      (subst (λ i. Changes UndoneFalse i c.change.new.self c.change-2.new.self) c.index_made_false.ensures c.change-2.ensures);
}
