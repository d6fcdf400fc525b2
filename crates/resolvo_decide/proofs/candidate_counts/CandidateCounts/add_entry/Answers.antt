use Rattle.std.proofs.Common.{subst}
use Rattle.resolvo_decide.specs.declared.candidate_count.CandidateChange.TheVariants.{MadeTrue, MadeFalse}
use Rattle.resolvo_decide.specs.CandidateCounts.{Changes}
use Rattle.resolvo_decide.proofs.ChangeLemmas.{counts_add}
use Rattle.resolvo_decide.proofs.candidate_counts.CandidateCounts.add_entry.Goals as goal

pub returns : goal.returns
returns c = record {
  kept = counts_add c.args.entry c.args.self.now c.change.new.self c.change-2.new.self (subst (λ i. Changes MadeTrue i c.args.self.now c.change.new.self) c.index_made_true.ensures c.change.ensures)
      (subst (λ i. Changes MadeFalse i c.change.new.self c.change-2.new.self) c.index_made_false.ensures c.change-2.ensures);
}
