use Rattle.std.proofs.Common.{◌≡◌, ◌∙◌, None, get_or, refl, sym, ap}
use Rattle.resolvo_store_core.specs.Clauses.{candidate_literals}
use Rattle.resolvo_store_core.specs.Values.{value_at}
use Rattle.resolvo_decide.specs.declared.candidate_counts.CountState.TheVariants.{Once}
use Rattle.resolvo_decide.specs.CandidateCounts.{kept_count}
use Rattle.resolvo_decide.proofs.CountLemmas.{number_same, counted_same}
use Rattle.resolvo_decide.proofs.candidate_counts.CandidateCounts.note_count.Goals as goal

pub returns-then-position-len-clause-kept : goal.returns-then-position-len-clause-kept
returns-then-position-len-clause-kept g c =
    λ trail once. counted_same (value_at c.args.values.now) c.args.position (candidate_literals c.args.candidates.now) c.args.self.now _ refl refl c.note_once.ensures.same trail

pub returns-in-Never-clause-kept : goal.returns-in-Never-clause-kept
returns-in-Never-clause-kept g c =
    let old = c.args.self.now in
    let cs = old.count_states.items in
    let d = c.index.result.now in
    let read : d ≡ get_or cs c.args.position d = c.index.ensures in
    let none : kept_count (get_or cs c.args.position d) ≡ None = ap kept_count (sym read ∙ c.in-Never.is) in
    λ trail once. counted_same (value_at c.args.values.now) c.args.position (candidate_literals c.args.candidates.now) old _ refl refl (number_same cs c.args.position Once d none refl) trail
