use Rattle.std.proofs.Common.{◌≡◌, OnOk, length, arith, ap, refl, subst}
use Rattle.std.specs.Prelude.{slice_set}
use Rattle.resolvo_store_core.specs.Clauses.{candidate_literals}
use Rattle.resolvo_store_core.specs.Values.{value_at}
use Rattle.resolvo_decide.specs.declared.candidate_counts.CountState.TheVariants.{Kept}
use Rattle.resolvo_decide.specs.CandidateCounts.{Lists}
use Rattle.resolvo_decide.proofs.OfferLemmas.{length_literals}
use Rattle.resolvo_decide.proofs.CountLemmas.{counted_given, counted_same}
use Rattle.resolvo_decide.proofs.FitLemmas.{counts_none}
use Rattle.resolvo_decide.proofs.candidate_counts.CandidateCounts.keep_count.Goals as goal

pub returns-in-Ok-clause-kept : goal.returns-in-Ok-clause-kept
returns-in-Ok-clause-kept g c =
    let old = c.args.self.now in
    let cs = c.args.candidates.now in
    let n = length old.counts.items in
    let same : c.len-number.result ≡ n = omega (arith, c.len-number.ensures) in
    let given : Lists c.len-number.result (candidate_literals cs) old.occurrences.items c.list_occurrences.new.occurrences.items =
    subst (λ r. OnOk r (Lists c.len-number.result (candidate_literals cs) old.occurrences.items c.list_occurrences.new.occurrences.items)) c.in-Ok.is c.list_occurrences.ensures.listed in
    let listed : Lists n (candidate_literals cs) old.occurrences.items c.list_occurrences.new.occurrences.items = subst (λ k. Lists k (candidate_literals cs) old.occurrences.items c.list_occurrences.new.occurrences.items) same given in
    λ trail once. counted_given (value_at c.args.values.now) c.args.position (candidate_literals cs) c.count_of.result old _ c.requires.within (omega (arith, c.requires.some, length_literals cs)) c.count_of.ensures c.in_ok-push.ensures.items listed
    (ap (λ k. slice_set old.count_states.items c.args.position (Kept k)) same) trail once

pub returns-in-Err-clause-kept : goal.returns-in-Err-clause-kept
returns-in-Err-clause-kept g c = λ trail once agree literals queue at h. counts_none literals queue trail c.forget.new.self c.forget.ensures

pub returns-in_err-push-clause-kept : goal.returns-in_err-push-clause-kept
returns-in_err-push-clause-kept g c =
    λ trail once. counted_same (value_at c.args.values.now) c.args.position (candidate_literals c.args.candidates.now) c.args.self.now _ c.in_err-push.ensures.items refl (λ i. refl) trail
