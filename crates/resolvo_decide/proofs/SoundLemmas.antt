-- What a queue knows stays so: as lists grow, and at first.
use Rattle.std.proofs.Common.{◌≡◌, ◌<◌, List, length, sym, ap, subst, arith}
use Rattle.resolvo_pool_core.specs.declared.requirement.Requirement.{Requirement}
use Rattle.resolvo_store_core.specs.Clauses.{candidate_literals}
use Rattle.resolvo_store_core.specs.Lists.{candidates_in}
use Rattle.resolvo_store_core.specs.declared.pick.NeedClause.{NeedClause}
use Rattle.resolvo_store_core.specs.declared.lists.FixedLists.{FixedLists}
use Rattle.resolvo_decide.specs.declared.decide_queue.DecideQueue.{DecideQueue}
use Rattle.resolvo_decide.specs.Cold.{AreCold}
use Rattle.resolvo_decide.specs.Needs.{literals_in, Fits}
use Rattle.resolvo_decide.specs.Queue.{needs_of, IsNew, IsSound}
use Rattle.resolvo_decide.proofs.FitLemmas.{fits_more, fits_none}
use Rattle.resolvo_decide.proofs.OfferLemmas.{length_literals}
use Rattle.resolvo_decide.proofs.ColdLemmas.{none_cold}

-- where requirements without candidates get some
pub sound_more : {N : Type 0} (old new : FixedLists N) (q : DecideQueue N) → ((r : Requirement) → 0 < length (candidates_in old r) → candidates_in new r ≡ candidates_in old r) → IsSound old q → IsSound new q
sound_more old new q same h = record {
  fits = fits_more (literals_in old) (literals_in new) q.undecided (needs_of q) (λ r some. ap candidate_literals (same r (omega (arith, some, length_literals (candidates_in old r))))) h.fits;
  cold = λ i none. (let one = h.cold i none in record {
    need = one.need;
    there = one.there;
    cold = subst (AreCold q.cold.hot.items) (sym (same one.need.requirement one.cold.some)) one.cold;
  });
}

-- a new queue
pub sound_new : {N : Type 0} (lists : FixedLists N) (q : DecideQueue N) → IsNew q → IsSound lists q
sound_new lists q new = record {
  fits = subst (λ (qs : List NeedClause). Fits (literals_in lists) q.undecided qs) (sym new.registered) (fits_none (literals_in lists) q.undecided new.states new.counts);
  cold = none_cold lists q.cold (needs_of q) new.warm;
}
