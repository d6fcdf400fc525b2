use Rattle.resolvo_store_core.proofs.PlaceLemmas.{none_listed, none_placed}
use Rattle.resolvo_store_core.proofs.candidate_lists.CandidateLists.new.Goals as goal

pub returns-clause-empty : goal.returns-clause-empty
returns-clause-empty g c = none_listed c.new-lists.result c.in_ok-places.places c.in_ok-places.ensures.empty

pub invariant_of-result : goal.invariant_of-result
invariant_of-result g c = none_placed c.new-lists.result c.in_ok-places.places c.in_ok-places.ensures.empty
