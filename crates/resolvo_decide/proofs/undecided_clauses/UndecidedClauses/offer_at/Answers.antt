use Rattle.std.proofs.Common.{subst}
use Rattle.resolvo_store_core.specs.Values.{value_at}
use Rattle.resolvo_decide.specs.CandidateCounts.{CountsIn}
use Rattle.resolvo_decide.specs.Needs.{literals_in}
use Rattle.resolvo_decide.proofs.OfferLemmas.{counted_at}
use Rattle.resolvo_decide.proofs.undecided_clauses.UndecidedClauses.offer_at.Goals as goal

pub counted_offer-requires : goal.counted_offer-requires
counted_offer-requires g c =
    let literals = literals_in c.args.lists.now in
    let values = value_at c.args.values.now in
    subst (CountsIn values (literals c.args.need.now.requirement)) c.in-Some.is (counted_at literals c.args.self.now c.args.position c.args.need.now values c.requires.values c.requires.kept_count c.count.result c.count.ensures)
