use Rattle.std.proofs.Common.{◌∙◌, List, Option, ap, sym}
use Rattle.resolvo_pool_core.specs.ByRequirement.{slot_of}
use Rattle.resolvo_store_core.specs.Places.{list_at}
use Rattle.resolvo_store_core.proofs.PlaceLemmas.{slot_listed, place_within}
use Rattle.resolvo_store_core.proofs.candidate_lists.CandidateLists.get.Goals as goal

pub get-requires-in-Some : goal.get-requires-in-Some
get-requires-in-Some g c = place_within c.self.inside.lists c.self.inside.places c.args.requirement c.in-Some.place.now c.self.invariant c.in-Some.ensures

pub returns-in-Some : goal.returns-in-Some
returns-in-Some g c =
    let inside = c.self.inside in
    sym c.get-in-Some.ensures
    ∙ (ap (list_at inside.lists) c.in-Some.ensures
    ∙ (sym (slot_listed inside.lists inside.places c.args.requirement)
    ∙ ap (λ (m : List (Option (List _)) × List (Option (List _))). slot_of m c.args.requirement) c.self.view_is))

pub returns-in-None : goal.returns-in-None
returns-in-None g c =
    let inside = c.self.inside in
    ap (list_at inside.lists) c.in-None.ensures
    ∙ (sym (slot_listed inside.lists inside.places c.args.requirement)
    ∙ ap (λ (m : List (Option (List _)) × List (Option (List _))). slot_of m c.args.requirement) c.self.view_is)
