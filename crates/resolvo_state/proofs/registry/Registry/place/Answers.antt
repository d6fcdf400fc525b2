use Rattle.std.proofs.Common.{refl, length-set}
use Rattle.std.proofs.lemmas.Option.{slice_get_read}
use Rattle.resolvo_state.proofs.Positions.{get_set_here, get_set_other}
use Rattle.resolvo_state.proofs.NameLemmas.{place_within}
use Rattle.resolvo_state.proofs.RegisterLemmas.{digits_same, named_tied, places_is}
use Rattle.resolvo_state.proofs.registry.Registry.place.Goals as goal

pub track-requires : goal.track-requires
track-requires g c =
    let places = c.in_ok-place.ensures.place in
    let gives = c.in_ok-variable.ensures.given in
    let below = place_within c.args.name c.in_ok-place.place c.args.self.now c.place_of.new.self places in
    let ties = named_tied c.args.name c.in_ok-place.place c.args.self.now c.place_of.new.self c.args.coding.now c.requires.tied places c.variable.new.self gives.grows (digits_same c.args.coding.now c.variable.new.self gives.kinds) in
    record {
      coding = gives.coding;
      tied = ties.tied c.in_ok-place.place c.args.name c.index_mut.result.now places.present (slice_get_read c.place_of.new.self.trackers.items _ c.in_ok-place.place c.index_mut.result.now refl below c.index_mut.ensures.value);
      solvable = (c.args.solvable, gives.present);
    }

pub returns-clause-placed : goal.returns-clause-placed
returns-clause-placed g c =
    let places = c.in_ok-place.ensures.place in
    let items = c.place_of.new.self.trackers.items in
    let below = place_within c.args.name c.in_ok-place.place c.args.self.now c.place_of.new.self places in
    places_is c.args.name c.args.solvable c.in_ok-variable.variable c.in_ok-place.place c.args.self.now c.place_of.new.self _ c.index_mut.result.now c.track.new.tracker c.args.coding.now c.variable.new.self c.track.new.coding
    c.requires.tied places c.in_ok-variable.ensures.given c.in_ok-track.ensures.tracked
    (slice_get_read items _ c.in_ok-place.place c.index_mut.result.now refl below c.index_mut.ensures.value)
    refl (get_set_here items c.in_ok-place.place c.track.new.tracker below) (λ k other. get_set_other items c.in_ok-place.place k c.track.new.tracker other) (length-set items c.in_ok-place.place c.track.new.tracker) refl refl refl c.requires.registered
