use Rattle.resolvo_catalogue_core.proofs.PickedLemmas.{places_among, none_among}
use Rattle.resolvo_catalogue_core.proofs.pick.add_rising.Goals as goal

pub returns-in_ok-add_places : goal.returns-in_ok-add_places
returns-in_ok-add_places c =
    places_among c.args.numbers.now c.args.versions.now c.requires.paired c.requires.rising c.args.start c.args.end c.first_from-first.result c.past_last-last.result c.first_from-first.ensures.first c.past_last-last.ensures.last c.args.out.now c.add_places.new.out
    c.in_ok-add_places.ensures

pub returns-else-first-last : goal.returns-else-first-last
returns-else-first-last c =
    none_among c.args.numbers.now c.args.versions.now c.requires.paired c.requires.rising c.args.start c.args.end c.first_from-first.result c.past_last-last.result c.first_from-first.ensures.first c.past_last-last.ensures.last c.args.out.now
    c.if-first-last.false
