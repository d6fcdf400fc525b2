use Rattle.std.proofs.lemmas.Bool.{both_ways}
use Rattle.resolvo_sat.specs.RuleClauses.{IsExact}
use Rattle.resolvo_encoder.proofs.PlaceLemmas.{built_places, places_one, places_marked}
use Rattle.resolvo_encoder.proofs.encoder.Encoder.place_one.Goals as goal

pub returns-then-is_many-clause-placed : goal.returns-then-is_many-clause-placed
returns-then-is_many-clause-placed g c =
    let exact : IsExact g.S.PartialEq.eq = record { one = g.met.S.Exact.exact; own = g.met.S.Eq.laws.refl } in
    places_marked g.S.PartialEq.eq exact c.args.one c.args.self.now c.add_if_recorded.new.self c.requires.registered (c.is_many.ensures.0 c.if-is_many.true) c.in_ok-add_if_recorded.ensures.admitted

pub place-requires : goal.place-requires
place-requires g c = record { coding = c.requires.built.coding; tied = c.requires.built.tied; registered = c.requires.registered }

pub add_if_recorded-requires-2 : goal.add_if_recorded-requires-2
add_if_recorded-requires-2 g c = built_places c.args.one.name c.args.one.solvable c.args.self.now c.place.new.self c.place.new.coding c.requires.built c.in_ok-place.ensures.placed

pub returns-clause-placed : goal.returns-clause-placed
returns-clause-placed g c =
    let exact : IsExact g.S.PartialEq.eq = record { one = g.met.S.Exact.exact; own = g.met.S.Eq.laws.refl } in
    places_one g.S.PartialEq.eq exact c.args.one c.args.self.now c.place.new.self c.place.new.coding c.add_if_recorded-2.new.self c.requires.registered (λ m. both_ways _ c.if-is_many.false (c.is_many.ensures.1 m)) c.in_ok-place.ensures.placed c.in_ok-add_if_recorded-2.ensures.admitted
