use Rattle.std.proofs.Common.{◌≡◌, ◌∷◌, ◌++◌, [], List, ◌∙◌, ap}
use Rattle.resolvo_pool.proofs.PlaceLemmas.{no_place, put_more, found_more}
use Rattle.resolvo_pool.proofs.id_table.IdTable.put.Goals as goal

pub put-requires : goal.put-requires
put-requires g c =
    no_place g.K.PartialEq.eq c.self.inside.places c.self.inside.values.items c.self.invariant c.args.id (rw (← c.self.view_is) at c.requires)

pub returns-clause-put : goal.returns-clause-put
returns-clause-put g c =
    let more : c.push_reserved.new.self.items ≡ c.self.inside.values.items ++ c.args.value ∷ [] = c.push_reserved.ensures.items ∙ ap (λ (xs : List g.row.V.Denot). xs ++ c.args.value ∷ []) c.reserve.ensures.items in
    rw (← c.self.view_is) (put_more g.K.PartialEq.eq g.met.K.Eq.laws c.self.inside.places c.put.new.self c.self.inside.values.items c.push_reserved.new.self.items c.args.id c.args.value c.self.invariant (rw (← c.self.view_is) at c.requires) c.in_ok-put.ensures.put more)

pub returns-clause-found : goal.returns-clause-found
returns-clause-found g c =
    let more : c.push_reserved.new.self.items ≡ c.self.inside.values.items ++ c.args.value ∷ [] = c.push_reserved.ensures.items ∙ ap (λ (xs : List g.row.V.Denot). xs ++ c.args.value ∷ []) c.reserve.ensures.items in
    found_more g.K.PartialEq.eq g.met.K.Eq.laws c.self.inside.places c.put.new.self c.self.inside.values.items c.push_reserved.new.self.items c.args.id c.args.value c.self.invariant (rw (← c.self.view_is) at c.requires) c.in_ok-put.ensures.put more
