use Rattle.std.proofs.Common.{◌≡◌, ◌∷◌, ◌++◌, [], List, length, ◌∙◌, ap, arith}
use Rattle.resolvo_pool.proofs.PlaceLemmas.{places_more}
use Rattle.resolvo_pool.proofs.places.Places.put.Goals as goal

pub invariant_of-self-2 : goal.invariant_of-self-2
invariant_of-self-2 g c =
    let more : c.push_reserved.new.self.items ≡ c.self.inside.ids.items ++ c.args.id ∷ [] = c.push_reserved.ensures.items ∙ ap (λ (ks : List g.row.K.Denot). ks ++ c.args.id ∷ []) c.reserve.ensures.items in
    let len = c.len-place.ensures in
    let count : c.len-place.result ≡ length c.self.inside.ids.items = omega arith in
    places_more g.K.PartialEq.eq g.met.K.Eq.laws c.self.inside.ids.items c.push_reserved.new.self.items c.args.id (rw (← c.self.view_is) at c.requires) more c.len-place.result count (g.M.IdMap.value_of c.self.inside.places) (g.M.IdMap.value_of c.set.new.self) (rw c.of.ensures at c.in_ok-set.ensures.put) c.self.invariant
