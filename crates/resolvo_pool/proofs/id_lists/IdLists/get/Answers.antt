use Rattle.std.proofs.Common.{◌∙◌, sym, arith}
use Rattle.resolvo_pool.proofs.PlaceLemmas.{place_below, found_at, found_none}
use Rattle.resolvo_pool.proofs.id_lists.IdLists.get.Goals as goal

pub get-requires-in-Some : goal.get-requires-in-Some
get-requires-in-Some g c =
    omega (arith, place_below g.K.PartialEq.eq c.self.inside.places c.args.id c.in-Some.place (sym c.get.ensures ∙ c.in-Some.is), c.self.invariant)

pub returns-in-Some : goal.returns-in-Some
returns-in-Some g c = record {
  value = rw (← c.self.view_is) (sym (found_at g.K.PartialEq.eq c.self.inside.places c.self.inside.lists c.self.invariant c.args.id c.in-Some.place c.get-in-Some.result.now (sym c.get.ensures ∙ c.in-Some.is) c.get-in-Some.ensures));
}

pub returns-in-None : goal.returns-in-None
returns-in-None g c = record {
  value = rw (← c.self.view_is) (sym (found_none g.K.PartialEq.eq c.self.inside.places c.self.inside.lists c.self.invariant c.args.id (sym c.get.ensures ∙ c.in-None.is)));
}
