use Rattle.std.proofs.Common.{◌<◌, ◌∙◌, length, sym, arith}
use Rattle.resolvo_pool.proofs.PlaceLemmas.{place_below, found_at, found_none, here_at}
use Rattle.resolvo_pool.proofs.id_table.IdTable.get.Goals as goal

pub index-requires : goal.index-requires
index-requires g c =
    omega (arith, place_below g.K.PartialEq.eq c.self.inside.places c.args.id c.in-Some.place (sym c.get.ensures ∙ c.in-Some.is), c.self.invariant)

pub returns-in-Some : goal.returns-in-Some
returns-in-Some g c =
    let at = sym c.get.ensures ∙ c.in-Some.is in
    let below : c.in-Some.place < length c.self.inside.values.items = omega (arith, place_below g.K.PartialEq.eq c.self.inside.places c.args.id c.in-Some.place at, c.self.invariant) in
    let here = here_at g.K.PartialEq.eq c.self.inside.values.items c.in-Some.place c.index.result.now below c.index.ensures in
    record {
      value = rw (← c.self.view_is) (sym (found_at g.K.PartialEq.eq c.self.inside.places c.self.inside.values.items c.self.invariant c.args.id c.in-Some.place c.index.result.now at here));
    }

pub returns-in-None : goal.returns-in-None
returns-in-None g c = record {
  value = rw (← c.self.view_is) (sym (found_none g.K.PartialEq.eq c.self.inside.places c.self.inside.values.items c.self.invariant c.args.id (sym c.get.ensures ∙ c.in-None.is)));
}
