use Rattle.resolvo_pool.proofs.PlaceLemmas.{no_place, put_more, found_more}
use Rattle.resolvo_pool.proofs.id_lists.IdLists.put.Goals as goal

pub put-requires : goal.put-requires
put-requires g c =
    no_place g.K.PartialEq.eq c.self.inside.places c.self.inside.lists c.self.invariant c.args.id (rw (← c.self.view_is) at c.requires)

pub returns-in-Ok-clause-put : goal.returns-in-Ok-clause-put
returns-in-Ok-clause-put g c =
    rw (← c.self.view_is) (put_more g.K.PartialEq.eq g.met.K.Eq.laws c.self.inside.places c.put.new.self c.self.inside.lists c.push.new.self c.args.id c.args.list.now c.self.invariant (rw (← c.self.view_is) at c.requires) c.in-Ok.ensures.put c.in_ok-push.ensures.put)

pub returns-in-Ok-clause-found : goal.returns-in-Ok-clause-found
returns-in-Ok-clause-found g c =
    found_more g.K.PartialEq.eq g.met.K.Eq.laws c.self.inside.places c.put.new.self c.self.inside.lists c.push.new.self c.args.id c.args.list.now c.self.invariant (rw (← c.self.view_is) at c.requires) c.in-Ok.ensures.put c.in_ok-push.ensures.put
