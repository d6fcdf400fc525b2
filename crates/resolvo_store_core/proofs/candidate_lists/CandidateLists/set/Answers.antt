use Rattle.resolvo_store_core.proofs.PlaceLemmas.{refused_too, refused_places, refused_view, set_places, set_puts}
use Rattle.resolvo_store_core.proofs.candidate_lists.CandidateLists.set.Goals as goal

pub invariant_of-self-in_err-insert : goal.invariant_of-self-in_err-insert
invariant_of-self-in_err-insert g c =
    let inside = c.self.inside in
    refused_places inside.lists c.push.new.self c.args.candidates.now inside.places c.args.self.now c.self.invariant c.in_ok-push.ensures.put c.self.view_is c.insert.new.self c.in_err-insert.ensures.err

pub returns-in_err-insert-clause-err : goal.returns-in_err-insert-clause-err
returns-in_err-insert-clause-err g c =
    let inside = c.self.inside in
    refused_too c.from_residual-in_err-insert.result (refused_view inside.lists c.push.new.self c.args.candidates.now inside.places c.args.self.now c.self.invariant c.in_ok-push.ensures.put c.self.view_is c.insert.new.self c.in_err-insert.ensures.err)

pub invariant_of-self-2 : goal.invariant_of-self-2
invariant_of-self-2 g c =
    let inside = c.self.inside in
    set_places inside.lists c.push.new.self c.args.candidates.now inside.places c.args.self.now c.self.invariant c.in_ok-push.ensures.put c.self.view_is c.insert.new.self c.args.requirement c.len-place.result c.len-place.ensures c.in_ok-insert.ensures.put

pub returns-clause-put : goal.returns-clause-put
returns-clause-put g c =
    let inside = c.self.inside in
    set_puts inside.lists c.push.new.self c.args.candidates.now inside.places c.args.self.now c.self.invariant c.in_ok-push.ensures.put c.self.view_is c.insert.new.self c.args.requirement c.len-place.result c.len-place.ensures c.in_ok-insert.ensures.put
