use Rattle.std.proofs.Common.{length}
use Rattle.resolvo_state.proofs.StoredLemmas.{plain_pushed, plain_stored}
use Rattle.resolvo_state.proofs.clause_kinds.ClauseKinds.push.Goals as goal

pub invariant_of-self-2 : goal.invariant_of-self-2
invariant_of-self-2 g c =
    let inside = c.self.inside in
    rw (c.in_ok-push_entry.ensures.entries, c.in_ok-push_entry.ensures.ends)
    (plain_stored (length inside.needs.items) inside.entries.items inside.ends.items c.args.kind c.self.invariant c.requires)

pub returns : goal.returns
returns g c =
    let inside = c.self.inside in
    record {
      items = rw (c.in_ok-push_entry.ensures.entries, c.in_ok-push_entry.ensures.ends, ← c.self.view_is)
          (plain_pushed inside.needs.items inside.entries.items inside.ends.items c.args.kind c.self.invariant.paired c.requires);
    }
