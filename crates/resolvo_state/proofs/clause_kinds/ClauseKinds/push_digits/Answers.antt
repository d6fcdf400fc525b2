use Rattle.std.proofs.Common.{length}
use Rattle.resolvo_state.specs.declared.clause_kind.ClauseKind.TheVariants.{ForbidMultipleInstances}
use Rattle.resolvo_state.proofs.StoredLemmas.{stored_pushed, digits_pushed}
use Rattle.resolvo_state.proofs.clause_kinds.ClauseKinds.push_digits.Goals as goal

pub invariant_of-self-2 : goal.invariant_of-self-2
invariant_of-self-2 g c =
    let inside = c.self.inside in
    rw (c.in_ok-push_entry.ensures.entries, c.in_ok-push_entry.ensures.ends)
    (stored_pushed (length inside.needs.items) inside.entries.items inside.ends.items (ForbidMultipleInstances c.args.name c.args.solvable c.args.place 0) c.args.count c.self.invariant tt)

pub returns : goal.returns
returns g c =
    let inside = c.self.inside in
    record {
      items = rw (c.in_ok-push_entry.ensures.entries, c.in_ok-push_entry.ensures.ends, ← c.self.view_is)
          (digits_pushed inside.needs.items inside.entries.items inside.ends.items c.args.name c.args.solvable c.args.place c.args.count c.self.invariant.paired c.requires);
    }
