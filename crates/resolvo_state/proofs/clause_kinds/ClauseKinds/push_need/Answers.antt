use Rattle.std.proofs.Common.{◌≡◌, ◌∙◌, [], ◌∷◌, length, arith}
use Rattle.resolvo_state.proofs.StoredLemmas.{need_pushed, need_stored, stored_longer}
use Rattle.resolvo_state.proofs.clause_kinds.ClauseKinds.push_need.Goals as goal

pub invariant_of-self-in_err-push_entry : goal.invariant_of-self-in_err-push_entry
invariant_of-self-in_err-push_entry g c =
    let inside = c.self.inside in
    rw (c.in_ok-push.ensures.items, c.in_err-push_entry.ensures.err_entries, c.in_err-push_entry.ensures.err_ends)
    (stored_longer inside.needs.items (c.args.need ∷ []) inside.entries.items inside.ends.items c.self.invariant)

pub invariant_of-self-2 : goal.invariant_of-self-2
invariant_of-self-2 g c =
    let inside = c.self.inside in
    let count : c.in_ok-index.index ≡ length inside.needs.items = c.in_ok-index.ensures ∙ omega (arith, c.len.ensures, inside.needs.ok.0) in
    rw (c.in_ok-push.ensures.items, c.in_ok-push_entry.ensures.entries, c.in_ok-push_entry.ensures.ends, count)
    (need_stored inside.needs.items inside.entries.items inside.ends.items c.args.need c.self.invariant)

pub returns : goal.returns
returns g c =
    let inside = c.self.inside in
    let count : c.in_ok-index.index ≡ length inside.needs.items = c.in_ok-index.ensures ∙ omega (arith, c.len.ensures, inside.needs.ok.0) in
    record {
      items = rw (c.in_ok-push.ensures.items, c.in_ok-push_entry.ensures.entries, c.in_ok-push_entry.ensures.ends, count, ← c.self.view_is)
          (need_pushed inside.needs.items inside.entries.items inside.ends.items c.args.need c.self.invariant);
    }
