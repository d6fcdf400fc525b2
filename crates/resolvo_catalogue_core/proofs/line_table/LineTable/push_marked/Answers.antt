use Rattle.std.proofs.Common.{◌≡◌, ◌+◌, List, length, true, is_ok, sym, subst, arith}
use Rattle.resolvo_catalogue_core.specs.declared.stored_lines.StoredLine.{StoredLine}
use Rattle.resolvo_catalogue_core.specs.Held.{are_held}
use Rattle.resolvo_catalogue_core.proofs.HeldLemmas.{all_still_held_marked, held_if, marked_place, one_longer, pushes_marked}
use Rattle.resolvo_catalogue_core.proofs.line_table.LineTable.push_marked.Goals as goal

pub invariant_of-self-2 : goal.invariant_of-self-2
invariant_of-self-2 c =
    let rules = c.args.self.now.rules.items in
    let marked = c.args.self.now.marked.items in
    let held = c.args.self.now.held in
    let count : length c.push.new.self.items ≡ length marked + 1 = one_longer marked c.push.new.self.items c.args.name c.in_ok-push.ensures.items in
    let place : c.in_ok-place.place ≡ length marked = omega (arith, c.args.self.now.marked.ok, c.len.ensures, c.in_ok-place.ensures) in
    let old : are_held (length rules) (length c.push.new.self.items) held ≡ true = rw count (all_still_held_marked (length rules) (length marked) held c.args.self.now.in_range) in
    record {
      in_range = subst (λ (hs : List StoredLine). are_held (length rules) (length c.push.new.self.items) hs ≡ true) (sym c.push-2.ensures.items)
          (held_if (is_ok c.push-2.result) (length rules) (length c.push.new.self.items) held (StoredLine.Many c.in_ok-place.place) old (marked_place (length rules) (length c.push.new.self.items) c.in_ok-place.place (omega arith)));
    }

pub returns : goal.returns
returns c =
    let place : c.in_ok-place.place ≡ length c.args.self.now.marked.items = omega (arith, c.args.self.now.marked.ok, c.len.ensures, c.in_ok-place.ensures) in
    rw (c.in_ok-push.ensures.items, c.in_ok-push-2.ensures.items) (pushes_marked c.args.self.now.rules.items c.args.self.now.marked.items c.args.name c.args.self.now.held c.in_ok-place.place c.args.self.now.in_range place)
