use Rattle.std.proofs.Common.{◌-◌, [], Bor, List, ℕ, arith}
use Rattle.std.specs.BTreeSet.{contains}
use Rattle.resolvo_literal_order.proofs.OrderLemmas.{once_stops, once_goes_on, by_bytes, updates_by_bytes}
use Rattle.resolvo_literal_order.proofs.are_atoms_once.Goals as goal

pub returns-then-not-branch : goal.returns-then-not-branch
returns-then-not-branch c =
    let d : Bor (List ℕ) = record { ref_ptr = (0, 0); now = [] } in
    let inv = c.loop-at.invariant in
    once_stops (contains by_bytes c.loop-at.seen) c.args.texts.now (c.loop-at.at - 1) c.loop-at.at d c.atom_part.result c.in_ok-insert.field-0 (omega (arith, c.loop-at-test.true)) (omega (arith, c.loop-at-test.true, inv.0)) c.atom_part.ensures inv.2 c.in_ok-insert.ensures.added c.if-not-branch.true inv.1

pub loop-at-preserved : goal.loop-at-preserved
loop-at-preserved c =
    let d : Bor (List ℕ) = record { ref_ptr = (0, 0); now = [] } in
    let inv = c.loop-at.invariant in
    once_goes_on (contains by_bytes c.loop-at.seen) (contains by_bytes c.insert.new.self) c.args.texts.now (c.loop-at.at - 1) c.loop-at.at d c.atom_part.result c.in_ok-insert.field-0 (omega (arith, c.loop-at-test.true)) (omega (arith, c.loop-at-test.true, inv.0)) c.atom_part.ensures inv.2 c.in_ok-insert.ensures.added c.if-not-branch.false inv.1 (updates_by_bytes (contains by_bytes c.loop-at.seen) (contains by_bytes c.insert.new.self) c.atom_part.result c.in_ok-insert.ensures.updates.0)
