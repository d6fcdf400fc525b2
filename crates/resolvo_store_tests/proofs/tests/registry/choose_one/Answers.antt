use Rattle.resolvo_state.specs.declared.atom.ProofAtom.TheVariants.{Solvable}
use Rattle.resolvo_state.proofs.Growth.{represents_in_range, represents_grow, grows_then}
use Rattle.resolvo_store_tests.proofs.tests.registry.choose_one.Goals as goal

pub place-requires-clause-registered : goal.place-requires-clause-registered
place-requires-clause-registered c = let r = c.in_ok-first.ensures.registered in (c.in_ok-first.first, r.present, r.registered)

pub need_one-requires-clause-first : goal.need_one-requires-clause-first
need_one-requires-clause-first c =
    let one = c.in_ok-first.ensures.registered in
    let placed = c.in_ok-place.ensures.placed in
    let two = c.in_ok-second.ensures.registered in
    let last = c.in_ok-place-2.ensures.placed in
    let grows = grows_then c.register.new.coding c.place.new.coding c.place-2.new.coding placed.grows (grows_then c.place.new.coding c.register-2.new.coding c.place-2.new.coding two.grows last.grows) in
    represents_in_range c.place-2.new.coding c.in_ok-first.first (Solvable _) last.coding (represents_grow c.register.new.coding c.place-2.new.coding c.in_ok-first.first (Solvable _) grows one.present)

pub need_one-requires-clause-second : goal.need_one-requires-clause-second
need_one-requires-clause-second c =
    let two = c.in_ok-second.ensures.registered in
    let last = c.in_ok-place-2.ensures.placed in
    represents_in_range c.place-2.new.coding c.in_ok-second.second (Solvable _) last.coding (represents_grow c.register-2.new.coding c.place-2.new.coding c.in_ok-second.second (Solvable _) last.grows two.present)

pub exclude-requires-clause-variable : goal.exclude-requires-clause-variable
exclude-requires-clause-variable c =
    let one = c.in_ok-first.ensures.registered in
    let placed = c.in_ok-place.ensures.placed in
    let two = c.in_ok-second.ensures.registered in
    let last = c.in_ok-place-2.ensures.placed in
    let need = c.in_ok-need_one.ensures in
    let grows = grows_then c.register.new.coding c.place.new.coding c.need_one.new.coding placed.grows (grows_then c.place.new.coding c.register-2.new.coding c.need_one.new.coding two.grows (grows_then c.register-2.new.coding c.place-2.new.coding c.need_one.new.coding last.grows need.grows)) in
    represents_in_range c.need_one.new.coding c.in_ok-first.first (Solvable _) need.coding (represents_grow c.register.new.coding c.need_one.new.coding c.in_ok-first.first (Solvable _) grows one.present)
