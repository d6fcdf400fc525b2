use Rattle.std.proofs.Common.{◌≡◌, ◌∷◌, [], Some}
use Rattle.resolvo_checker.specs.Numbers.{number_in}
use Rattle.resolvo_checker.proofs.atom_ids.AtomIds.note.Goals as goal

pub invariant_of-self : goal.invariant_of-self
invariant_of-self c =
    let is : number_in c.self.inside.map.entries (0 ∷ c.args.version ∷ []) ≡ Some c.args.number = rw c.self.view_is c.requires in
    (c.self.invariant.0, c.put_number.ensures c.self.inside.map.entries is c.self.invariant.1)
