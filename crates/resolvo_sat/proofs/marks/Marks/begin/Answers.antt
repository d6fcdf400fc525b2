use Rattle.std.proofs.Common.{◌≤◌, ◌+◌, arith}
use Rattle.resolvo_sat.proofs.FlagLemmas.{none_yet, up_more}
use Rattle.resolvo_sat.proofs.marks.Marks.begin.Goals as goal

pub invariant_of-self-else-self : goal.invariant_of-self-else-self
invariant_of-self-else-self c =
    let some : 1 ≤ c.self.inside.walk = c.self.invariant.0 in
    (omega arith, up_more c.self.inside.walk (c.self.inside.walk + 1) c.self.inside.walks.items (omega arith) c.self.invariant.1)

pub returns-else-self : goal.returns-else-self
returns-else-self c = none_yet c.self.inside.walk (c.self.inside.walk + 1) c.self.inside.walks.items (omega arith) c.self.invariant.1
