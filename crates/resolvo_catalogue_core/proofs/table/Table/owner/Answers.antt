use Rattle.std.proofs.Common.{arith}
use Rattle.resolvo_catalogue_core.proofs.PlaceLemmas.{owner_there, owner_none, versions_few}
use Rattle.resolvo_catalogue_core.proofs.VersionLemmas.{as_many}
use Rattle.resolvo_catalogue_core.proofs.table.Table.owner.Goals as goal

pub returns-then-count-eq0-clause-absent : goal.returns-then-count-eq0-clause-absent
returns-then-count-eq0-clause-absent c =
    let t = c.args.self.now in
    owner_none t c.requires.table (omega (arith, as_many t.terms.names t.versions.items, c.len-count.ensures, c.if-count-eq0.true))

pub overflow_cast-result : goal.overflow_cast-result
overflow_cast-result c =
    let t = c.args.self.now in
    omega (arith, as_many t.terms.names t.versions.items, versions_few t c.requires.table, c.requires.short, c.len-count.ensures)

pub returns-clause-found : goal.returns-clause-found
returns-clause-found c =
    let t = c.args.self.now in
    owner_there t c.requires.table c.len-count.result (omega (arith, as_many t.terms.names t.versions.items, c.len-count.ensures)) c.if-count-eq0.false
