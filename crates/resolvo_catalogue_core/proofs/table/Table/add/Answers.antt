use Rattle.resolvo_catalogue_core.proofs.table.Table.add.Goals as goal

pub returns-in-Listed-clause-fault : goal.returns-in-Listed-clause-fault
returns-in-Listed-clause-fault c = rw (c.in-Listed.is, ← c.deref.ensures) c.list.ensures.fault
