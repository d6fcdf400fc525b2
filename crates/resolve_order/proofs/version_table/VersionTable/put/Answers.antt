use Rattle.resolve_order.specs.Keys.{places_of}
use Rattle.resolve_order.proofs.KeyLemmas.{slots_change}
use Rattle.resolve_order.proofs.NeedLemmas.{on_ok}
use Rattle.std.proofs.Common.{Some}
use Rattle.resolve_order.proofs.version_table.VersionTable.put.Goals as goal

pub returns-clause-put : goal.returns-clause-put
returns-clause-put c = on_ok c.put_single.result (λ change. slots_change c.args.self.now.single.items c.put_single.new.single.items (places_of c.args.self.now.keys.places) (places_of c.put.new.self.places) c.put.new.self.count c.args.«package» c.in_ok-number.number (Some c.args.version) c.put.new.self.keys c.in_ok-number.ensures.here c.in_ok-number.ensures.others change) c.put_single.ensures
