use Rattle.std.proofs.Common.{refl}
use Rattle.resolvo_encoder.proofs.encoder.begun.Goals as goal

pub returns : goal.returns
returns g c = record { coding = c.requires.coding; registry = c.new.ensures; lists = c.requires.lists; queue = c.new-2.ensures; gates = c.requires.gates; packages = c.new-3.ensures; version_sets = c.new-4.ensures.empty; matches = c.new-5.ensures.empty; at_least_one = c.new-6.ensures; queued = c.new-7.ensures.empty; there = c.new-8.ensures; softs = c.new-9.ensures.items; parents = c.requires.parents; encoded = refl; deferred = c.new-10.ensures.items; fired = c.new-11.ensures }
