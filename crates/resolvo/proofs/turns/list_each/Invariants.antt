use Rattle.std.proofs.Common.{◌≡◌, take}
use Rattle.indexmap.specs.IndexSet.{insert_all}
use Rattle.resolvo_store_core.specs.AtMostOne.{IsPrefixOf}
use Rattle.resolvo.proofs.turns.list_each.Given as goal

-- the earlier ones are a prefix, and the first ones are added after them
abbrev pub invariant-loop-solvable : goal.invariant-loop-solvable
invariant-loop-solvable g l = record {
  adds : IsPrefixOf l.initial.listed.keys l.listed.keys;
  in_order : l.listed.keys ≡ insert_all g.S.PartialEq.eq l.initial.listed.keys (take l.solvable-index l.chosen);
}
