use Rattle.std.proofs.Common.{◌≡◌, drop, map}
use Rattle.std.specs.Option.{option_or}
use Rattle.resolvo_graph.specs.Kept.{merged_with, ids_at}
use Rattle.resolvo_graph.specs.Merge.{group_among}
use Rattle.resolvo_graph.proofs.merge.merged.Given as goal

-- the group of a version is that of a remaining member, or is in the map
abbrev pub invariant-loop-member : goal.invariant-loop-member
invariant-loop-member g l = (s : g.row.S.Denot) → group_among g.S.PartialEq.eq (ids_at (map (λ r. r.value) l.groups)) l.members s ≡ option_or (group_among g.S.PartialEq.eq (ids_at (map (λ r. r.value) l.groups)) (drop l.member-index l.members) s) (merged_with g.S.PartialEq.eq l.merged s)
