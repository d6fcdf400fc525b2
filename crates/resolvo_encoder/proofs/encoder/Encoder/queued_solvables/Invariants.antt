use Rattle.std.proofs.Common.{take}
use Rattle.resolvo_encoder.proofs.PlaceLemmas.{AreMembers}
use Rattle.resolvo_encoder.proofs.encoder.Encoder.queued_solvables.Given as goal

-- these are the solvables of the members so far
abbrev pub invariant-loop-member : goal.invariant-loop-member
invariant-loop-member g l = AreMembers l.self.coding.atoms.keys (take l.member-index l.members) l.waiting.items
