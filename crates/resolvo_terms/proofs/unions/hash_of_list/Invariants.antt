use Rattle.std.proofs.Common.{◌≡◌, ℕ, take}
use Rattle.std.specs.List.{fold}
use Rattle.resolvo_pool_core.specs.declared.id.VersionSetId.{VersionSetId}
use Rattle.resolvo_terms.specs.Hash.{mix}
use Rattle.resolvo_terms.proofs.unions.hash_of_list.Given as goal

abbrev pub invariant-loop-member : goal.invariant-loop-member
invariant-loop-member l = l.hash ≡ fold (λ (hash : ℕ) (v : VersionSetId). mix hash v.0) 0 (take l.member-index l.list)
