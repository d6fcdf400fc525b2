use Rattle.std.proofs.Common.{◌≡◌, take}
use Rattle.resolvo_terms.specs.Lists.{set_numbers}
use Rattle.resolvo_terms.proofs.unions.key_of_list.Given as goal

abbrev pub invariant-loop-member : goal.invariant-loop-member
invariant-loop-member l = l.key.items ≡ set_numbers (take l.member-index l.list)
