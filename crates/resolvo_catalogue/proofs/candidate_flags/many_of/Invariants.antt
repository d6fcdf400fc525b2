use Rattle.std.proofs.Common.{◌≡◌, take, map}
use Rattle.resolvo_catalogue_core.specs.Listed.{name_at}
use Rattle.resolvo_catalogue_core.specs.Sets.{is_many}
use Rattle.resolvo_catalogue.proofs.candidate_flags.many_of.Given as goal

abbrev pub invariant-loop-version : goal.invariant-loop-version
invariant-loop-version l = l.flags.items ≡ map (λ v. is_many l.catalogue (name_at l.kept.terms.names v.«package».raw)) (take l.version-index l.versions)
