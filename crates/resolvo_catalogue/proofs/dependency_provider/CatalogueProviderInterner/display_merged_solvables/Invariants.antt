use Rattle.std.proofs.Common.{◌++◌, take}
use Rattle.std.specs.Prelude.{codes}
use Rattle.std.specs.List.{flat_map}
use Rattle.std.specs.Fmt.{HasWritten, IsPlainFormatter, decimal}
use Rattle.resolvo_catalogue.specs.Known.{solvable_at}
use Rattle.resolvo_catalogue.proofs.dependency_provider.CatalogueProviderInterner.display_merged_solvables.Given as goal

-- each version behind the first was written after a bar
abbrev pub invariant-loop-other : goal.invariant-loop-other
invariant-loop-other g l =
    IsPlainFormatter l.initial.f → HasWritten g.W.Write.write_str_gives l.initial.f (flat_map (λ t. codes " | " ++ decimal (solvable_at l.self.ids t).version) (take l.other-index l.others)) l.f
