use Rattle.std.proofs.Common.{◌++◌, take}
use Rattle.std.specs.Prelude.{◌%◌, codes}
use Rattle.std.specs.List.{flat_map}
use Rattle.std.specs.Fmt.{HasWritten, IsPlainFormatter, decimal}
use Rattle.resolvo_graph_tests.proofs.tests.sample.SampleInterner.display_merged_solvables.Given as goal

-- each version after the first was written after a bar
abbrev pub invariant-loop-other : goal.invariant-loop-other
invariant-loop-other g l = IsPlainFormatter l.initial.f → HasWritten g.W.Write.write_str_gives l.initial.f (flat_map (λ t. codes " | " ++ decimal (t.raw % 100)) (take l.other-index l.others)) l.f
