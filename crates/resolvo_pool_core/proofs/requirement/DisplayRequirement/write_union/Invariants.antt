use Rattle.std.proofs.Common.{◌++◌, take}
use Rattle.std.specs.Prelude.{codes}
use Rattle.std.specs.List.{flat_map}
use Rattle.std.specs.Fmt.{HasWritten, IsPlainFormatter}
use Rattle.resolvo_pool_core.specs.Text.{set_text}
use Rattle.resolvo_pool_core.proofs.requirement.DisplayRequirement.write_union.Given as goal

-- each alternative behind the first was written after a bar
abbrev pub invariant-loop-version_set : goal.invariant-loop-version_set
invariant-loop-version_set g l =
    let text = set_text (g.I.Interner.name_text l.self.interner.now) (g.I.Interner.version_set_text l.self.interner.now) (g.I.Interner.name_of_version_set l.self.interner.now) in
    IsPlainFormatter l.initial.f → HasWritten g.W.Write.write_str_gives l.initial.f (flat_map (λ w. codes " | " ++ text w) (take l.version_set-index l.others)) l.f
