use Rattle.std.proofs.Common.{length, sym, ◌∙◌, ap}
use Rattle.resolvo_pool_core.proofs.Texts.{no_alternatives, wrote_nothing}
use Rattle.resolvo_pool_core.proofs.requirement.DisplayRequirement.write_union.Goals as goal

pub loop-version_set-init : goal.loop-version_set-init
loop-version_set-init g c plain = wrote_nothing g.W.Write.write_str_gives c.write.new.self plain

pub returns-in_default : goal.returns-in_default
returns-in_default g c plain done =
    let none = ap length (sym c.version_sets_in_union-sets.ensures) ∙ c.in_default.ensures.cases in
    rw (no_alternatives _ _ none) (wrote_nothing g.W.Write.write_str_gives c.args.f.now plain)
