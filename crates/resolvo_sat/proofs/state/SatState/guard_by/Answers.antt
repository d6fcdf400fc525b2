use Rattle.std.proofs.Common.{inl, sym, ◌∙◌}
use Rattle.resolvo_sat.proofs.StartLemmas.{guards_by_nothing}
use Rattle.resolvo_sat.proofs.state.SatState.guard_by.Goals as goal

pub returns-then-not-is_false : goal.returns-then-not-is_false
returns-then-not-is_false c = guards_by_nothing c.args.self.now c.args.literal c.args.other (inl (sym c.is_false.ensures ∙ c.if-not-is_false.true))
