use Rattle.std.proofs.Common.{inl, sym, ◌∙◌}
use Rattle.resolvo_sat.proofs.StartLemmas.{ahead_if_free}
use Rattle.resolvo_sat.proofs.state.SatState.may_watch.Goals as goal

pub returns-then-not-is_false : goal.returns-then-not-is_false
returns-then-not-is_false c = λ _. inl (ahead_if_free c.args.self.now c.args.literal (sym c.is_false.ensures ∙ c.if-not-is_false.true))
