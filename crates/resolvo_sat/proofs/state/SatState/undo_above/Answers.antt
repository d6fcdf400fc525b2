use Rattle.std.proofs.Common.{◌∙◌, inl, inr, List, length, refl, ap}
use Rattle.std.specs.Prelude.{min}
use Rattle.resolvo_store_core.specs.declared.decision.Entry.{Entry}
use Rattle.resolvo_sat.proofs.StepLemmas.{state_undone}
use Rattle.resolvo_sat.proofs.state.SatState.undo_above.Goals as goal

pub returns-then-level-self : goal.returns-then-level-self
returns-then-level-self c =
    state_undone c.args.self.now (record c.args.self.now { tracker = c.undo_until.new.self; qhead = 0; guard_level = 0; indexed = c.min-self.result }) c.args.level c.requires.state c.requires.one c.undo_until.ensures refl (inl refl)

pub returns-else-level-self : goal.returns-else-level-self
returns-else-level-self c =
    state_undone c.args.self.now (record c.args.self.now { tracker = c.undo_until.new.self; qhead = c.min-self-else-level-self.result; indexed = c.min-self.result }) c.args.level c.requires.state c.requires.one c.undo_until.ensures refl
    (inr (c.requires.one, c.if-level-self.false, refl, c.min-self-else-level-self.ensures ∙ ap (λ (xs : List Entry). min c.args.self.now.qhead (length xs)) c.stack-left.ensures.trail))
