use Rattle.std.proofs.Common.{sym, ◌∙◌}
use Rattle.resolvo_sat.specs.Known.{clause_at}
use Rattle.resolvo_sat.specs.Entries.{made_true}
use Rattle.resolvo_sat.specs.State.{history, clauses_of}
use Rattle.resolvo_sat.proofs.StartLemmas.{false_but_first, false_but_second}
use Rattle.resolvo_sat.proofs.state.SatState.force_one.Goals as goal

pub force-requires-clause-others : goal.force-requires-clause-others
force-requires-clause-others c = false_but_first (made_true (history c.args.self.now)) (clause_at (clauses_of c.args.self.now) c.args.clause.0) c.args.watched.now c.requires.alone (sym c.is_false.ensures ∙ c.if-is_false.true)

pub force-requires-then-is_false-2-clause-others : goal.force-requires-then-is_false-2-clause-others
force-requires-then-is_false-2-clause-others c = false_but_second (made_true (history c.args.self.now)) (clause_at (clauses_of c.args.self.now) c.args.clause.0) c.args.watched.now c.requires.alone (sym c.is_false-2.ensures ∙ c.if-is_false-2.true)
