use Rattle.resolvo_sat.proofs.state.SatState.begin_closed.Goals as goal

pub returns-clause-begun : goal.returns-clause-begun
returns-clause-begun c = record {
  noted = c.note_pending.new.watching;
  begun = c.begin.new.self;
  notes = c.in_ok-note_pending.ensures.noted;
  begins = c.in_ok-begin.ensures.begun;
  kept = c.in_ok-note_rule.ensures.kept;
}
