use Rattle.resolvo_sat.proofs.state.SatState.begin_pair.Goals as goal

pub begin_plain-requires : goal.begin_plain-requires
begin_plain-requires c = record { differ = c.requires.differ; both = c.is_plain.ensures.open c.if-is_plain.true }
