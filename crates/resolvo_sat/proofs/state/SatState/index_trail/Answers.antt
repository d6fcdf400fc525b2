use Rattle.std.proofs.Common.{refl}
use Rattle.resolvo_sat.specs.declared.state.SatState.{SatState}
use Rattle.resolvo_sat.proofs.StartLemmas.{proceeds_kept, indexed_extends}
use Rattle.resolvo_sat.proofs.state.SatState.index_trail.Goals as goal

pub returns-clause-proceeds : goal.returns-clause-proceeds
returns-clause-proceeds c =
    let s : SatState = c.args.self.now in
    proceeds_kept s _ c.args.watching.now c.loop-place.watching c.requires.ready (indexed_extends s _ c.requires.ready.state) refl c.loop-place.invariant
