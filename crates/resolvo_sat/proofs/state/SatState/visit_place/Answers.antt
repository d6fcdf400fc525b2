use Rattle.std.proofs.Common.{refl}
use Rattle.resolvo_sat.proofs.ExtendLemmas.{extends_nothing}
use Rattle.resolvo_sat.proofs.StartLemmas.{fallen_known, kept_nothing, proceeds_kept}
use Rattle.resolvo_sat.proofs.state.SatState.visit_place.Goals as goal

pub visit_new-requires-clause-known : goal.visit_new-requires-clause-known
visit_new-requires-clause-known c = fallen_known c.args.self.now c.in-Some.literal c.args.place c.in-Some.ensures

pub returns-in-None-clause-visited : goal.returns-in-None-clause-visited
returns-in-None-clause-visited c = proceeds_kept c.args.self.now c.args.self.now c.args.watching.now c.args.watching.now c.requires.ready (extends_nothing c.args.self.now c.requires.ready.state) refl (kept_nothing c.args.watching.now)
