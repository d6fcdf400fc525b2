use Rattle.std.proofs.Common.{ap, drop, ◌∙◌}
use Rattle.std.proofs.lemmas.List.{take_rest}
use Rattle.resolvo_state.proofs.MemberLemmas.{queued_has, queued_only}
use Rattle.resolvo_state.proofs.registry.Registry.queued.Goals as goal

pub returns-clause-waiting : goal.returns-clause-waiting
returns-clause-waiting g c = queued_has c.args.self.now _ (take_rest c.as_slice.result.now c.args.self.now.tied ∙ ap (drop c.args.self.now.tied) c.as_slice.ensures)

pub returns-clause-registered : goal.returns-clause-registered
returns-clause-registered g c = queued_only c.args.self.now _ (take_rest c.as_slice.result.now c.args.self.now.tied ∙ ap (drop c.args.self.now.tied) c.as_slice.ensures)
