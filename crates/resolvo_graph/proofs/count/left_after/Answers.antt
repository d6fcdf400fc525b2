use Rattle.resolvo_graph.specs.declared.count.Room.{Room}
use Rattle.resolvo_graph.proofs.CountLemmas.{if_text, room_after}
use Rattle.resolvo_graph.proofs.count.left_after.Goals as goal

pub returns-in-Ok-clause-left : goal.returns-in-Ok-clause-left
returns-in-Ok-clause-left g c = if_text (g.D.Display.output c.args.value.now) (λ text wrote. room_after _ (λ (r : Room). r.left) (λ _ _ _ t. t) _ text _ wrote) c.in-Ok.ensures.writes
