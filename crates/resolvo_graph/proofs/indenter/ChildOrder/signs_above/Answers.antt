use Rattle.std.proofs.Common.{sym, ap}
use Rattle.std.specs.Prelude.{replicate}
use Rattle.std.specs.List.{flat_map}
use Rattle.resolvo_graph.specs.declared.indenter.ChildOrder.{ChildOrder}
use Rattle.resolvo_graph.specs.Indent.{sign_above}
use Rattle.resolvo_graph.proofs.indenter.ChildOrder.signs_above.Goals as goal

pub returns-in-HasRemainingSiblings : goal.returns-in-HasRemainingSiblings
returns-in-HasRemainingSiblings c = sym (ap (λ (o : ChildOrder). flat_map sign_above (replicate 256 o)) c.in-HasRemainingSiblings.is)

pub returns-in-Last : goal.returns-in-Last
returns-in-Last c = sym (ap (λ (o : ChildOrder). flat_map sign_above (replicate 256 o)) c.in-Last.is)
