use Rattle.std.proofs.Common.{List, sym, subst}
use Rattle.resolvo.specs.Solve.{RefusesNothing}
use Rattle.resolvo.specs.Turns.{AreAccepted}
use Rattle.resolvo.specs.declared.search.SearchResult.{SearchResult}
use Rattle.resolvo.specs.declared.turns.Turn.{Turn}
use Rattle.resolvo.proofs.prove.needs_none.Goals as goal

pub returns-in-Chosen : goal.returns-in-Chosen
returns-in-Chosen g c = λ yes. (
  c.in-Reasons.is,
  subst (λ (f : SearchResult g.row.S.Denot). RefusesNothing f) (sym c.in-Chosen.is) (subst (λ (ts : List (Turn g.row.S.Denot)). AreAccepted ts) c.as_slice.ensures.value (c.are_accepted.ensures yes)),
)
