use Rattle.std.proofs.Common.{ℕ, refl, subst}
use Rattle.resolvo.specs.Turns.{IsTurnRecord}
use Rattle.resolvo.proofs.turns.Turns.record.Goals as goal

pub returns : goal.returns
returns g c = record {
  turn = c.turn_of.result;
  fields = subst (λ (n : ℕ). IsTurnRecord c.args.soft c.args.begin n c.args.status c.turn_of.result) c.len-end.ensures c.turn_of.ensures;
  chosen = refl;
  turns = c.in_ok-push.ensures.items;
}
