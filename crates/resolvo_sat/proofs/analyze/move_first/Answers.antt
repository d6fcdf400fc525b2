use Rattle.std.proofs.Common.{arith}
use Rattle.std.proofs.lemmas.List.Sorted.{IsPermutation-swap}
use Rattle.resolvo_sat.proofs.analyze.move_first.Goals as goal

pub returns-then-place-len : goal.returns-then-place-len
returns-then-place-len c = IsPermutation-swap c.args.literals.now.items c.swap.new.self.items 0 c.args.place (omega (arith, c.len.ensures, c.if-place-len.true, c.args.literals.now.ok.0)) (omega (arith, c.len.ensures, c.if-place-len.true, c.args.literals.now.ok.0)) c.swap.ensures.items
