use Rattle.std.proofs.Common.{ap, ◌∙◌, eqb, arith}
use Rattle.std.specs.Prelude.{◌||◌}
use Rattle.resolvo_judge.proofs.NamedLemmas.{flag_set}
use Rattle.resolvo_judge.proofs.named_lines.mark.Goals as goal

pub returns : goal.returns
returns c = λ n. flag_set c.reach.new.marks.items c.args.line n (omega (arith, c.in_ok-reach.ensures.len)) ∙ ap (λ b. eqb c.args.line n || b) (c.in_ok-reach.ensures.same n)
