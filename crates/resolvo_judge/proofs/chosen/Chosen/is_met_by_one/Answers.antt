use Rattle.std.proofs.Common.{sym, ◌∙◌}
use Rattle.resolvo_text.specs.Matches.{is_met}
use Rattle.resolvo_text.specs.View.{spec_of}
use Rattle.resolvo_judge.proofs.ChosenLemmas.{any_at}
use Rattle.resolvo_judge.proofs.chosen.Chosen.is_met_by_one.Goals as goal

pub returns-then-is_met : goal.returns-then-is_met
returns-then-is_met c = λ set h. sym (any_at spec_of (λ s. is_met s set) c.args.alternatives.now c.loop-spec.spec-index c.spec-item.result c.loop-spec-test.true c.spec-item.is (sym (c.is_met.ensures set h) ∙ c.if-is_met.true))
