use Rattle.resolve_answer.proofs.Verdicts.{chosen_keeps, refused_none}
use Rattle.resolve_answer.proofs.laws.either_hint_gives_one_verdict.Goals as goal

pub returns : goal.returns
returns c = λ catalogue source one other verdict another given given_other chosen refused.
    let (set, keeps) = chosen_keeps catalogue source one verdict given chosen in
    refused_none catalogue source other another given_other refused set keeps
