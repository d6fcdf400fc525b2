use Rattle.resolve_refusal.proofs.NumberLemmas.{many_in}
use Rattle.resolve_refusal.proofs.steps.Writing.need_in_case.Goals as goal

pub returns-clause-ids : goal.returns-clause-ids
returns-clause-ids c = λ is. many_in c.args.self.texts.catalogue.now c.args.self.texts.request.now.lines c.place_number-place.result (c.first_need.ensures.ids is)

pub first_need-requires : goal.first_need-requires
first_need-requires c = c.first_lines-first.ensures c.args.self.texts.catalogue.now c.args.self.texts.request.now.lines c.requires
