use Rattle.resolve_refusal.proofs.steps.Writing.plain_line.Goals as goal

pub first_plain_need-requires : goal.first_plain_need-requires
first_plain_need-requires c = c.first_lines-first.ensures c.args.self.texts.catalogue.now c.args.self.texts.request.now.lines c.requires
