use Rattle.resolve_refusal.proofs.steps.Writing.limit_line.Goals as goal

pub first_limit-requires : goal.first_limit-requires
first_limit-requires c = c.first_lines-first.ensures c.args.self.texts.catalogue.now c.args.self.texts.request.now.lines c.requires
