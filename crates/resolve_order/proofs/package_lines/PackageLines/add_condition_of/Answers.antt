use Rattle.resolve_order.proofs.package_lines.PackageLines.add_condition_of.Goals as goal

pub returns-in-Text-clause-added : goal.returns-in-Text-clause-added
returns-in-Text-clause-added c = rw c.in-Text.is c.add_condition.ensures.added

pub returns-in-Numbered-clause-added : goal.returns-in-Numbered-clause-added
returns-in-Numbered-clause-added c = rw c.in-Numbered.is c.add_kept_condition.ensures.added
