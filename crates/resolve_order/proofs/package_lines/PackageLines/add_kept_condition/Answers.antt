use Rattle.resolve_order.proofs.package_lines.PackageLines.add_kept_condition.Goals as goal

pub returns-in-Some-clause-added : goal.returns-in-Some-clause-added
returns-in-Some-clause-added c = rw c.in-Some.is c.add_kept_parts.ensures.added
