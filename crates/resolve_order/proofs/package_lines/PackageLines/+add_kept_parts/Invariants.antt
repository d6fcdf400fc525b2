use Rattle.resolve_order.proofs.package_lines.PackageLines.+add_kept_parts.Given as goal

abbrev pub decreases-add_kept_parts : goal.decreases-add_kept_parts
decreases-add_kept_parts l = l.condition.0
