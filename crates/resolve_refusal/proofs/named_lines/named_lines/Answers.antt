use Rattle.std.proofs.Common.{List, Bool, length, subst}
use Rattle.resolvo_catalogue_core.specs.Questions.{AreAll}
use Rattle.resolvo_report.specs.View.{steps_of}
use Rattle.resolve_refusal.specs.Named.{IsFlaggedLine}
use Rattle.resolve_refusal.proofs.NameLemmas.{flagged_named}
use Rattle.resolve_refusal.proofs.named_lines.named_lines.Goals as goal

pub returns-clause-lines : goal.returns-clause-lines
returns-clause-lines c =
    flagged_named c.args.text c.args.count (steps_of c.args.steps.now) c.in_ok-flags.flags.items c.in_ok-lines.lines.items c.in_ok-flags.ensures.flags
    (subst (λ (flags : List Bool). AreAll c.in_ok-lines.lines.items (IsFlaggedLine flags (length flags))) c.as_slice.ensures.value c.in_ok-lines.ensures.lines)
