use Rattle.std.proofs.Common.{Some, ap, subst}
use Rattle.resolve_refusal.specs.Lines.{IsForbidLineOf}
use Rattle.resolve_refusal.specs.declared.lines.ForbidLine.{ForbidLine}
use Rattle.resolve_refusal.proofs.ForbidLemmas.{free_exclusions}
use Rattle.resolve_refusal.proofs.lines.Texts.exclusion_line.Goals as goal

pub returns-in-None : goal.returns-in-None
returns-in-None c = λ v at m content. free_exclusions c.args.self.catalogue.now v c.args.word.now m (c.in-None.ensures v at) content

pub returns-in-Some-Exclude : goal.returns-in-Some-Exclude
returns-in-Some-Exclude c = c.this_exclusion.ensures (subst (IsForbidLineOf c.args.self.catalogue.now c.args.version.0) (ap (λ (l : ForbidLine). Some l) c.in-Some-Exclude.field-0-is) c.in-Some-Exclude.ensures)
