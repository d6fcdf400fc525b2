use Rattle.std.proofs.Common.{Option, Bor, subst}
use Rattle.std.specs.Prelude.{IfSome}
use Rattle.resolve_refusal.specs.declared.first_lines.FirstLines.{FirstLines}
use Rattle.resolve_refusal.specs.FirstLines.{AreFirst}
use Rattle.resolve_refusal.proofs.lines.Texts.first_limit.Goals as goal

pub limit_by_key-requires : goal.limit_by_key-requires
limit_by_key-requires c = subst (λ (o : Option (Bor FirstLines)). IfSome o (λ f. AreFirst c.args.self.catalogue.now c.args.self.request.now.lines c.args.place f.now)) c.in-Some.is c.requires
