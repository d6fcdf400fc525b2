use Rattle.std.proofs.Common.{not, is_some, sym, ap, refl, Option}
use Rattle.resolvo_catalogue_core.specs.declared.rule.VersionNo.{VersionNo}
use Rattle.resolvo_catalogue_core.proofs.NumberedLemmas.{above_absent}
use Rattle.resolvo_catalogue_core.proofs.version_list.VersionList.add.Goals as goal

pub returns-then-goes_on-clause-new : goal.returns-then-goes_on-clause-new
returns-then-goes_on-clause-new c = ap (λ (o : Option VersionNo). not (is_some o)) (sym (above_absent c.args.self.now.numbers.items c.args.self.now.versions.items c.args.number (c.if-goes_on.ensures.above refl)))
