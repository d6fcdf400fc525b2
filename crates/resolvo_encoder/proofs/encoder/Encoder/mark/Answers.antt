use Rattle.std.proofs.Common.{Bool, subst, sym}
use Rattle.resolvo_encoder.specs.Steps.{MarksPackage}
use Rattle.resolvo_encoder.proofs.MatchLemmas.{package_marked, package_unmarked}
use Rattle.resolvo_encoder.proofs.encoder.Encoder.mark.Goals as goal

pub returns-then-not-many-clause-marks : goal.returns-then-not-many-clause-marks
returns-then-not-many-clause-marks g c = subst (λ (b : Bool). MarksPackage g.S.PartialEq.eq c.args.name b c.args.self.now c.args.self.now) (sym c.if-not-many.true) (package_unmarked g.S.PartialEq.eq c.args.name c.args.self.now c.requires)

pub returns-clause-marks : goal.returns-clause-marks
returns-clause-marks g c = subst (λ (b : Bool). MarksPackage g.S.PartialEq.eq c.args.name b c.args.self.now (record c.args.self.now { registry = c.mark_many.new.self })) (sym c.if-not-many.false)
    (package_marked g.S.PartialEq.eq c.args.name c.args.self.now c.mark_many.new.self c.requires c.in_ok-mark_many.ensures.marked)
