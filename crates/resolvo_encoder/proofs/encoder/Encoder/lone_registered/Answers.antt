use Rattle.std.proofs.Common.{sym}
use Rattle.resolvo_pool_core.specs.declared.id.VariableId.{VariableId}
use Rattle.resolvo_encoder.proofs.PlaceLemmas.{lone_those}
use Rattle.resolvo_encoder.proofs.encoder.Encoder.lone_registered.Goals as goal

pub returns : goal.returns
returns g c =
    let d : VariableId = record { 0 = 0 } in
    lone_those c.args.self.now c.args.name c.variables-variables.result.now d c.in_ok-solvable.solvable c.requires.tied c.variables-variables.ensures.tracked c.variables-variables.ensures.all c.if-variables-ne1.false (sym c.in_ok-solvable.ensures)
