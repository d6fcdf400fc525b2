use Rattle.std.proofs.Common.{◌<◌, length, arith}
use Rattle.resolve_refusal.specs.LacksNumbers.{LacksNumbers}
use Rattle.resolve_refusal.proofs.InstallLemmas.{both_ok, installed}
use Rattle.resolve_refusal.proofs.install.install_steps.Goals as goal

pub returns-clause-steps : goal.returns-clause-steps
returns-clause-steps c =
    let few : length c.args.steps.now < 4294967296 = omega (arith, c.if-steps-gt-MOST_STEPS.false) in
    let long : length c.args.catalogue.now < 4294967296 = omega (arith, c.line_count-lines.ensures, c.line_count-lines.type_inv) in
    let asked : length c.args.request.now.lines < 4294967296 = omega (arith, c.line_count-asked.ensures, c.line_count-asked.type_inv) in
    both_ok c.write_steps.result (λ v names_rule wrote proves. installed c.args.catalogue.now c.args.request.now c.args.provider.now c.args.steps.now proves few long asked _ names_rule wrote) c.write_steps.ensures.names_rule c.write_steps.ensures.written

pub returns-then-steps-gt-MOST_STEPS-clause-ids : goal.returns-then-steps-gt-MOST_STEPS-clause-ids
returns-then-steps-gt-MOST_STEPS-clause-ids c = λ is. LacksNumbers.steps c.if-steps-gt-MOST_STEPS.true

pub returns-clause-ids : goal.returns-clause-ids
returns-clause-ids c = λ is. LacksNumbers.cases (c.write_steps.ensures.ids is)
