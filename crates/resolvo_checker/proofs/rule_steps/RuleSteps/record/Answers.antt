use Rattle.std.proofs.Common.{ℕ, Option, ap, sym, ◌∙◌}
use Rattle.std.specs.Global.{Vec}
use Rattle.std.specs.Option.{option_map}
use Rattle.resolvo_report.specs.View.{step_of}
use Rattle.resolvo_checker.proofs.StepKeyLemmas.{recorded_kept, recorded_put}
use Rattle.resolvo_checker.proofs.rule_steps.RuleSteps.record.Goals as goal

pub returns-in_ok-put : goal.returns-in_ok-put
returns-in_ok-put c = λ catalogue request earlier last there h.
    recorded_put catalogue request c.args.self.now c.put.new.self earlier (step_of c.args.step.now) c.in-Some.key.items c.args.place
    (sym c.in_ok-key.ensures ∙ ap (λ (o : Option (Vec ℕ)). option_map (λ k. k.items) o) c.in-Some.is) (λ other. c.in_ok-put.ensures other) last there h

pub returns-in_default : goal.returns-in_default
returns-in_default c = λ catalogue request earlier last there h. recorded_kept catalogue request c.args.self.now earlier (step_of c.args.step.now) h
