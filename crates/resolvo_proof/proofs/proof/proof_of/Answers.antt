use Rattle.std.proofs.Common.{Option, Bor, sym, subst}
use Rattle.std.specs.Prelude.{IfSome, MatchOption}
use Rattle.resolvo_sat.specs.declared.analyze.FinalConflict.{FinalConflict}
use Rattle.resolvo_sat.specs.State.{count_of}
use Rattle.resolvo_sat.specs.Steps.{AreInRange}
use Rattle.resolvo_sat.specs.Analysis.{IsRefusal}
use Rattle.resolvo_proof.specs.Proof.{DenyRoot, EndsEmpty}
use Rattle.resolvo_proof.specs.Written.{AreSteps, AreStepsThen}
use Rattle.resolvo_proof.proofs.Parts.{refusal_step}
use Rattle.resolvo_proof.proofs.ProveLemmas.{steps_prove, refusal_proves, refusal_in_range, ends_empty}
use Rattle.resolvo_proof.proofs.ConvinceLemmas.{convinces}
use Rattle.resolvo_proof.proofs.OnePlace.{steps_one_place, refusal_one_place}
use Rattle.resolvo_proof.proofs.Drawn.{steps_drawn, steps_signs, refusal_drawn, refusal_signs}
use Rattle.resolvo_proof.proofs.proof.proof_of.Goals as goal

pub write_derived-requires-clause-in_range : goal.write_derived-requires-clause-in_range
write_derived-requires-clause-in_range g c =
    let search = c.args.coding.now.search in
    let r = c.in-Some.refusal.now in
    let refusal : IsRefusal search r.literals.items r.causes.items = subst (λ (o : Option (Bor FinalConflict)). IfSome o (λ x. IsRefusal search x.now.literals.items x.now.causes.items)) c.in-Some.is c.requires.refusal in
    subst (AreInRange (count_of search)) (sym c.as_slice-literals.ensures.value) (refusal_in_range search r.literals.items r.causes.items c.requires.coding.ready.state refusal)

pub returns-in-None-clause-proof : goal.returns-in-None-clause-proof
returns-in-None-clause-proof g c = steps_prove c.args.coding.now c.in_ok-steps.steps.items c.requires.coding c.in_ok-steps.ensures.steps

pub returns-in-None-clause-convinces : goal.returns-in-None-clause-convinces
returns-in-None-clause-convinces g c = convinces c.in_ok-steps.steps.items

pub returns-in_ok-push-in-Some-clause-steps : goal.returns-in_ok-push-in-Some-clause-steps
returns-in_ok-push-in-Some-clause-steps g c =
    let coding = c.args.coding.now in
    let r = c.in-Some.refusal.now in
    subst (λ (o : Option (Bor FinalConflict)). MatchOption o (AreSteps coding c.push.new.self.items) (λ x. AreStepsThen coding x.now.literals.items x.now.causes.items c.push.new.self.items)) (sym c.in-Some.is)
    (refusal_step coding r.literals.items c.as_slice-literals.result.now r.causes.items c.as_slice.result.now c.in_ok-steps.steps.items c.push.new.self.items c.in_ok-step-in-Some.step c.in_ok-push-in-Some.ensures.items c.in_ok-steps.ensures.steps
    c.as_slice-literals.ensures.value c.as_slice.ensures.value c.in_ok-step-in-Some.ensures.step)

pub returns-in_ok-push-in-Some-clause-proof : goal.returns-in_ok-push-in-Some-clause-proof
returns-in_ok-push-in-Some-clause-proof g c =
    let coding = c.args.coding.now in
    let r = c.in-Some.refusal.now in
    let refusal : IsRefusal coding.search r.literals.items r.causes.items = subst (λ (o : Option (Bor FinalConflict)). IfSome o (λ x. IsRefusal coding.search x.now.literals.items x.now.causes.items)) c.in-Some.is c.requires.refusal in
    refusal_proves coding r.literals.items r.causes.items c.push.new.self.items c.requires.coding refusal
    (refusal_step coding r.literals.items c.as_slice-literals.result.now r.causes.items c.as_slice.result.now c.in_ok-steps.steps.items c.push.new.self.items c.in_ok-step-in-Some.step c.in_ok-push-in-Some.ensures.items c.in_ok-steps.ensures.steps
    c.as_slice-literals.ensures.value c.as_slice.ensures.value c.in_ok-step-in-Some.ensures.step)

pub returns-in_ok-push-in-Some-clause-empty : goal.returns-in_ok-push-in-Some-clause-empty
returns-in_ok-push-in-Some-clause-empty g c =
    let coding = c.args.coding.now in
    let r = c.in-Some.refusal.now in
    subst (λ (o : Option (Bor FinalConflict)). IfSome o (λ x. DenyRoot x.now.literals.items → EndsEmpty c.push.new.self.items)) (sym c.in-Some.is)
    (ends_empty coding r.literals.items r.causes.items c.push.new.self.items
    (refusal_step coding r.literals.items c.as_slice-literals.result.now r.causes.items c.as_slice.result.now c.in_ok-steps.steps.items c.push.new.self.items c.in_ok-step-in-Some.step c.in_ok-push-in-Some.ensures.items c.in_ok-steps.ensures.steps
    c.as_slice-literals.ensures.value c.as_slice.ensures.value c.in_ok-step-in-Some.ensures.step))

pub returns-in_ok-push-in-Some-clause-convinces : goal.returns-in_ok-push-in-Some-clause-convinces
returns-in_ok-push-in-Some-clause-convinces g c = convinces c.push.new.self.items

pub returns-in-None-clause-places : goal.returns-in-None-clause-places
returns-in-None-clause-places g c = λ r package_of tied named. steps_one_place c.args.coding.now r c.requires.coding tied package_of named c.in_ok-steps.steps.items c.in_ok-steps.ensures.steps

pub returns-in_ok-push-in-Some-clause-places : goal.returns-in_ok-push-in-Some-clause-places
returns-in_ok-push-in-Some-clause-places g c = λ t package_of tied named.
    let coding = c.args.coding.now in
    let r = c.in-Some.refusal.now in
    refusal_one_place coding t c.requires.coding tied package_of named r.literals.items r.causes.items c.push.new.self.items
    (refusal_step coding r.literals.items c.as_slice-literals.result.now r.causes.items c.as_slice.result.now c.in_ok-steps.steps.items c.push.new.self.items c.in_ok-step-in-Some.step c.in_ok-push-in-Some.ensures.items c.in_ok-steps.ensures.steps
    c.as_slice-literals.ensures.value c.as_slice.ensures.value c.in_ok-step-in-Some.ensures.step)

pub returns-in-None-clause-drawn : goal.returns-in-None-clause-drawn
returns-in-None-clause-drawn g c = λ none same p spelled. steps_drawn c.args.coding.now c.requires.coding same p spelled c.in_ok-steps.steps.items c.in_ok-steps.ensures.steps

pub returns-in-None-clause-signs : goal.returns-in-None-clause-signs
returns-in-None-clause-signs g c = steps_signs c.args.coding.now c.requires.coding c.in_ok-steps.steps.items c.in_ok-steps.ensures.steps

pub returns-in_ok-push-in-Some-clause-drawn : goal.returns-in_ok-push-in-Some-clause-drawn
returns-in_ok-push-in-Some-clause-drawn g c = λ denies.
    let coding = c.args.coding.now in
    let r = c.in-Some.refusal.now in
    let deny : DenyRoot r.literals.items = subst (λ (o : Option (Bor FinalConflict)). IfSome o (λ x. DenyRoot x.now.literals.items)) c.in-Some.is denies in
    refusal_drawn coding c.requires.coding r.literals.items r.causes.items c.push.new.self.items
    (refusal_step coding r.literals.items c.as_slice-literals.result.now r.causes.items c.as_slice.result.now c.in_ok-steps.steps.items c.push.new.self.items c.in_ok-step-in-Some.step c.in_ok-push-in-Some.ensures.items c.in_ok-steps.ensures.steps
    c.as_slice-literals.ensures.value c.as_slice.ensures.value c.in_ok-step-in-Some.ensures.step) deny

pub returns-in_ok-push-in-Some-clause-signs : goal.returns-in_ok-push-in-Some-clause-signs
returns-in_ok-push-in-Some-clause-signs g c =
    let coding = c.args.coding.now in
    let r = c.in-Some.refusal.now in
    let refusal : IsRefusal coding.search r.literals.items r.causes.items = subst (λ (o : Option (Bor FinalConflict)). IfSome o (λ x. IsRefusal coding.search x.now.literals.items x.now.causes.items)) c.in-Some.is c.requires.refusal in
    refusal_signs coding c.requires.coding r.literals.items r.causes.items c.push.new.self.items
    (refusal_step coding r.literals.items c.as_slice-literals.result.now r.causes.items c.as_slice.result.now c.in_ok-steps.steps.items c.push.new.self.items c.in_ok-step-in-Some.step c.in_ok-push-in-Some.ensures.items c.in_ok-steps.ensures.steps
    c.as_slice-literals.ensures.value c.as_slice.ensures.value c.in_ok-step-in-Some.ensures.step) refusal
