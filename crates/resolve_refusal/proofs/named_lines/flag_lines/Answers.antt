use Rattle.std.proofs.Common.{◌≡◌, ◌+◌, ◌∷◌, ◌++◌, [], sym, ◌∙◌, subst, ap, take, map, Bool, Vec, Global, List}
use Rattle.std.proofs.lemmas.List.{take_more, map-append}
use Rattle.resolvo_report.specs.Value.{Step as ReadRequest}
use Rattle.resolvo_report.specs.declared.step.Step.{Step}
use Rattle.resolvo_report.specs.View.{step_of, steps_of}
use Rattle.resolve_refusal.specs.Named.{AreFlagged}
use Rattle.resolve_refusal.proofs.NameLemmas.{flagged_more, flagged_skip}
use Rattle.resolve_refusal.proofs.named_lines.flag_lines.Goals as goal
use Rattle.resolve_refusal.proofs.named_lines.flag_lines.Goals.{in-Some, in_default}

pub loop-step-preserved : goal.loop-step-preserved
loop-step-preserved c =
    let of = c.args.text in
    let xs = c.args.steps.now in
    let i = c.loop-step.step-index in
    let s = c.step-item.result in
    let old = c.loop-step.flags.items in
    let more : steps_of (take i xs) ++ step_of s ∷ [] ≡ steps_of (take (i + 1) xs) = sym (ap (map step_of) (take_more xs i s c.loop-step-test.true ∙ ap (λ (x : Step). take i xs ++ x ∷ []) (sym c.step-item.is)) ∙ map-append step_of (take i xs) (s ∷ [])) in
    elim c.match-line_in.branch [
      | in-Some w ↦
          subst (λ (v : Vec Bool Global). AreFlagged of c.args.count (steps_of (take (i + 1) xs)) v.items) (sym w.flags-is)
          (subst (λ (ys : List ReadRequest). AreFlagged of c.args.count ys w.flag.new.flags.items) more
          (flagged_more of c.args.count (steps_of (take i xs)) (step_of s) w.in-Some.line old w.flag.new.flags.items (sym c.line_in.ensures ∙ w.in-Some.is) w.flag.ensures.long w.flag.ensures.kept w.flag.ensures.set w.flag.ensures.only c.loop-step.invariant))
      | in_default w ↦
          subst (λ (v : Vec Bool Global). AreFlagged of c.args.count (steps_of (take (i + 1) xs)) v.items) (sym w.flags-is)
          (subst (λ (ys : List ReadRequest). AreFlagged of c.args.count ys old) more
          (flagged_skip of c.args.count (steps_of (take i xs)) (step_of s) old (sym c.line_in.ensures ∙ w.in_default.is) c.loop-step.invariant))
    ]
