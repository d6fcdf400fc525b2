use Rattle.std.proofs.Common.{◌≡◌, ℕ, ◌+◌, ◌<◌, List, ◌∷◌, ◌++◌, length, take, get_or, sym, ap, ◌∙◌, append_assoc, arith}
use Rattle.std.specs.Fmt.{decimal}
use Rattle.std.specs.Prelude.{codes}
use Rattle.std.specs.String.{string_bytes}
use Rattle.std.proofs.Math.ListN.{get_or-map}
use Rattle.std.proofs.lemmas.List.{length-map, take_all}
use Rattle.resolvo_report.specs.Value as model
use Rattle.resolvo_report.specs.View.{step_of, steps_of}
use Rattle.resolvo_report.specs.Text.{line_text, lines_text, numbered, step_text}
use Rattle.resolvo_report.proofs.PushLemmas.{pushed2}
use Rattle.resolvo_report.proofs.WriteLemmas.{lines_next, length-numbered, numbered_at}
use Rattle.resolvo_report.proofs.answer_text.push_steps.Goals as goal

pub loop-i-preserved : goal.loop-i-preserved
loop-i-preserved c =
    let ls : List model.ReportLine = numbered 1 (steps_of c.args.steps.now) in
    let i = c.loop-i.i in
    let x : model.ReportLine = model.Numbered (c.loop-i.i + 1) (step_of c.index-steps-i.result) in
    let within : i < length ls = omega (arith, c.loop-i-test.true, length-numbered 1 (steps_of c.args.steps.now), length-map c.args.steps.now step_of) in
    let at : get_or ls i x ≡ x = numbered_at 1 i (steps_of c.args.steps.now) (step_of c.index-steps-i.result) x (omega (arith, c.loop-i-test.true, length-map c.args.steps.now step_of)) (get_or-map step_of c.args.steps.now i c.index-steps-i.result ∙ ap step_of (sym c.index-steps-i.is)) ∙ ap (λ (k : ℕ). model.Numbered k (step_of c.index-steps-i.result)) (omega arith) in
    let n = decimal (c.loop-i.i + 1) in
    let t = step_text (step_of c.index-steps-i.result) in
    let text : string_bytes c.in_ok-text.text ≡ line_text x ++ codes "\n" = c.in_ok-text.ensures.ok ∙ sym (ap (λ (y : List ℕ). y ++ codes "\n") (append_assoc (codes "step " ++ n) (codes " ") t ∙ append_assoc (codes "step ") n (32 ∷ t)) ∙ append_assoc (codes "step ") (n ++ 32 ∷ t) (codes "\n") ∙ ap (λ (y : List ℕ). codes "step " ++ y) (append_assoc n (32 ∷ t) (codes "\n"))) in
    pushed2 _ _ _ _ _ c.loop-i.invariant c.in_ok-extend_from_slice.ensures.items
    ∙ ap (λ (y : List ℕ). c.args.out.now.items ++ y) (ap (λ (y : List ℕ). lines_text (take i ls) ++ y) (c.as_bytes.ensures.value ∙ text) ∙ lines_next ls i x within at)

pub returns : goal.returns
returns c =
    let ls : List model.ReportLine = numbered 1 (steps_of c.args.steps.now) in
    let all : take c.loop-i.i ls ≡ ls = take_all c.loop-i.i ls (omega (arith, c.loop-i-test.false, length-numbered 1 (steps_of c.args.steps.now), length-map c.args.steps.now step_of)) in
    c.loop-i.invariant ∙ ap (λ (xs : List model.ReportLine). c.args.out.now.items ++ lines_text xs) all
