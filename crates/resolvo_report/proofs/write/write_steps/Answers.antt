use Rattle.std.proofs.Common.{◌≡◌, ℕ, ◌+◌, ◌<◌, List, [], ◌∷◌, ◌++◌, length, take, drop, get_or, sym, ap, ◌∙◌, append_assoc, append-nil, arith}
use Rattle.std.specs.Prelude.{codes}
use Rattle.std.proofs.Math.ListN.{get_or-map}
use Rattle.std.proofs.lemmas.List.{length-map, take_all}
use Rattle.std.proofs.lemmas.Result.{err_from_is_err_and}
use Rattle.resolvo_report.specs.Value as model
use Rattle.resolvo_report.specs.View.{step_of, steps_of}
use Rattle.resolvo_report.specs.Text.{line_text, lines_text, numbered, step_text}
use Rattle.resolvo_report.proofs.WriteLemmas.{wrote_nothing, wrote_more, stops_there, stops_later, lines_next, lines_split, lines_rest, length-numbered, numbered_at}
use Rattle.resolvo_report.proofs.write.write_steps.Goals as goal
use Rattle.std.specs.Fmt.{decimal}

pub returns-in_err-text-clause-fault : goal.returns-in_err-text-clause-fault
returns-in_err-text-clause-fault g c =
    let ls : List model.ReportLine = numbered 1 (steps_of c.args.steps.now) in
    let i = c.loop-i.i in
    let p = err_from_is_err_and c.from_residual.result c.from_residual.ensures.1 in
    rw (p.1, p.2) (stops_there _ _ _ _ _ _ _ (lines_text (take i ls)) (lines_text (drop i ls)) (lines_text ls) c.loop-i.invariant (lines_rest ls i))

pub returns-in_err-write_line-clause-fault : goal.returns-in_err-write_line-clause-fault
returns-in_err-write_line-clause-fault g c =
    let ls : List model.ReportLine = numbered 1 (steps_of c.args.steps.now) in
    let i = c.loop-i.i in
    let x : model.ReportLine = model.Numbered (c.loop-i.i + 1) (step_of c.index-steps-i.result) in
    let within : i < length ls = omega (arith, c.loop-i-test.true, length-numbered 1 (steps_of c.args.steps.now), length-map c.args.steps.now step_of) in
    let at : get_or ls i x ≡ x = numbered_at 1 i (steps_of c.args.steps.now) (step_of c.index-steps-i.result) x (omega (arith, c.loop-i-test.true, length-map c.args.steps.now step_of)) (get_or-map step_of c.args.steps.now i c.index-steps-i.result ∙ ap step_of (sym c.index-steps-i.is)) ∙ ap (λ (k : ℕ). model.Numbered k (step_of c.index-steps-i.result)) (omega arith) in
    let n = decimal (c.loop-i.i + 1) in
    let t = step_text (step_of c.index-steps-i.result) in
    let text : c.as_str.result.now ≡ line_text x ++ codes "\n" = c.as_str.ensures.value ∙ c.in_ok-text.ensures.ok ∙ sym (ap (λ (y : List ℕ). y ++ codes "\n") (append_assoc (codes "step " ++ n) (codes " ") t ∙ append_assoc (codes "step ") n (32 ∷ t)) ∙ append_assoc (codes "step ") (n ++ 32 ∷ t) (codes "\n") ∙ ap (λ (y : List ℕ). codes "step " ++ y) (append_assoc n (32 ∷ t) (codes "\n"))) in
    let p = err_from_is_err_and c.from_residual-in_err-write_line.result c.from_residual-in_err-write_line.ensures.1 in
    rw (p.1, p.2) (stops_later c.in_err-write_line.field-0.0 _ _ _ _ _ _ _ _ _ _ (lines_text (take i ls)) c.as_str.result.now (lines_text (drop (i + 1) ls)) (lines_text ls) c.loop-i.invariant c.in_err-write_line.ensures.fault (lines_split ls i x within at ∙ ap (λ (t : List ℕ). lines_text (take i ls) ++ (t ++ lines_text (drop (i + 1) ls))) (sym text)))

pub loop-i-preserved : goal.loop-i-preserved
loop-i-preserved g c =
    let ls : List model.ReportLine = numbered 1 (steps_of c.args.steps.now) in
    let i = c.loop-i.i in
    let x : model.ReportLine = model.Numbered (c.loop-i.i + 1) (step_of c.index-steps-i.result) in
    let within : i < length ls = omega (arith, c.loop-i-test.true, length-numbered 1 (steps_of c.args.steps.now), length-map c.args.steps.now step_of) in
    let at : get_or ls i x ≡ x = numbered_at 1 i (steps_of c.args.steps.now) (step_of c.index-steps-i.result) x (omega (arith, c.loop-i-test.true, length-map c.args.steps.now step_of)) (get_or-map step_of c.args.steps.now i c.index-steps-i.result ∙ ap step_of (sym c.index-steps-i.is)) ∙ ap (λ (k : ℕ). model.Numbered k (step_of c.index-steps-i.result)) (omega arith) in
    let n = decimal (c.loop-i.i + 1) in
    let t = step_text (step_of c.index-steps-i.result) in
    let text : c.as_str.result.now ≡ line_text x ++ codes "\n" = c.as_str.ensures.value ∙ c.in_ok-text.ensures.ok ∙ sym (ap (λ (y : List ℕ). y ++ codes "\n") (append_assoc (codes "step " ++ n) (codes " ") t ∙ append_assoc (codes "step ") n (32 ∷ t)) ∙ append_assoc (codes "step ") (n ++ 32 ∷ t) (codes "\n") ∙ ap (λ (y : List ℕ). codes "step " ++ y) (append_assoc n (32 ∷ t) (codes "\n"))) in
    wrote_more _ _ _ _ _ _ _ _ _ (lines_text (take i ls)) c.as_str.result.now (lines_text (take (i + 1) ls)) c.loop-i.invariant c.in_ok-write_line.ensures.whole (ap (λ (t : List ℕ). lines_text (take i ls) ++ t) text ∙ lines_next ls i x within at)

pub returns-clause-whole : goal.returns-clause-whole
returns-clause-whole g c =
    let ls : List model.ReportLine = numbered 1 (steps_of c.args.steps.now) in
    let all : take c.loop-i.i ls ≡ ls = take_all c.loop-i.i ls (omega (arith, c.loop-i-test.false, length-numbered 1 (steps_of c.args.steps.now), length-map c.args.steps.now step_of)) in
    wrote_more _ _ _ _ _ _ _ _ _ (lines_text (take c.loop-i.i ls)) [] (lines_text ls) c.loop-i.invariant (wrote_nothing _ _ _) (append-nil (lines_text (take c.loop-i.i ls)) ∙ ap lines_text all)
