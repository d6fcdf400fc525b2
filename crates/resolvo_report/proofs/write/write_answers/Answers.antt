use Rattle.std.proofs.Common.{◌≡◌, ℕ, ◌+◌, ◌<◌, List, ◌++◌, length, take, drop, get_or, map, sym, ap, ◌∙◌, arith}
use Rattle.std.specs.Prelude.{codes}
use Rattle.std.proofs.Math.ListN.{get_or-map}
use Rattle.std.proofs.lemmas.List.{length-map}
use Rattle.std.proofs.lemmas.Result.{err_from_is_err_and}
use Rattle.resolvo_report.specs.Value as model
use Rattle.resolvo_report.specs.View.{answer_line_of, answer_lines_of}
use Rattle.resolvo_report.specs.Text.{line_text, lines_text}
use Rattle.resolvo_report.proofs.WriteLemmas.{wrote_more, stops_there, stops_later, lines_next, lines_split, lines_rest}
use Rattle.resolvo_report.proofs.write.write_answers.Goals as goal

pub returns-in_err-push_answer-clause-fault : goal.returns-in_err-push_answer-clause-fault
returns-in_err-push_answer-clause-fault g c =
    let ls : List model.ReportLine = map model.Answer (answer_lines_of c.args.lines.now) in
    let i = c.loop-line.line-index in
    let p = err_from_is_err_and c.from_residual.result c.from_residual.ensures.1 in
    rw (p.1, p.2) (stops_there _ _ _ _ _ _ _ (lines_text (take i ls)) (lines_text (drop i ls)) (lines_text ls) c.loop-line.invariant (lines_rest ls i))

pub returns-in_err-push-clause-fault : goal.returns-in_err-push-clause-fault
returns-in_err-push-clause-fault g c =
    let ls : List model.ReportLine = map model.Answer (answer_lines_of c.args.lines.now) in
    let i = c.loop-line.line-index in
    let p = err_from_is_err_and c.from_residual-in_err-push.result c.from_residual-in_err-push.ensures.1 in
    rw (p.1, p.2) (stops_there _ _ _ _ _ _ _ (lines_text (take i ls)) (lines_text (drop i ls)) (lines_text ls) c.loop-line.invariant (lines_rest ls i))

pub returns-in_err-write_bytes-clause-fault : goal.returns-in_err-write_bytes-clause-fault
returns-in_err-write_bytes-clause-fault g c =
    let ls : List model.ReportLine = map model.Answer (answer_lines_of c.args.lines.now) in
    let i = c.loop-line.line-index in
    let x : model.ReportLine = model.Answer (answer_line_of c.line-item.result) in
    let within : i < length ls = omega (arith, c.loop-line-test.true, length-map (answer_lines_of c.args.lines.now) model.Answer, length-map c.args.lines.now answer_line_of) in
    let at : get_or ls i x ≡ x = get_or-map model.Answer (answer_lines_of c.args.lines.now) i (answer_line_of c.line-item.result) ∙ ap model.Answer (get_or-map answer_line_of c.args.lines.now i c.line-item.result ∙ ap answer_line_of (sym c.line-item.is)) in
    let pushed : c.push_answer.new.out.items ≡ line_text x = c.in_ok-push_answer.ensures ∙ ap (λ (t : List ℕ). t ++ line_text x) c.clear.ensures.items in
    let text : c.as_slice.result.now ≡ line_text x ++ codes "\n" = c.as_slice.ensures.value ∙ c.in_ok-push.ensures.items ∙ ap (λ (t : List ℕ). t ++ codes "\n") pushed in
    let p = err_from_is_err_and c.from_residual-in_err-write_bytes.result c.from_residual-in_err-write_bytes.ensures.1 in
    rw (p.1, p.2) (stops_later c.in_err-write_bytes.field-0.0 _ _ _ _ _ _ _ _ _ _ (lines_text (take i ls)) c.as_slice.result.now (lines_text (drop (i + 1) ls)) (lines_text ls) c.loop-line.invariant c.in_err-write_bytes.ensures.fault (lines_split ls i x within at ∙ ap (λ (t : List ℕ). lines_text (take i ls) ++ (t ++ lines_text (drop (i + 1) ls))) (sym text)))

pub loop-line-preserved : goal.loop-line-preserved
loop-line-preserved g c =
    let ls : List model.ReportLine = map model.Answer (answer_lines_of c.args.lines.now) in
    let i = c.loop-line.line-index in
    let x : model.ReportLine = model.Answer (answer_line_of c.line-item.result) in
    let within : i < length ls = omega (arith, c.loop-line-test.true, length-map (answer_lines_of c.args.lines.now) model.Answer, length-map c.args.lines.now answer_line_of) in
    let at : get_or ls i x ≡ x = get_or-map model.Answer (answer_lines_of c.args.lines.now) i (answer_line_of c.line-item.result) ∙ ap model.Answer (get_or-map answer_line_of c.args.lines.now i c.line-item.result ∙ ap answer_line_of (sym c.line-item.is)) in
    let pushed : c.push_answer.new.out.items ≡ line_text x = c.in_ok-push_answer.ensures ∙ ap (λ (t : List ℕ). t ++ line_text x) c.clear.ensures.items in
    let text : c.as_slice.result.now ≡ line_text x ++ codes "\n" = c.as_slice.ensures.value ∙ c.in_ok-push.ensures.items ∙ ap (λ (t : List ℕ). t ++ codes "\n") pushed in
    wrote_more _ _ _ _ _ _ _ _ _ (lines_text (take i ls)) c.as_slice.result.now (lines_text (take (i + 1) ls)) c.loop-line.invariant c.in_ok-write_bytes.ensures.whole (ap (λ (t : List ℕ). lines_text (take i ls) ++ t) text ∙ lines_next ls i x within at)
