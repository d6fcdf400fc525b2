use Rattle.std.proofs.Common.{◌≡◌, ℕ, ◌+◌, ◌<◌, List, ◌++◌, length, take, drop, get_or, map, sym, ap, ◌∙◌, arith}
use Rattle.std.specs.Prelude.{codes}
use Rattle.std.proofs.Math.ListN.{get_or-map}
use Rattle.std.proofs.lemmas.List.{length-map}
use Rattle.std.proofs.lemmas.Result.{err_from_is_err_and}
use Rattle.resolvo_report.specs.Value as model
use Rattle.resolvo_report.specs.View.{messages_of}
use Rattle.resolvo_report.specs.Text.{line_text, lines_text}
use Rattle.resolvo_report.proofs.WriteLemmas.{wrote_more, stops_later, lines_next, lines_split}
use Rattle.resolvo_report.proofs.write.write_message.Goals as goal
use Rattle.std.specs.Global.{Vec}

pub returns-in_err-write_message_line-clause-fault : goal.returns-in_err-write_message_line-clause-fault
returns-in_err-write_message_line-clause-fault g c =
    let ls : List model.ReportLine = map model.Message (messages_of c.args.message.now) in
    let i = c.loop-bytes.bytes-index in
    let x : model.ReportLine = model.Message c.bytes-item.result.items in
    let within : i < length ls = omega (arith, c.loop-bytes-test.true, length-map (messages_of c.args.message.now) model.Message, length-map c.args.message.now (λ (m : Vec ℕ). m.items)) in
    let at : get_or ls i x ≡ x = get_or-map model.Message (messages_of c.args.message.now) i c.bytes-item.result.items ∙ ap model.Message (get_or-map (λ (m : Vec ℕ). m.items) c.args.message.now i c.bytes-item.result ∙ ap (λ (m : Vec ℕ). m.items) (sym c.bytes-item.is)) in
    let text : codes "| " ++ c.deref.result.now ++ codes "\n" ≡ line_text x ++ codes "\n" = ap (λ (t : List ℕ). codes "| " ++ t ++ codes "\n") c.deref.ensures.value in
    let p = err_from_is_err_and c.from_residual.result c.from_residual.ensures.1 in
    rw (p.1, p.2) (stops_later c.in_err-write_message_line.field-0.0 _ _ _ _ _ _ _ _ _ _ (lines_text (take i ls)) (codes "| " ++ c.deref.result.now ++ codes "\n") (lines_text (drop (i + 1) ls)) (lines_text ls) c.loop-bytes.invariant c.in_err-write_message_line.ensures.fault (lines_split ls i x within at ∙ ap (λ (t : List ℕ). lines_text (take i ls) ++ (t ++ lines_text (drop (i + 1) ls))) (sym text)))

pub loop-bytes-preserved : goal.loop-bytes-preserved
loop-bytes-preserved g c =
    let ls : List model.ReportLine = map model.Message (messages_of c.args.message.now) in
    let i = c.loop-bytes.bytes-index in
    let x : model.ReportLine = model.Message c.bytes-item.result.items in
    let within : i < length ls = omega (arith, c.loop-bytes-test.true, length-map (messages_of c.args.message.now) model.Message, length-map c.args.message.now (λ (m : Vec ℕ). m.items)) in
    let at : get_or ls i x ≡ x = get_or-map model.Message (messages_of c.args.message.now) i c.bytes-item.result.items ∙ ap model.Message (get_or-map (λ (m : Vec ℕ). m.items) c.args.message.now i c.bytes-item.result ∙ ap (λ (m : Vec ℕ). m.items) (sym c.bytes-item.is)) in
    let text : codes "| " ++ c.deref.result.now ++ codes "\n" ≡ line_text x ++ codes "\n" = ap (λ (t : List ℕ). codes "| " ++ t ++ codes "\n") c.deref.ensures.value in
    wrote_more _ _ _ _ _ _ _ _ _ (lines_text (take i ls)) (codes "| " ++ c.deref.result.now ++ codes "\n") (lines_text (take (i + 1) ls)) c.loop-bytes.invariant c.in_ok-write_message_line.ensures.whole (ap (λ (t : List ℕ). lines_text (take i ls) ++ t) text ∙ lines_next ls i x within at)
