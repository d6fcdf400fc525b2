use Rattle.std.proofs.Common.{◌≡◌, ℕ, ◌+◌, ◌<◌, List, ◌++◌, length, take, drop, get_or, map, sym, ap, ◌∙◌, arith}
use Rattle.std.specs.Prelude.{codes}
use Rattle.std.proofs.Math.ListN.{get_or-map}
use Rattle.std.proofs.lemmas.List.{length-map, get_or_default}
use Rattle.std.proofs.lemmas.Result.{err_from_is_err_and}
use Rattle.resolvo_report.specs.Value as model
use Rattle.resolvo_report.specs.Text.{line_text, lines_text}
use Rattle.resolvo_report.proofs.WriteLemmas.{wrote_more, stops_there, stops_later, lines_next, lines_split, lines_rest}
use Rattle.resolvo_report.proofs.write.write_named.Goals as goal

pub returns-in_err-text-clause-fault : goal.returns-in_err-text-clause-fault
returns-in_err-text-clause-fault g c =
    let ls : List model.ReportLine = map model.CatalogueLine c.args.lines.now in
    let i = c.loop-number.number-index in
    let p = err_from_is_err_and c.from_residual.result c.from_residual.ensures.1 in
    rw (p.1, p.2) (stops_there _ _ _ _ _ _ _ (lines_text (take i ls)) (lines_text (drop i ls)) (lines_text ls) c.loop-number.invariant (lines_rest ls i))

pub returns-in_err-write_line-clause-fault : goal.returns-in_err-write_line-clause-fault
returns-in_err-write_line-clause-fault g c =
    let ls : List model.ReportLine = map model.CatalogueLine c.args.lines.now in
    let i = c.loop-number.number-index in
    let x : model.ReportLine = model.CatalogueLine (get_or c.args.lines.now c.loop-number.number-index 0) in
    let within : i < length ls = omega (arith, c.loop-number-test.true, length-map c.args.lines.now model.CatalogueLine) in
    let at : get_or ls i x ≡ x = get_or-map model.CatalogueLine c.args.lines.now i (get_or c.args.lines.now c.loop-number.number-index 0) ∙ ap model.CatalogueLine (get_or_default c.args.lines.now i (get_or c.args.lines.now c.loop-number.number-index 0) 0 c.loop-number-test.true) in
    let text : c.as_str.result.now ≡ line_text x ++ codes "\n" = c.as_str.ensures.value ∙ c.in_ok-text.ensures.ok in
    let p = err_from_is_err_and c.from_residual-in_err-write_line.result c.from_residual-in_err-write_line.ensures.1 in
    rw (p.1, p.2) (stops_later c.in_err-write_line.field-0.0 _ _ _ _ _ _ _ _ _ _ (lines_text (take i ls)) c.as_str.result.now (lines_text (drop (i + 1) ls)) (lines_text ls) c.loop-number.invariant c.in_err-write_line.ensures.fault (lines_split ls i x within at ∙ ap (λ (t : List ℕ). lines_text (take i ls) ++ (t ++ lines_text (drop (i + 1) ls))) (sym text)))

pub loop-number-preserved : goal.loop-number-preserved
loop-number-preserved g c =
    let ls : List model.ReportLine = map model.CatalogueLine c.args.lines.now in
    let i = c.loop-number.number-index in
    let x : model.ReportLine = model.CatalogueLine (get_or c.args.lines.now c.loop-number.number-index 0) in
    let within : i < length ls = omega (arith, c.loop-number-test.true, length-map c.args.lines.now model.CatalogueLine) in
    let at : get_or ls i x ≡ x = get_or-map model.CatalogueLine c.args.lines.now i (get_or c.args.lines.now c.loop-number.number-index 0) ∙ ap model.CatalogueLine (get_or_default c.args.lines.now i (get_or c.args.lines.now c.loop-number.number-index 0) 0 c.loop-number-test.true) in
    let text : c.as_str.result.now ≡ line_text x ++ codes "\n" = c.as_str.ensures.value ∙ c.in_ok-text.ensures.ok in
    wrote_more _ _ _ _ _ _ _ _ _ (lines_text (take i ls)) c.as_str.result.now (lines_text (take (i + 1) ls)) c.loop-number.invariant c.in_ok-write_line.ensures.whole (ap (λ (t : List ℕ). lines_text (take i ls) ++ t) text ∙ lines_next ls i x within at)
