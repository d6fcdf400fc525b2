use Rattle.std.proofs.Common.{List, ℕ, [], ◌++◌, map, refl, sym, ap, ◌∙◌, append_assoc, append-nil}
use Rattle.std.specs.Prelude.{codes}
use Rattle.std.proofs.lemmas.Result.{err_from_is_err_and}
use Rattle.resolvo_report.specs.Value as model
use Rattle.resolvo_report.specs.View.{steps_of, messages_of}
use Rattle.resolvo_report.specs.Text.{lines_text, numbered, report_text}
use Rattle.resolvo_report.proofs.WriteLemmas.{wrote_more, stops_first, stops_later, refused_text, if_err, on_ok}
use Rattle.resolvo_report.proofs.write.write_refused.Goals as goal

pub returns-in_err-write_line-clause-fault : goal.returns-in_err-write_line-clause-fault
returns-in_err-write_line-clause-fault g c =
    let h = codes "refused\n" in
    let cat = lines_text (map model.CatalogueLine c.args.catalogue.now) in
    let req = lines_text (map model.RequestLine c.args.request.now) in
    let n = lines_text (numbered 1 (steps_of c.args.steps.now)) in
    let m = lines_text (map model.Message (messages_of c.args.message.now)) in
    let all = report_text (model.Refused c.args.catalogue.now c.args.request.now (steps_of c.args.steps.now) (messages_of c.args.message.now)) in
    let is = refused_text c.args.catalogue.now c.args.request.now (steps_of c.args.steps.now) (messages_of c.args.message.now) in
    let is2 = is ∙ sym (append_assoc h cat (req ++ (n ++ m))) in
    let is3 = is2 ∙ sym (append_assoc (h ++ cat) req (n ++ m)) in
    let is4 = is3 ∙ sym (append_assoc (h ++ cat ++ req) n m) in
    let p = err_from_is_err_and c.from_residual.result c.from_residual.ensures.1 in
    rw (p.1, p.2) (stops_first c.in_err-write_line.field-0.0 _ _ _ _ _ _ _ h (cat ++ (req ++ (n ++ m))) all c.in_err-write_line.ensures.fault is)

pub returns-in_err-write_named-clause-fault : goal.returns-in_err-write_named-clause-fault
returns-in_err-write_named-clause-fault g c =
    let h = codes "refused\n" in
    let cat = lines_text (map model.CatalogueLine c.args.catalogue.now) in
    let req = lines_text (map model.RequestLine c.args.request.now) in
    let n = lines_text (numbered 1 (steps_of c.args.steps.now)) in
    let m = lines_text (map model.Message (messages_of c.args.message.now)) in
    let all = report_text (model.Refused c.args.catalogue.now c.args.request.now (steps_of c.args.steps.now) (messages_of c.args.message.now)) in
    let is = refused_text c.args.catalogue.now c.args.request.now (steps_of c.args.steps.now) (messages_of c.args.message.now) in
    let is2 = is ∙ sym (append_assoc h cat (req ++ (n ++ m))) in
    let is3 = is2 ∙ sym (append_assoc (h ++ cat) req (n ++ m)) in
    let is4 = is3 ∙ sym (append_assoc (h ++ cat ++ req) n m) in
    let p = err_from_is_err_and c.from_residual-in_err-write_named.result c.from_residual-in_err-write_named.ensures.1 in
    rw (p.1, p.2) (stops_later c.in_err-write_named.field-0.0 _ _ _ _ _ _ _ _ _ _ h cat (req ++ (n ++ m)) all c.in_ok-write_line.ensures.whole c.in_err-write_named.ensures.fault is)

pub returns-in_err-write_asked-clause-fault : goal.returns-in_err-write_asked-clause-fault
returns-in_err-write_asked-clause-fault g c =
    let h = codes "refused\n" in
    let cat = lines_text (map model.CatalogueLine c.args.catalogue.now) in
    let req = lines_text (map model.RequestLine c.args.request.now) in
    let n = lines_text (numbered 1 (steps_of c.args.steps.now)) in
    let m = lines_text (map model.Message (messages_of c.args.message.now)) in
    let all = report_text (model.Refused c.args.catalogue.now c.args.request.now (steps_of c.args.steps.now) (messages_of c.args.message.now)) in
    let is = refused_text c.args.catalogue.now c.args.request.now (steps_of c.args.steps.now) (messages_of c.args.message.now) in
    let is2 = is ∙ sym (append_assoc h cat (req ++ (n ++ m))) in
    let is3 = is2 ∙ sym (append_assoc (h ++ cat) req (n ++ m)) in
    let is4 = is3 ∙ sym (append_assoc (h ++ cat ++ req) n m) in
    let two = wrote_more _ _ _ _ _ _ _ _ _ h cat (h ++ cat) c.in_ok-write_line.ensures.whole c.in_ok-write_named.ensures.whole refl in
    let p = err_from_is_err_and c.from_residual-in_err-write_asked.result c.from_residual-in_err-write_asked.ensures.1 in
    rw (p.1, p.2) (stops_later c.in_err-write_asked.field-0.0 _ _ _ _ _ _ _ _ _ _ (h ++ cat) req (n ++ m) all two c.in_err-write_asked.ensures.fault is2)

pub returns-in_err-write_steps-clause-fault : goal.returns-in_err-write_steps-clause-fault
returns-in_err-write_steps-clause-fault g c =
    let h = codes "refused\n" in
    let cat = lines_text (map model.CatalogueLine c.args.catalogue.now) in
    let req = lines_text (map model.RequestLine c.args.request.now) in
    let n = lines_text (numbered 1 (steps_of c.args.steps.now)) in
    let m = lines_text (map model.Message (messages_of c.args.message.now)) in
    let all = report_text (model.Refused c.args.catalogue.now c.args.request.now (steps_of c.args.steps.now) (messages_of c.args.message.now)) in
    let is = refused_text c.args.catalogue.now c.args.request.now (steps_of c.args.steps.now) (messages_of c.args.message.now) in
    let is2 = is ∙ sym (append_assoc h cat (req ++ (n ++ m))) in
    let is3 = is2 ∙ sym (append_assoc (h ++ cat) req (n ++ m)) in
    let is4 = is3 ∙ sym (append_assoc (h ++ cat ++ req) n m) in
    let two = wrote_more _ _ _ _ _ _ _ _ _ h cat (h ++ cat) c.in_ok-write_line.ensures.whole c.in_ok-write_named.ensures.whole refl in
    let three = wrote_more _ _ _ _ _ _ _ _ _ (h ++ cat) req (h ++ cat ++ req) two c.in_ok-write_asked.ensures.whole refl in
    let p = err_from_is_err_and c.from_residual-in_err-write_steps.result c.from_residual-in_err-write_steps.ensures.1 in
    rw (p.1, p.2) (stops_later c.in_err-write_steps.field-0.0 _ _ _ _ _ _ _ _ _ _ (h ++ cat ++ req) n m all three c.in_err-write_steps.ensures.fault is3)

pub returns-clause-whole : goal.returns-clause-whole
returns-clause-whole g c =
    let h = codes "refused\n" in
    let cat = lines_text (map model.CatalogueLine c.args.catalogue.now) in
    let req = lines_text (map model.RequestLine c.args.request.now) in
    let n = lines_text (numbered 1 (steps_of c.args.steps.now)) in
    let m = lines_text (map model.Message (messages_of c.args.message.now)) in
    let all = report_text (model.Refused c.args.catalogue.now c.args.request.now (steps_of c.args.steps.now) (messages_of c.args.message.now)) in
    let is = refused_text c.args.catalogue.now c.args.request.now (steps_of c.args.steps.now) (messages_of c.args.message.now) in
    let is2 = is ∙ sym (append_assoc h cat (req ++ (n ++ m))) in
    let is3 = is2 ∙ sym (append_assoc (h ++ cat) req (n ++ m)) in
    let is4 = is3 ∙ sym (append_assoc (h ++ cat ++ req) n m) in
    let two = wrote_more _ _ _ _ _ _ _ _ _ h cat (h ++ cat) c.in_ok-write_line.ensures.whole c.in_ok-write_named.ensures.whole refl in
    let three = wrote_more _ _ _ _ _ _ _ _ _ (h ++ cat) req (h ++ cat ++ req) two c.in_ok-write_asked.ensures.whole refl in
    let four = wrote_more _ _ _ _ _ _ _ _ _ (h ++ cat ++ req) n (h ++ cat ++ req ++ n) three c.in_ok-write_steps.ensures.whole refl in
    on_ok c.write_message.result (λ w. wrote_more _ _ _ _ _ _ _ _ _ (h ++ cat ++ req ++ n) m all four w (sym is4)) c.write_message.ensures.whole

pub returns-clause-fault : goal.returns-clause-fault
returns-clause-fault g c =
    let h = codes "refused\n" in
    let cat = lines_text (map model.CatalogueLine c.args.catalogue.now) in
    let req = lines_text (map model.RequestLine c.args.request.now) in
    let n = lines_text (numbered 1 (steps_of c.args.steps.now)) in
    let m = lines_text (map model.Message (messages_of c.args.message.now)) in
    let all = report_text (model.Refused c.args.catalogue.now c.args.request.now (steps_of c.args.steps.now) (messages_of c.args.message.now)) in
    let is = refused_text c.args.catalogue.now c.args.request.now (steps_of c.args.steps.now) (messages_of c.args.message.now) in
    let is2 = is ∙ sym (append_assoc h cat (req ++ (n ++ m))) in
    let is3 = is2 ∙ sym (append_assoc (h ++ cat) req (n ++ m)) in
    let is4 = is3 ∙ sym (append_assoc (h ++ cat ++ req) n m) in
    let two = wrote_more _ _ _ _ _ _ _ _ _ h cat (h ++ cat) c.in_ok-write_line.ensures.whole c.in_ok-write_named.ensures.whole refl in
    let three = wrote_more _ _ _ _ _ _ _ _ _ (h ++ cat) req (h ++ cat ++ req) two c.in_ok-write_asked.ensures.whole refl in
    let four = wrote_more _ _ _ _ _ _ _ _ _ (h ++ cat ++ req) n (h ++ cat ++ req ++ n) three c.in_ok-write_steps.ensures.whole refl in
    if_err c.write_message.result (λ e f. stops_later e _ _ _ _ _ _ _ _ _ _ (h ++ cat ++ req ++ n) m [] all four f (is4 ∙ ap (λ (t : List ℕ). (h ++ cat ++ req ++ n) ++ t) (sym (append-nil m)))) c.write_message.ensures.fault
