use Rattle.std.proofs.Common.{ap, sym, ◌∙◌, ◌++◌, ◌∷◌, [], Some, false, append_assoc}
use Rattle.resolvo_text.specs.View.{spec_of}
use Rattle.resolvo_catalogue_core.specs.Listed.{listed}
use Rattle.resolvo_catalogue_core.specs.Sets.{is_many}
use Rattle.resolvo_report.specs.Value.{AnyOf}
use Rattle.resolvo_checker.specs.StepClauses.{each_listed, is_outside, literal}
use Rattle.resolvo_checker.specs.Built.{literals_in, somes}
use Rattle.resolvo_checker.proofs.BuiltLemmas.{marked_fails, unmarked_fails, on_ok}
use Rattle.resolvo_checker.proofs.clause_parts.push_unmet.Goals as goal

pub returns-then-is_many : goal.returns-then-is_many
returns-then-is_many c =
    let vs = listed c.args.catalogue.now in
    let marked = sym (ap (is_many c.args.catalogue.now) c.deref.ensures) ∙ (sym c.is_many.ensures ∙ c.if-is_many.true) in
    on_ok c.push_match.result (λ e. e vs ∙ ap (λ xs. literals_in vs c.args.out.now.items ++ somes xs) (marked_fails c.args.catalogue.now (spec_of c.args.spec.now) marked)) c.push_match.ensures

pub returns : goal.returns
returns c =
    let s = spec_of c.args.spec.now in
    let vs = listed c.args.catalogue.now in
    let before = literals_in vs c.args.out.now.items in
    let others = somes (each_listed c.args.catalogue.now (is_outside s)) in
    let unmarked = sym (ap (is_many c.args.catalogue.now) c.deref.ensures) ∙ (sym c.is_many.ensures ∙ c.if-is_many.false) in
    on_ok c.push_each.result (λ e.
    e ∙ (ap (λ xs. xs ++ others) (c.in_ok-push_any.ensures vs)
    ∙ (append_assoc before (Some (literal (AnyOf c.deref-2.result.now) false) ∷ []) others
    ∙ (ap (λ n. before ++ Some (literal (AnyOf n) false) ∷ others) c.deref-2.ensures
    ∙ ap (λ xs. before ++ somes xs) (unmarked_fails c.args.catalogue.now s unmarked))))) c.push_each.ensures
