use Rattle.std.proofs.Common.{ap, sym, subst, ◌∙◌, ◌∷◌, [], Some}
use Rattle.resolvo_text.specs.View.{spec_of, specs_of}
use Rattle.resolvo_report.specs.Value.{AnyOf, SharedBy, OutsideOf, MatchesOf, BitOf}
use Rattle.resolvo_checker.specs.StepClauses.{literal}
use Rattle.resolvo_checker.specs.Built.{literal_of}
use Rattle.resolvo_checker.specs.Keys.{Extends}
use Rattle.resolvo_checker.proofs.BuiltLemmas.{one_literal}
use Rattle.resolvo_checker.proofs.clause_atoms.push_literal.Goals as goal

pub returns-in_ok-push_any-in-Any : goal.returns-in_ok-push_any-in-Any
returns-in_ok-push_any-in-Any c = λ vs clause e.
    let p = c.args.built.now.positive in
    subst (Extends vs c.args.numbers.now c.args.out.now.items c.push_any.new.numbers c.push_any.new.out.items)
    (one_literal clause (literal (AnyOf c.deref.result.now) p) (e ∙ (ap (λ a. literal_of vs a p ∷ []) c.in-Any.is ∙ ap (λ n. Some (literal (AnyOf n) p) ∷ []) (sym c.deref.ensures))))
    (c.in_ok-push_any-in-Any.ensures vs)

pub returns-in_ok-push_shared-in-Shared : goal.returns-in_ok-push_shared-in-Shared
returns-in_ok-push_shared-in-Shared c = λ vs clause e.
    let p = c.args.built.now.positive in
    subst (Extends vs c.args.numbers.now c.args.out.now.items c.push_shared.new.numbers c.push_shared.new.out.items)
    (one_literal clause (literal (SharedBy (specs_of c.deref-in-Shared.result.now)) p) (e ∙ (ap (λ a. literal_of vs a p ∷ []) c.in-Shared.is ∙ ap (λ n. Some (literal (SharedBy (specs_of n)) p) ∷ []) (sym c.deref-in-Shared.ensures.value))))
    (c.in_ok-push_shared-in-Shared.ensures vs)

pub returns-in_ok-push_outside-in-Outside : goal.returns-in_ok-push_outside-in-Outside
returns-in_ok-push_outside-in-Outside c = λ vs clause e.
    let p = c.args.built.now.positive in
    subst (Extends vs c.args.numbers.now c.args.out.now.items c.push_outside.new.numbers c.push_outside.new.out.items)
    (one_literal clause (literal (OutsideOf (spec_of c.in-Outside.spec)) p) (e ∙ ap (λ a. literal_of vs a p ∷ []) c.in-Outside.is))
    (c.in_ok-push_outside-in-Outside.ensures vs)

pub returns-in_ok-push_match-in-Matches : goal.returns-in_ok-push_match-in-Matches
returns-in_ok-push_match-in-Matches c = λ vs clause e.
    let p = c.args.built.now.positive in
    subst (Extends vs c.args.numbers.now c.args.out.now.items c.push_match.new.numbers c.push_match.new.out.items)
    (one_literal clause (literal (MatchesOf (spec_of c.in-Matches.spec)) p) (e ∙ ap (λ a. literal_of vs a p ∷ []) c.in-Matches.is))
    (c.in_ok-push_match-in-Matches.ensures vs)

pub returns-in_ok-push_bit-in-Bit : goal.returns-in_ok-push_bit-in-Bit
returns-in_ok-push_bit-in-Bit c = λ vs clause e.
    let p = c.args.built.now.positive in
    subst (Extends vs c.args.numbers.now c.args.out.now.items c.push_bit.new.numbers c.push_bit.new.out.items)
    (one_literal clause (literal (BitOf c.in-Bit.bit c.deref-in-Bit.result.now) p) (e ∙ (ap (λ a. literal_of vs a p ∷ []) c.in-Bit.is ∙ ap (λ n. Some (literal (BitOf c.in-Bit.bit n) p) ∷ []) (sym c.deref-in-Bit.ensures))))
    (c.in_ok-push_bit-in-Bit.ensures vs)
