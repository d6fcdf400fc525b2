use Rattle.std.proofs.Common.{ap, sym, subst, ◌∙◌, ◌∷◌, []}
use Rattle.std.specs.Option.{option_map}
use Rattle.resolvo_text.specs.View.{specs_of, version_of}
use Rattle.resolvo_catalogue_core.specs.Listed.{listed}
use Rattle.resolvo_report.specs.Value.{AnyOf, SharedBy, BitOf}
use Rattle.resolvo_report.specs.View.{atom_of}
use Rattle.resolvo_checker.specs.StepClauses.{literal, membership}
use Rattle.resolvo_checker.specs.Keys.{Extends}
use Rattle.resolvo_checker.proofs.check_step.push_derived.Goals as goal

pub returns-in_ok-push_version-in-Version-clause-extends : goal.returns-in_ok-push_version-in-Version-clause-extends
returns-in_ok-push_version-in-Version-clause-extends c = λ _.
    let p = c.args.literal.now.positive in
    let vs = listed c.args.catalogue.now in
    subst (λ a. Extends vs c.args.numbers.now c.args.out.now.items c.push_version.new.numbers c.push_version.new.out.items (literal (atom_of a) p ∷ [])) (sym c.in-Version.is)
    (c.in_ok-push_version-in-Version.ensures vs (membership (version_of c.in-Version.version) p ∷ []) (ap (λ o. option_map (λ v. membership v p) o ∷ []) (sym c.in-Some.ensures.found)))

pub returns-in_ok-push_any-in-Any-clause-extends : goal.returns-in_ok-push_any-in-Any-clause-extends
returns-in_ok-push_any-in-Any-clause-extends c = λ _.
    let p = c.args.literal.now.positive in
    let vs = listed c.args.catalogue.now in
    subst (λ a. Extends vs c.args.numbers.now c.args.out.now.items c.push_any.new.numbers c.push_any.new.out.items (literal a p ∷ [])) (ap AnyOf c.deref.ensures ∙ ap atom_of (sym c.in-Any.is))
    (c.in_ok-push_any-in-Any.ensures vs)

pub returns-in_ok-push_shared-in-Shared-clause-extends : goal.returns-in_ok-push_shared-in-Shared-clause-extends
returns-in_ok-push_shared-in-Shared-clause-extends c = λ _.
    let p = c.args.literal.now.positive in
    let vs = listed c.args.catalogue.now in
    subst (λ a. Extends vs c.args.numbers.now c.args.out.now.items c.push_shared.new.numbers c.push_shared.new.out.items (literal a p ∷ [])) (ap (λ n. SharedBy (specs_of n)) c.deref-in-Shared.ensures.value ∙ ap atom_of (sym c.in-Shared.is))
    (c.in_ok-push_shared-in-Shared.ensures vs)

pub returns-in_ok-push_outside-in-Outside-clause-extends : goal.returns-in_ok-push_outside-in-Outside-clause-extends
returns-in_ok-push_outside-in-Outside-clause-extends c = λ _.
    let p = c.args.literal.now.positive in
    let vs = listed c.args.catalogue.now in
    subst (λ a. Extends vs c.args.numbers.now c.args.out.now.items c.push_outside.new.numbers c.push_outside.new.out.items (literal a p ∷ [])) (ap atom_of (sym c.in-Outside.is))
    (c.in_ok-push_outside-in-Outside.ensures vs)

pub returns-in_ok-push_match-in-Matches-clause-extends : goal.returns-in_ok-push_match-in-Matches-clause-extends
returns-in_ok-push_match-in-Matches-clause-extends c = λ _.
    let p = c.args.literal.now.positive in
    let vs = listed c.args.catalogue.now in
    subst (λ a. Extends vs c.args.numbers.now c.args.out.now.items c.push_match.new.numbers c.push_match.new.out.items (literal a p ∷ [])) (ap atom_of (sym c.in-Matches.is))
    (c.in_ok-push_match-in-Matches.ensures vs)

pub returns-in_ok-push_bit-in-Bit-clause-extends : goal.returns-in_ok-push_bit-in-Bit-clause-extends
returns-in_ok-push_bit-in-Bit-clause-extends c = λ _.
    let p = c.args.literal.now.positive in
    let vs = listed c.args.catalogue.now in
    subst (λ a. Extends vs c.args.numbers.now c.args.out.now.items c.push_bit.new.numbers c.push_bit.new.out.items (literal a p ∷ [])) (ap (BitOf c.in-Bit.bit) c.deref-in-Bit.ensures ∙ ap atom_of (sym c.in-Bit.is))
    (c.in_ok-push_bit-in-Bit.ensures vs)
