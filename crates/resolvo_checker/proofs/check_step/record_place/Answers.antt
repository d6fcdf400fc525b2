use Rattle.std.proofs.Common.{◌≡◌, sym, subst, ◌++◌, ◌∷◌, [], Some, arith, slice_set, true}
use Rattle.std.proofs.lemmas.Option.{slice_get_within}
use Rattle.resolvo_text.specs.View.{version_of}
use Rattle.resolvo_catalogue_core.specs.Listed.{listed}
use Rattle.resolvo_report.specs.View.{step_of}
use Rattle.resolvo_checker.specs.Proof.{follows}
use Rattle.resolvo_checker.specs.CheckStep.{Given}
use Rattle.resolvo_checker.proofs.CheckLemmas.{digit_given, not_digit, other_step}
use Rattle.resolvo_checker.proofs.check_step.record_place.Goals as goal

pub returns-in-Some-clause-given : goal.returns-in-Some-clause-given
returns-in-Some-clause-given c = λ request earlier distinct there follow given.
    let w = version_of c.in-Digit.version in
    let within = slice_get_within (listed c.args.catalogue.now) c.in-Some.number.0 w c.in-Some.ensures.found in
    subst (λ s. Given c.args.catalogue.now (slice_set c.args.places.now.items c.in-Some.number.0 (Some c.in-Digit.place)) (earlier ++ step_of s ∷ [])) (sym c.in-Digit.is)
    (digit_given c.args.catalogue.now c.args.places.now.items earlier w c.in-Digit.place c.in-Digit.bit c.in-Some.number.0 distinct c.in-Some.ensures.found (omega (arith, within, c.requires)) (subst (λ s. follows c.args.catalogue.now request earlier (step_of s) ≡ true) c.in-Digit.is follow) given)

pub returns-in_default : goal.returns-in_default
returns-in_default c = record { long = c.requires; given = λ request earlier distinct there follow given. not_digit c.args.catalogue.now c.args.places.now.items earlier (step_of c.args.step.now) (other_step c.args.step.now c.in_default.not-Digit) given }
