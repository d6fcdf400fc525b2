use Rattle.std.proofs.Common.{◌∙◌, ℕ, List, not, sym, ap}
use Rattle.std.specs.BTreeMap.{get_by_text}
use Rattle.resolvo_text.specs.View.{spec_of}
use Rattle.resolvo_judge.proofs.ChosenLemmas.{within_by, within_none}
use Rattle.resolvo_judge.proofs.chosen.Chosen.are_within.Goals as goal

pub returns-in-Some : goal.returns-in-Some
returns-in-Some c = λ set h.
    let x = c.args.self.now in
    let found = c.in-Some.ensures.value ∙ ap (λ (name : List ℕ). get_by_text x.packages name) c.as_str.ensures.value in
    ap not c.has_outside.ensures ∙ within_by x set (spec_of c.args.spec.now) c.in-Some.numbers.now h (sym found)

pub returns-in-None : goal.returns-in-None
returns-in-None c = λ set h.
    let x = c.args.self.now in
    let none = c.in-None.ensures.value ∙ ap (λ (name : List ℕ). get_by_text x.packages name) c.as_str.ensures.value in
    within_none x set (spec_of c.args.spec.now) h (sym none)
