use Rattle.std.proofs.Common.{◌∙◌, ℕ, List, sym, ap}
use Rattle.std.specs.BTreeMap.{get_by_text}
use Rattle.resolvo_text.specs.View.{version_of}
use Rattle.resolvo_judge.proofs.ChosenLemmas.{package_by, package_missing}
use Rattle.resolvo_judge.proofs.SpanLemmas.{any_number}
use Rattle.resolvo_judge.proofs.chosen.Chosen.has_package_of.Goals as goal

pub returns-in-Some : goal.returns-in-Some
returns-in-Some c = λ set h.
    let x = c.args.self.now in
    let found = c.in-Some.ensures.value ∙ ap (λ (name : List ℕ). get_by_text x.packages name) c.as_str.ensures.value in
    package_by x set (version_of c.args.version.now) c.in-Some.numbers.now _ h (sym found) (any_number c.in-Some.numbers.now.entries c.is_empty.result c.is_empty.ensures.0 c.is_empty.ensures.1)

pub returns-in-None : goal.returns-in-None
returns-in-None c = λ set h.
    let x = c.args.self.now in
    let none = c.in-None.ensures.value ∙ ap (λ (name : List ℕ). get_by_text x.packages name) c.as_str.ensures.value in
    package_missing x set (version_of c.args.version.now) h (sym none)
