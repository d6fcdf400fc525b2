use Rattle.std.proofs.Common.{◌∙◌, ◌++◌, ap}
use Rattle.resolvo_text.specs.View.{spec_of}
use Rattle.resolvo_catalogue_core.specs.Listed.{listed}
use Rattle.resolvo_checker.specs.Built.{literals_in}
use Rattle.resolvo_checker.proofs.Packages.{picked_are}
use Rattle.resolvo_checker.proofs.clause_parts.push_each.Goals as goal

pub returns : goal.returns
returns c =
    let vs = listed c.args.catalogue.now in
    c.in_ok-push_numbers.ensures vs
    ∙ ap (λ xs. literals_in vs c.args.out.now.items ++ xs) (picked_are vs (spec_of c.args.spec.now) c.args.outside c.in_ok-numbers.numbers.keys c.in_ok-numbers.ensures)
