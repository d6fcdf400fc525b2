use Rattle.std.proofs.Common.{◌∙◌, List, ℕ, sym, ap, Some}
use Rattle.resolvo_catalogue_core.specs.Listed.{listed}
use Rattle.resolve_order.proofs.PackageLemmas.{first_is, has_first}
use Rattle.resolve_order.proofs.package_lines.find_in.Goals as goal

pub returns-in_err-package : goal.returns-in_err-package
returns-in_err-package c = λ name k is at. absurd (has_first (listed c.args.catalogue.now) k (record { name = name; number = c.args.number }) at (sym is ∙ c.in_err-package.was))

pub returns : goal.returns
returns c = λ name k is at.
    let first = first_is (listed c.args.catalogue.now) name c.in_ok-package.«package» (sym is ∙ c.in_ok-package.was) in
    (c.find_beside.ensures first.0 first.1 k).1 (at ∙ ap (λ (n : List ℕ). Some (record { name = n; number = c.args.number })) (sym first.2))
