use Rattle.std.proofs.Common.{◌∙◌, sym}
use Rattle.std.proofs.lemmas.Bool.{eqb-true}
use Rattle.resolve_order.specs.Keys.{number_of, places_of}
use Rattle.resolve_order.proofs.KeyLemmas.{none_kept}
use Rattle.resolve_order.proofs.package_lines.PackageLines.is_empty.Goals as goal

pub returns-clause-none : goal.returns-clause-none
returns-clause-none c = λ none k i. none_kept c.args.self.now.lines.items (number_of (places_of c.args.self.now.keys.places) k) i (sym c.args.self.now.lines.ok.0 ∙ eqb-true _ _ (sym c.is_empty.ensures ∙ none))
