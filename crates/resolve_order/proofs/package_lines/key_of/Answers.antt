use Rattle.std.proofs.Common.{◌∙◌, sym, ap, subst}
use Rattle.std.specs.Option.{option_map}
use Rattle.resolvo_text.specs.declared.spec.Span.{Span}
use Rattle.resolvo_catalogue_core.specs.Listed.{listed}
use Rattle.resolvo_catalogue_core.specs.Questions.{number_of}
use Rattle.resolve_order.specs.Kept.{IsKeyOf}
use Rattle.resolve_order.proofs.NeedLemmas.{not_some}
use Rattle.resolve_order.proofs.package_lines.key_of.Goals as goal

pub returns-in-Some : goal.returns-in-Some
returns-in-Some c = λ s k of key.
    let at = subst (λ (span : Span). IsKeyOf (listed c.args.catalogue.now) s.name span k) (sym of.1 ∙ c.in-One.is) key in
    ap (option_map number_of) (sym c.in-Some.is) ∙ c.find_in.ensures s.name k of.0 at

pub returns-in-None : goal.returns-in-None
returns-in-None c = λ s k of key.
    let at = subst (λ (span : Span). IsKeyOf (listed c.args.catalogue.now) s.name span k) (sym of.1 ∙ c.in-One.is) key in
    absurd (not_some _ k (ap (option_map number_of) c.in-None.is) (c.find_in.ensures s.name k of.0 at))

pub returns-in-Any : goal.returns-in-Any
returns-in-Any c = λ s k of key. of.0 ∙ subst (λ (span : Span). IsKeyOf (listed c.args.catalogue.now) s.name span k) (sym of.1 ∙ c.in-Any.is) key

pub returns-in-Range : goal.returns-in-Range
returns-in-Range c = λ s k of key. of.0 ∙ subst (λ (span : Span). IsKeyOf (listed c.args.catalogue.now) s.name span k) (sym of.1 ∙ c.in-Range.is) key
