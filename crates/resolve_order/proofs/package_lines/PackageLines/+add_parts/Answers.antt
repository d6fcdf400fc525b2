use Rattle.std.proofs.Common.{◌≡◌, ◌∙◌, ◌++◌, inl, inr, ap, sym, subst}
use Rattle.resolvo_text.specs.View.{cond_of}
use Rattle.resolvo_catalogue_core.specs.Listed.{listed}
use Rattle.resolve_order.specs.Kept.{IsKeptForAll, specs_in}
use Rattle.resolve_order.proofs.NeedLemmas.{kept_both}
use Rattle.resolve_order.proofs.package_lines.PackageLines.+add_parts.Goals as goal

pub returns-in_ok-add_parts-in-And-2-clause-added : goal.returns-in_ok-add_parts-in-And-2-clause-added
returns-in_ok-add_parts-in-And-2-clause-added t c =
    let versions = listed c.args.catalogue.now in
    let last = c.add_parts-in-And.new.self in
    let a = specs_in (cond_of c.deref.result.now) in
    let b = specs_in (cond_of c.deref-in-And.result.now) in
    let whole : specs_in (cond_of c.in-And.left.value) ++ specs_in (cond_of c.in-And.right.value) ≡ specs_in (cond_of c.args.condition.now) = elim c.in-And.is [
      | inl e ↦ ap (λ x. specs_in (cond_of x)) (sym e)
      | inr e ↦ ap (λ x. specs_in (cond_of x)) (sym e)
    ] in
    let is : a ++ b ≡ specs_in (cond_of c.args.condition.now) =
    ap (λ x. specs_in (cond_of x) ++ b) c.deref.ensures
    ∙ ap (λ x. specs_in (cond_of c.in-And.left.value) ++ specs_in (cond_of x)) c.deref-in-And.ensures
    ∙ whole in
    subst (IsKeptForAll versions last c.args.line) is
    (kept_both versions c.add_parts.new.self last c.args.line a b c.in_ok-add_parts-in-And-2.ensures.kept c.in_ok-add_parts-in-And.ensures.added c.in_ok-add_parts-in-And-2.ensures.added)
