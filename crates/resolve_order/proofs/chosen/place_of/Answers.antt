use Rattle.std.proofs.Common.{◌∙◌, List, Some, None, refl, sym, ap, subst}
use Rattle.std.specs.Prelude.{slice_get}
use Rattle.resolvo_catalogue_core.specs.Listed.{listed, kept_version}
use Rattle.resolvo_catalogue_core.specs.declared.versions.KeptVersion.{KeptVersion}
use Rattle.resolve_order.specs.Kept.{IsPlaceOf}
use Rattle.resolve_order.proofs.PackageLemmas.{has_first, version_kept}
use Rattle.resolve_order.proofs.chosen.place_of.Goals as goal

pub returns-in_err-listed : goal.returns-in_err-listed
returns-in_err-listed c = subst (IsPlaceOf (listed c.args.catalogue.now) c.args.version.0) (sym c.from_residual.ensures) (version_kept c.kept-kept.result c.args.catalogue.now c.args.version.0 None c.lines_are_kept.ensures c.kept-kept.ensures
    (sym c.in_err-listed.was ∙ c.kept_at.ensures ∙ ap (λ (vs : List KeptVersion). slice_get vs c.args.version.0) c.versions.ensures.value))

pub returns-in_err-package : goal.returns-in_err-package
returns-in_err-package c =
    let at = version_kept c.kept-kept.result c.args.catalogue.now c.args.version.0 (Some c.in_ok-listed.listed) c.lines_are_kept.ensures c.kept-kept.ensures
    (sym c.in_ok-listed.was ∙ c.kept_at.ensures ∙ ap (λ (vs : List KeptVersion). slice_get vs c.args.version.0) c.versions.ensures.value) in
    absurd (has_first (listed c.args.catalogue.now) c.args.version.0 (kept_version c.kept-kept.result.terms.names c.in_ok-listed.listed) at (sym c.kept_package.ensures ∙ c.in_err-package.was))

pub returns : goal.returns
returns c =
    let at = version_kept c.kept-kept.result c.args.catalogue.now c.args.version.0 (Some c.in_ok-listed.listed) c.lines_are_kept.ensures c.kept-kept.ensures
    (sym c.in_ok-listed.was ∙ c.kept_at.ensures ∙ ap (λ (vs : List KeptVersion). slice_get vs c.args.version.0) c.versions.ensures.value) in
    (kept_version c.kept-kept.result.terms.names c.in_ok-listed.listed, at, sym c.kept_package.ensures ∙ c.in_ok-package.was, refl)
