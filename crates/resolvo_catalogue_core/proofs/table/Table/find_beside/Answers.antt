use Rattle.std.proofs.Common.{◌∙◌, Option, sym, ap}
use Rattle.std.specs.Option.{option_map}
use Rattle.resolvo_text.specs.Line.{Version}
use Rattle.resolvo_catalogue_core.specs.Listed.{name_at}
use Rattle.resolvo_catalogue_core.specs.Questions.{number_of}
use Rattle.resolvo_catalogue_core.specs.Table.{number_in, package_named}
use Rattle.resolvo_catalogue_core.specs.declared.package.Package.{Package}
use Rattle.resolvo_catalogue_core.proofs.KeptLemmas.{kept_is, package_kept}
use Rattle.resolvo_catalogue_core.proofs.table.Table.find_beside.Goals as goal

pub returns-in_err-package : goal.returns-in_err-package
returns-in_err-package c = λ v listed.
    let t = c.args.self.now in
    let k = c.args.version.0 in
    let at = sym c.kept_at.ensures ∙ c.in_ok-kept.was in
    let same = package_kept t c.requires k c.in_ok-kept.kept at ∙ ap (λ (w : Version). package_named t w.name) (kept_is t k c.in_ok-kept.kept v at listed) in
    ap (option_map number_of) c.from_residual-in_err-package.ensures ∙ ap (λ (o : Option Package). number_in o c.args.number) (c.in_err-package.ensures ∙ same)

pub find-requires : goal.find-requires
find-requires c =
    let t = c.args.self.now in
    let kept = c.in_ok-kept.kept in
    let at = sym c.kept_at.ensures ∙ c.in_ok-kept.was in
    (c.requires.packages (name_at t.terms.names kept.«package».raw)).kept c.in_ok-package.«package».now (sym (package_kept t c.requires c.args.version.0 kept at) ∙ sym c.in_ok-package.ensures)

pub returns : goal.returns
returns c = λ v listed.
    let t = c.args.self.now in
    let k = c.args.version.0 in
    let at = sym c.kept_at.ensures ∙ c.in_ok-kept.was in
    let same = package_kept t c.requires k c.in_ok-kept.kept at ∙ ap (λ (w : Version). package_named t w.name) (kept_is t k c.in_ok-kept.kept v at listed) in
    ap (option_map number_of) c.find.ensures ∙ ap (λ (o : Option Package). number_in o c.args.number) (c.in_ok-package.ensures ∙ same)
