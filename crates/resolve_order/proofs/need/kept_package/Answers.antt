use Rattle.std.proofs.Common.{◌≡◌, ◌∙◌, ℕ, List, Option, Some, length, ap, sym, subst}
use Rattle.std.specs.Prelude.{slice_get, ◌==◌}
use Rattle.std.specs.Option.{option_map}
use Rattle.std.proofs.lemmas.Option.{slice_get-map}
use Rattle.resolvo_text.specs.Line.{Line}
use Rattle.resolvo_terms.specs.Terms.{Terms, AreSound}
use Rattle.resolvo_terms.specs.Known.{name_text}
use Rattle.resolvo_catalogue_core.specs.Kept.{places_from}
use Rattle.resolvo_catalogue_core.specs.Listed.{listed}
use Rattle.resolvo_catalogue_core.specs.Questions.{number_of}
use Rattle.resolvo_catalogue_core.specs.declared.rule.VersionNo.{VersionNo}
use Rattle.resolvo_catalogue_core.specs.declared.versions.KeptVersion.{KeptVersion}
use Rattle.resolve_order.specs.Kept.{first_of}
use Rattle.resolve_order.proofs.PackageLemmas.{first_numbered, within_names}
use Rattle.resolve_order.proofs.need.kept_package.Goals as goal

pub returns-in-Some : goal.returns-in-Some
returns-in-Some c =
    let k = c.args.kept.now in
    let numbers = c.versions_of.result.now in
    let some : slice_get (places_from (λ (v : KeptVersion). v.«package».raw == c.args.name.raw) 0 k.versions) 0 ≡ Some c.in-Some.first.now.0 =
    ap (λ (xs : List ℕ). slice_get xs 0) (sym c.versions_of.ensures) ∙ slice_get-map number_of numbers 0 ∙ ap (λ (o : Option VersionNo). option_map number_of o) (sym c.in-Some.ensures.value) in
    let within = within_names (length k.terms.names) c.args.name.raw 0 c.in-Some.first.now.0 k.versions c.lines_are_kept.ensures.named some in
    let first = first_numbered k c.args.name numbers (Some c.in-Some.first.now) c.lines_are_kept.ensures (subst AreSound c.terms-terms.ensures.terms c.ids_are_once.ensures) within c.versions_of.ensures c.in-Some.ensures.value in
    subst (λ (ls : List Line). Some c.in-Some.first.now.0 ≡ first_of (listed ls) (name_text k.terms c.args.name)) c.requires first

pub returns-in-None : goal.returns-in-None
returns-in-None c = c.package_of.ensures ∙ ap (λ (text : List ℕ). first_of (listed c.args.catalogue.now) text) (c.name.ensures ∙ ap (λ (t : Terms). name_text t c.args.name) c.terms-terms.ensures.terms)
