use Rattle.std.proofs.Common.{List, ap, refl, subst, sym, ◌∙◌}
use Rattle.std.specs.Prelude.{slice_get}
use Rattle.resolvo_text.specs.Line.{Exclude, Line}
use Rattle.resolvo_catalogue_core.specs.Listed.{listed, AreDistinct}
use Rattle.resolve_refusal.proofs.KeptLemmas.{kept_decides, none_kept}
use Rattle.resolve_refusal.proofs.lines.Texts.excludes.Goals as goal

pub returns-in-Some : goal.returns-in-Some
returns-in-Some c = λ v at. kept_decides c.args.self.catalogue.now c.kept-kept.result.lines c.kept-kept.ensures c.kept-kept.result.terms c.terms.result.now c.terms.ensures.terms c.args.line c.in-Some.rule (Exclude v c.args.word.now) c.excludes.result c.in-Some.ensures.of_line
    (λ l is. c.excludes.ensures _ _ l v (subst (λ (ls : List Line). AreDistinct (listed ls)) (sym c.kept-kept.ensures) c.versions-versions.ensures.distinct) is (ap (λ (ls : List Line). slice_get (listed ls) c.args.version.0) c.kept-kept.ensures ∙ at))

pub returns-in-None : goal.returns-in-None
returns-in-None c = λ v at. none_kept c.args.self.catalogue.now c.kept-kept.result.lines c.kept-kept.ensures c.args.line (Exclude v c.args.word.now) refl c.in-None.ensures.none
