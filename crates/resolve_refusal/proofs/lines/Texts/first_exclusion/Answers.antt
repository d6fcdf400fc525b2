use Rattle.std.proofs.Common.{◌≡◌, ◌+◌, ◌<◌, ◌∙◌, Some, length, sym, subst, arith}
use Rattle.std.specs.Prelude.{slice_get}
use Rattle.std.proofs.lemmas.Bool.{false≢true}
use Rattle.resolvo_text.specs.Line.{Version}
use Rattle.resolvo_catalogue_core.specs.Listed.{listed}
use Rattle.resolve_refusal.specs.Lines.{ExcludesAt}
use Rattle.resolve_refusal.proofs.FindLemmas.{below_more}
use Rattle.resolve_refusal.proofs.ForbidLemmas.{excluded_behind}
use Rattle.resolve_refusal.proofs.lines.Texts.first_exclusion.Goals as goal

pub loop-above-preserved : goal.loop-above-preserved
loop-above-preserved c =
    below_more (λ k. (v : Version) → slice_get (listed c.args.self.catalogue.now) c.args.version.0 ≡ Some v → ExcludesAt c.args.self.catalogue.now v c.args.word.now (k + 1) → ⊥) c.loop-above.above c.loop-above.invariant
    (λ v at content. false≢true (sym c.if-excludes.false ∙ (c.excludes.ensures v at).1 content))

pub returns-then-excludes : goal.returns-then-excludes
returns-then-excludes c = λ v at. (
  (c.excludes.ensures v at).0 c.if-excludes.true,
  λ m below content.
      let (k, is, within) = excluded_behind c.args.self.catalogue.now v c.args.word.now m content in
      let low : k < c.loop-above.above = omega (arith, is, below) in
      c.loop-above.invariant k low v at (subst (ExcludesAt c.args.self.catalogue.now v c.args.word.now) is content),
)

pub returns : goal.returns
returns c = λ v at m content.
    let (k, is, within) = excluded_behind c.args.self.catalogue.now v c.args.word.now m content in
    let count : c.line_count-above-end.result ≡ length c.args.self.catalogue.now = c.line_count-above-end.ensures in
    let low : k < c.loop-above.above = omega (arith, within, count, c.loop-above-test.false) in
    c.loop-above.invariant k low v at (subst (ExcludesAt c.args.self.catalogue.now v c.args.word.now) is content)
