use Rattle.std.proofs.Common.{◌≡◌, ◌<◌, ◌∙◌, sym, ap, length, Some, Vec, Global, arith}
use Rattle.std.specs.Prelude.{slice_get, option_map}
use Rattle.std.proofs.lemmas.Bool.{false≢true}
use Rattle.std.proofs.lemmas.List.{length-map}
use Rattle.std.proofs.lemmas.Option.{slice_get-get_or, slice_get-map, slice_get_within}
use Rattle.resolvo_text.specs.declared.spec.Spec.{Spec}
use Rattle.resolvo_text.specs.View.{specs_of, cases_of}
use Rattle.resolvo_catalogue.proofs.MarkLemmas.{one_some}
use Rattle.resolve_refusal.proofs.FindLemmas.{below_more}
use Rattle.resolve_refusal.proofs.lines.index_of.Goals as goal

pub loop-index-preserved : goal.loop-index-preserved
loop-index-preserved c =
    let xs = c.args.cases.now in
    let i = c.loop-index.index in
    below_more (λ j. slice_get (cases_of xs) j ≡ Some (specs_of c.args.case.now) → ⊥) i c.loop-index.invariant (λ e.
    let one = c.index-cases-index.result in
    let at : slice_get (cases_of xs) i ≡ Some (specs_of one.items) = slice_get-map (λ (v : Vec Spec Global). specs_of v.items) xs i ∙ ap (option_map (λ (v : Vec Spec Global). specs_of v.items)) (slice_get-get_or xs i one c.loop-index-test.true ∙ ap Some (sym c.index-cases-index.is)) in
    let both : Some (specs_of one.items) ≡ Some (specs_of c.args.case.now) = sym at ∙ e in
    false≢true (sym c.if-same_specs.false ∙ c.same_specs.ensures.1 (ap specs_of c.as_slice.ensures.value ∙ one_some both)))

pub returns : goal.returns
returns c = λ n at.
    let xs = c.args.cases.now in
    let below : n < length (cases_of xs) = slice_get_within (cases_of xs) n _ at in
    let long : length (cases_of xs) ≡ length xs = length-map xs (λ (v : Vec Spec Global). specs_of v.items) in
    c.loop-index.invariant n (omega (arith, below, long, c.loop-index-test.false)) at
