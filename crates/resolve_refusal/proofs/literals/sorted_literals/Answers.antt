use Rattle.std.proofs.Common.{◌≡◌, ◌++◌, sym, ◌∙◌, subst, ap, map, List, append-nil, Global}
use Rattle.std.specs.Prelude.{IsTrue}
use Rattle.std.specs.declared.string.String.{String}
use Rattle.std.proofs.lemmas.List.{take_all}
use Rattle.resolvo_report.specs.declared.step.Literal.{Literal}
use Rattle.resolvo_report.specs.View.{literals_of}
use Rattle.resolvo_report.specs.Text.{are_rising, literal_text}
use Rattle.resolve_refusal.specs.Refusal.{AreLiterals}
use Rattle.resolve_refusal.proofs.SortLemmas.{AreByText, by_text_step, values_are, values_rising}
use Rattle.resolve_refusal.proofs.literals.sorted_literals.Goals as goal

pub loop-literal-preserved : goal.loop-literal-preserved
loop-literal-preserved c =
    by_text_step c.args.catalogue.now c.args.provider.now.ids c.args.literals.now c.loop-literal.literal-index _ c.loop-literal.by_text.entries c.insert.new.self.entries c.in_ok-text.text c.in_ok-atom_of.field-0 c.loop-literal-test.true c.in_ok-atom_of.ensures.atom c.in_ok-text.ensures.ok c.in_ok-insert.ensures.entries c.loop-literal.invariant

pub returns-clause-same : goal.returns-clause-same
returns-clause-same c =
    let es : List (String Global × Literal) = c.loop-literal.by_text.entries in
    let all : c.loop-literal-2.yielded ≡ es = sym (append-nil c.loop-literal-2.yielded) ∙ (ap (λ (r : List (String Global × Literal)). c.loop-literal-2.yielded ++ r) (sym c.in-None.ensures.steps.0) ∙ (sym c.loop-literal-2.invariant.0 ∙ c.into_iter-literal-iterator.ensures.into_iter_gives.0)) in
    let items : c.loop-literal-2.sorted.items ≡ map (λ e. e.1) es = c.loop-literal-2.invariant.1 ∙ ap (map (λ e. e.1)) all in
    λ form. subst (λ ls. AreLiterals c.args.catalogue.now c.args.provider.now.ids c.args.literals.now (literals_of ls)) (sym items) (values_are c.args.catalogue.now c.args.provider.now.ids c.args.literals.now es (subst (λ ks. AreByText c.args.catalogue.now c.args.provider.now.ids ks es) (take_all c.loop-literal.literal-index c.args.literals.now c.loop-literal-test.false) c.loop-literal.invariant) form)

pub returns-clause-rising : goal.returns-clause-rising
returns-clause-rising c =
    let es : List (String Global × Literal) = c.loop-literal.by_text.entries in
    let all : c.loop-literal-2.yielded ≡ es = sym (append-nil c.loop-literal-2.yielded) ∙ (ap (λ (r : List (String Global × Literal)). c.loop-literal-2.yielded ++ r) (sym c.in-None.ensures.steps.0) ∙ (sym c.loop-literal-2.invariant.0 ∙ c.into_iter-literal-iterator.ensures.into_iter_gives.0)) in
    let items : c.loop-literal-2.sorted.items ≡ map (λ e. e.1) es = c.loop-literal-2.invariant.1 ∙ ap (map (λ e. e.1)) all in
    subst (λ ls. IsTrue (are_rising (map literal_text (literals_of ls)))) (sym items) (values_rising es c.loop-literal.invariant.keyed c.into_iter-literal-iterator.ensures.into_iter_gives.5)
