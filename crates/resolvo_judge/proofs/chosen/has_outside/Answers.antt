use Rattle.std.proofs.Common.{◌≡◌, ◌∙◌, false, not, sym, subst}
use Rattle.std.specs.List.{list_any}
use Rattle.resolvo_text.specs.declared.spec.Span.{Span}
use Rattle.resolvo_text.specs.Matches.{is_in_span}
use Rattle.resolvo_judge.proofs.SpanLemmas.{any_number, outside_any, outside_one, outside_range, outside_empty, or_first, or_second}
use Rattle.resolvo_judge.proofs.chosen.has_outside.Goals as goal

pub returns-in-Any : goal.returns-in-Any
returns-in-Any c =
    let es = c.args.numbers.now.entries in
    subst (λ (s : Span). false ≡ list_any (λ e. not (is_in_span s e.0)) es) (sym c.in-Any.is) (outside_any es)

pub returns-then-has_between : goal.returns-then-has_between
returns-then-has_between c =
    let es = c.args.numbers.now.entries in
    subst (λ (s : Span). c.has_between.result ≡ list_any (λ e. not (is_in_span s e.0)) es) (sym c.in-One.is)
    (c.has_between.ensures ∙ or_first _ _ _ (sym c.has_between.ensures ∙ c.if-has_between.true) (outside_one c.in-One.number es))

pub returns-else-has_between : goal.returns-else-has_between
returns-else-has_between c =
    let es = c.args.numbers.now.entries in
    subst (λ (s : Span). c.has_between-else-has_between.result ≡ list_any (λ e. not (is_in_span s e.0)) es) (sym c.in-One.is)
    (c.has_between-else-has_between.ensures ∙ or_second _ _ _ (sym c.has_between.ensures ∙ c.if-has_between.false) (outside_one c.in-One.number es))

pub returns-then-low-high : goal.returns-then-low-high
returns-then-low-high c =
    let es = c.args.numbers.now.entries in
    subst (λ (s : Span). not c.is_empty.result ≡ list_any (λ e. not (is_in_span s e.0)) es) (sym c.in-Range.is)
    (any_number es c.is_empty.result c.is_empty.ensures.0 c.is_empty.ensures.1 ∙ outside_empty c.in-Range.low c.in-Range.high es c.if-low-high.true)

pub returns-then-has_between-2 : goal.returns-then-has_between-2
returns-then-has_between-2 c =
    let es = c.args.numbers.now.entries in
    subst (λ (s : Span). c.has_between-in-Range.result ≡ list_any (λ e. not (is_in_span s e.0)) es) (sym c.in-Range.is)
    (c.has_between-in-Range.ensures ∙ or_first _ _ _ (sym c.has_between-in-Range.ensures ∙ c.if-has_between-2.true) (outside_range c.in-Range.low c.in-Range.high es c.if-low-high.false))

pub returns-else-has_between-2 : goal.returns-else-has_between-2
returns-else-has_between-2 c =
    let es = c.args.numbers.now.entries in
    subst (λ (s : Span). c.has_between-else-has_between-2.result ≡ list_any (λ e. not (is_in_span s e.0)) es) (sym c.in-Range.is)
    (c.has_between-else-has_between-2.ensures ∙ or_second _ _ _ (sym c.has_between-in-Range.ensures ∙ c.if-has_between-2.false) (outside_range c.in-Range.low c.in-Range.high es c.if-low-high.false))
