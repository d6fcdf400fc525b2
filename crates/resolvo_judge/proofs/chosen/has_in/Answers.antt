use Rattle.std.proofs.Common.{◌≡◌, ◌∙◌, not, sym, subst}
use Rattle.std.specs.Prelude.{nat_lt}
use Rattle.std.specs.List.{list_any}
use Rattle.resolvo_text.specs.declared.spec.Span.{Span}
use Rattle.resolvo_text.specs.Matches.{is_in_span}
use Rattle.resolvo_judge.proofs.SpanLemmas.{any_number, found_one, found_none}
use Rattle.resolvo_judge.proofs.chosen.has_in.Goals as goal

pub returns-in-Any : goal.returns-in-Any
returns-in-Any c =
    let es = c.args.numbers.now.entries in
    subst (λ (s : Span). not c.is_empty.result ≡ list_any (λ e. is_in_span s e.0) es) (sym c.in-Any.is) (any_number es c.is_empty.result c.is_empty.ensures.0 c.is_empty.ensures.1)

pub returns-in-One : goal.returns-in-One
returns-in-One c =
    let es = c.args.numbers.now.entries in
    subst (λ (s : Span). c.contains_key.result ≡ list_any (λ e. is_in_span s e.0) es) (sym c.in-One.is) (c.contains_key.ensures ∙ found_one c.in-One.number es)

pub returns-else-low-high : goal.returns-else-low-high
returns-else-low-high c =
    let es = c.args.numbers.now.entries in
    subst (λ (s : Span). nat_lt c.in-Range.low c.in-Range.high ≡ list_any (λ e. is_in_span s e.0) es) (sym c.in-Range.is) (found_none c.in-Range.low c.in-Range.high es c.if-low-high.false)
