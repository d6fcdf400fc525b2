use Rattle.std.proofs.Common.{◌∙◌}
use Rattle.std.specs.Ordering.{nat_cmp}
use Rattle.std.specs.BTreeMap.Range.{range_contains}
use Rattle.resolvo_judge.proofs.SpanLemmas.{between_by}
use Rattle.resolvo_judge.proofs.chosen.has_between.Goals as goal

pub returns : goal.returns
returns c = c.is_some.ensures ∙ between_by (λ e. range_contains nat_cmp c.args.start c.args.end e.0) c.args.numbers.now.entries c.range.result c.next.new.self c.next.result (c.range.ensures.between tt) c.next.ensures.steps
