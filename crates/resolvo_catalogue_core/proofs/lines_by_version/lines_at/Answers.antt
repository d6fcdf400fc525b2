use Rattle.std.proofs.Common.{◌∙◌, length, sym, arith}
use Rattle.resolvo_catalogue_core.proofs.OwnedLemmas.{placed, list_at, none_past}
use Rattle.resolvo_catalogue_core.proofs.lines_by_version.lines_at.Goals as goal

pub part-requires-clause-rising : goal.part-requires-clause-rising
part-requires-clause-rising c = rw c.begin_of.ensures (placed 0 c.args.ends.now (length c.args.lines.now) c.args.version _ c.requires (omega arith)).0

pub part-requires-clause-within : goal.part-requires-clause-within
part-requires-clause-within c = (placed 0 c.args.ends.now (length c.args.lines.now) c.args.version _ c.requires (omega arith)).1

pub returns-then-version-ends : goal.returns-then-version-ends
returns-then-version-ends c = sym (none_past c.args.lines.now 0 c.args.ends.now c.args.version (omega (arith, c.if-version-ends.true)))

pub returns : goal.returns
returns c = c.part.ensures ∙ rw c.begin_of.ensures (sym (list_at c.args.lines.now 0 c.args.ends.now c.args.version _ (omega (arith, c.if-version-ends.false))))
