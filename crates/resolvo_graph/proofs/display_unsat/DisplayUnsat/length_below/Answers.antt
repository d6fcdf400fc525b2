use Rattle.std.proofs.Common.{◌<◌, [], refl, sym, subst, ◌∙◌}
use Rattle.resolvo_graph.specs.Words.{meaning_by}
use Rattle.resolvo_graph.proofs.CountLemmas.{no_byte, none_left, some_left}
use Rattle.resolvo_graph.proofs.display_unsat.DisplayUnsat.length_below.Goals as goal

pub returns-then-count-eq0-clause-length : goal.returns-then-count-eq0-clause-length
returns-then-count-eq0-clause-length g c =
    let (lines, is, more) = c.in_ok-write_lines.ensures.lines in
    let counted = more (record { page = record { interner = c.args.interner; lines = c.new.result }; left = c.args.bound }) [] (refl, no_byte (meaning_by g.I.Interner c.args.interner.now) c.args.bound) in
    (lines, is, none_left c.args.bound c.write_lines.new.sink.left _ counted.1 c.if-count-eq0.true)

pub returns-clause-length : goal.returns-clause-length
returns-clause-length g c =
    let (lines, is, more) = c.in_ok-write_lines.ensures.lines in
    let counted = more (record { page = record { interner = c.args.interner; lines = c.new.result }; left = c.args.bound }) [] (refl, no_byte (meaning_by g.I.Interner c.args.interner.now) c.args.bound) in
    let some = some_left c.args.bound c.write_lines.new.sink.left _ counted.1 c.if-count-eq0.false in
    let it = c.saturating_sub.ensures ∙ some.0 in
    (lines, is, it, subst (λ n. n < c.args.bound) (sym it) some.1)
