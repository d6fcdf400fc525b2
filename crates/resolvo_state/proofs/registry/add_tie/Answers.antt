use Rattle.std.proofs.Common.{sym}
use Rattle.resolvo_state.proofs.TieLemmas.{two_literals, tie_added}
use Rattle.resolvo_state.proofs.registry.add_tie.Goals as goal

pub returns-clause-encoded : goal.returns-clause-encoded
returns-clause-encoded g c =
    tie_added c.args.name c.args.place c.args.tie c.args.coding.now c.add_clause.new.self c.in-Some-Some.solvable c.in-Some-Some.bit c.in_ok-add_clause.field-0 _ c.requires.coding c.requires.tie (sym c.in-Some-Some.ensures) (sym c.in-Some-Some.ensures')
    (two_literals c.new.result c.new-2.result c.args.tie.0 c.args.tie.1 c.args.tie.2 c.new.ensures c.new-2.ensures) c.in_ok-add_clause.ensures.added_rule
