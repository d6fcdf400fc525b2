use Rattle.std.proofs.Common.{◌≡◌, ◌+◌, length, arith}
use Rattle.resolvo_checker.proofs.PieceLemmas.{within-push, pieces-push}
use Rattle.resolvo_checker.proofs.clauses.push_piece.Goals as goal

pub returns-in-Ok-clause-inside : goal.returns-in-Ok-clause-inside
returns-in-Ok-clause-inside c = λ longs h.
    let first : c.len-start.result ≡ length c.args.literals.now.items = omega arith in
    let long : c.len-end.result ≡ length c.args.literals.now.items + length c.args.clause.now = omega (arith, c.in_ok-extend_from_slice.ensures.len) in
    rw (c.in-Ok.ensures.items, c.in_ok-extend_from_slice.ensures.items, first, long) (within-push c.args.literals.now.items c.args.clause.now longs c.args.kept.now.items h)

pub returns-in-Ok-clause-ok : goal.returns-in-Ok-clause-ok
returns-in-Ok-clause-ok c = λ longs h.
    let first : c.len-start.result ≡ length c.args.literals.now.items = omega arith in
    let long : c.len-end.result ≡ length c.args.literals.now.items + length c.args.clause.now = omega (arith, c.in_ok-extend_from_slice.ensures.len) in
    rw (c.in-Ok.ensures.items, c.in_ok-extend_from_slice.ensures.items, first, long) (pieces-push c.args.literals.now.items c.args.clause.now longs c.args.kept.now.items h)
