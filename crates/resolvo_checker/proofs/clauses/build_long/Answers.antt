use Rattle.std.proofs.Common.{◌≡◌, ◌+◌, length, arith}
use Rattle.resolvo_checker.proofs.PieceLemmas.{within-build, built, set-ready}
use Rattle.resolvo_checker.proofs.clauses.build_long.Goals as goal

pub returns-clause-inside : goal.returns-clause-inside
returns-clause-inside c = λ kept h.
    let first : c.len-start.result ≡ length c.args.literals.now.items = omega arith in
    let long : c.len.result ≡ length c.args.literals.now.items + length c.args.clause.now = omega (arith, c.in_ok-extend_from_slice.ensures.len) in
    rw (c.in_ok-extend_from_slice.ensures.items, first, long) (within-build c.args.literals.now.items c.args.clause.now c.args.longs.now.items kept c.args.place h)

pub returns-clause-built : goal.returns-clause-built
returns-clause-built c = λ kept s h is.
    let first : c.len-start.result ≡ length c.args.literals.now.items = omega arith in
    let long : c.len.result ≡ length c.args.literals.now.items + length c.args.clause.now = omega (arith, c.in_ok-extend_from_slice.ensures.len) in
    rw (c.in_ok-extend_from_slice.ensures.items, first, long) (built c.args.literals.now.items c.args.clause.now c.args.longs.now.items kept c.args.place s h is)

pub returns-clause-ready : goal.returns-clause-ready
returns-clause-ready c = set-ready c.args.longs.now.items c.args.place c.len-start.result c.len.result c.requires.within
