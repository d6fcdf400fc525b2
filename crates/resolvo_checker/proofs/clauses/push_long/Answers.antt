use Rattle.std.proofs.Common.{◌≡◌, length, arith}
use Rattle.resolvo_checker.proofs.PieceLemmas.{within-longer, within-defer, pieces-defer}
use Rattle.resolvo_checker.proofs.clauses.push_long.Goals as goal

pub returns-in_err-push-2-clause-inside : goal.returns-in_err-push-2-clause-inside
returns-in_err-push-2-clause-inside c = λ flat h.
    rw (c.in_err-push-2.ensures.items, c.in_ok-push.ensures.items) (within-longer flat c.args.longs.now.items c.args.kept.now.items c.args.step h)

pub returns-clause-inside : goal.returns-clause-inside
returns-clause-inside c = λ flat h.
    let last : c.len-place.result ≡ length c.args.longs.now.items = omega arith in
    rw (c.in_ok-push-2.ensures.items, c.in_ok-push.ensures.items, last) (within-defer flat c.args.longs.now.items c.args.kept.now.items c.args.step h)

pub returns-clause-ok : goal.returns-clause-ok
returns-clause-ok c = λ flat h.
    let last : c.len-place.result ≡ length c.args.longs.now.items = omega arith in
    rw (c.in_ok-push-2.ensures.items, c.in_ok-push.ensures.items, last) (pieces-defer flat c.args.longs.now.items c.args.kept.now.items c.args.step h)
