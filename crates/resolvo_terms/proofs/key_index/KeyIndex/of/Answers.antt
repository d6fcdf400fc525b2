use Rattle.std.proofs.Common.{◌≡◌, ◌+◌, ℕ, suc, map, subst, arith}
use Rattle.resolvo_terms.proofs.KeyedLemmas.{AreKeyedTo, keyed_next}
use Rattle.resolvo_terms.proofs.key_index.KeyIndex.of.Goals as goal

pub loop-at-preserved : goal.loop-at-preserved
loop-at-preserved g c =
    let at = c.loop-at.at in
    let next : suc at ≡ at + 1 = omega arith in
    subst (λ (n : ℕ). AreKeyedTo (map g.T.HasKey.key_of c.args.values.now) c.put.new.self n) next
    (keyed_next g.T.HasKey.key_of c.args.values.now c.loop-at.index c.put.new.self at c.key_at.result c.requires.once c.loop-at.invariant c.key_at.ensures c.in_ok-put.ensures.put)
