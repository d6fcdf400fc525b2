use Rattle.std.proofs.Common.{sym, subst}
use Rattle.std.specs.List.{IsDistinct}
use Rattle.resolvo_graph.proofs.CopyLemmas.{copied_more}
use Rattle.resolvo_graph.proofs.ListLemmas.{whole}
use Rattle.resolvo_graph.proofs.graph.copied.Goals as goal

pub loop-key-preserved : goal.loop-key-preserved
loop-key-preserved g c =
    copied_more g.K.PartialEq.eq g.met.K.Eq.laws c.as_slice-key-items.result.now c.loop-key.copy.keys c.insert_full.new.self.keys c.loop-key.key-index c.key-item.result
    (subst (IsDistinct g.K.PartialEq.eq) (sym c.as_slice-key-items.ensures.keys) c.as_slice-key-items.ensures.unique) c.loop-key-test.true c.key-item.is c.loop-key.invariant c.in_ok-insert_full.ensures.keys

pub returns-clause-same : goal.returns-clause-same
returns-clause-same g c = whole (λ ks. ks) c.as_slice-key-items.result.now c.args.keys.now.keys c.loop-key.key-index c.loop-key.copy.keys c.loop-key-test.false c.as_slice-key-items.ensures.keys c.loop-key.invariant
