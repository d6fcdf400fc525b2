use Rattle.std.proofs.Common.{refl, ◌∙◌, subst, sym, List, ℕ, arith}
use Rattle.std.specs.Io.KnownBytes.{Consumes}
use Rattle.resolve_check.proofs.Pieces.{consumes_both, consumes_length, consumes_nothing, consumes_no_more}
use Rattle.resolve_check.proofs.input.read_input.Goals as goal

pub loop-piece-init : goal.loop-piece-init
loop-piece-init g c = (consumes_nothing _ _ c.new-all.ensures.items, refl)

pub returns-then-count-eq0-clause-all : goal.returns-then-count-eq0-clause-all
returns-then-count-eq0-clause-all g c = (consumes_no_more _ _ _ _ _ c.in_ok-count.count c.loop-piece.invariant.0 c.in_ok-count.ensures.consumed c.if-count-eq0.true, c.in_ok-count.ensures.end c.if-count-eq0.true)

pub loop-piece-preserved : goal.loop-piece-preserved
loop-piece-preserved g c = (
  subst (λ (xs : List ℕ). Consumes (g.S.Source.left c.args.source.now) (g.S.Source.left c.read_some.new.source) xs) (sym (c.in_ok-extend_from_slice.ensures.items)) (consumes_both _ _ _ c.loop-piece.all.items _ c.loop-piece.invariant.0 c.in_ok-count.ensures.consumed),
  c.in_ok-count.ensures.counted ∙ c.loop-piece.invariant.1,
)

pub returns-clause-fault : goal.returns-clause-fault
returns-clause-fault g c = λ bytes is. omega (arith, c.loop-piece-test.false, consumes_length _ _ c.loop-piece.all.items bytes c.loop-piece.invariant.0 is, c.loop-piece.all.ok)
