use Rattle.std.proofs.Common.{ℕ, take, subst, arith, eqb-true}
use Rattle.std.specs.Prelude.{Contains}
use Rattle.resolvo_decide.proofs.HotLemmas.{there_at, within_none, within_more, within_all}
use Rattle.resolvo_decide.proofs.cold_clauses.is_within.Goals.{then-is_next, else-is_next}
use Rattle.resolvo_decide.proofs.cold_clauses.is_within.Goals as goal

pub loop-name-init : goal.loop-name-init
loop-name-init g c = record { low = omega arith; within = within_none c.args.names.now c.args.all.now }

pub loop-name-preserved : goal.loop-name-preserved
loop-name-preserved g c =
    let names = c.args.names.now in
    let all = c.args.all.now in
    let kept = c.loop-name.invariant in
    elim c.if-is_next.branch [
      | then-is_next w ↦
          let next = c.is_next.ensures w.if-is_next.true in
          record {
            low = omega (arith, next.0, w.found-is);
            within = λ y h. within_more names all c.loop-name.found _ next.0 next.1 (there_at all c.loop-name.name-index c.name-item.result c.name-item.result c.loop-name-test.true c.name-item.is) kept.within y (subst (λ (k : ℕ). Contains (take k names) y) w.found-is h);
          }
      | else-is_next w ↦ record {
        low = omega (arith, kept.low, w.found-is);
        within = λ y h. kept.within y (subst (λ (k : ℕ). Contains (take k names) y) w.found-is h);
      }
    ]

pub returns : goal.returns
returns g c = λ h. (let found = eqb-true _ _ h in within_all c.args.names.now c.args.all.now c.loop-name.found (omega (arith, found)) c.loop-name.invariant.within)
