use Rattle.std.proofs.Common.{◌≡◌, ◌+◌, ap, drop, refl, sym, ◌∙◌, subst}
use Rattle.resolvo_store_core.specs.Pick.{pick_after, later}
use Rattle.resolvo_store_core.specs.Trail.{value_in}
use Rattle.resolvo_store_core.specs.Values.{value_at}
use Rattle.resolvo_decide.specs.declared.undecided_clauses.UndecidedClauses.{UndecidedClauses}
use Rattle.resolvo_decide.specs.declared.cold_clauses.ColdClauses.{ColdClauses}
use Rattle.resolvo_decide.specs.Cold.{IsKnownHot, HasColdBits}
use Rattle.resolvo_decide.specs.Needs.{literals_in, Fits}
use Rattle.resolvo_decide.proofs.ColdLemmas.{pick_skipped}
use Rattle.resolvo_decide.proofs.FitLemmas.{fits_same, read_at, pick_taken, pick_beaten, pick_closed, pick_final, many_left}
use Rattle.resolvo_decide.proofs.undecided_clauses.UndecidedClauses.pick.Goals.{then-may_beat+else-is_final, else-may_beat}
use Rattle.resolvo_decide.proofs.undecided_clauses.UndecidedClauses.pick.Goals as goal

pub loop-position-init : goal.loop-position-init
loop-position-init g c = record {
  fits = fits_same (literals_in c.args.lists.now) c.args.self.now c.args.queue.now c.next_open-position.new.self c.next_open-position.ensures.same c.requires.fits;
  seen = refl;
  cold = c.requires.cold;
  rest = refl;
  picked = pick_closed c.args.lists.now (value_at c.args.values.now) (g.C.ScoreMap.score_of c.args.scores.now) c.args.self.now c.args.queue.now c.requires.fits c.requires.values _ 0 c.next_open-position.result c.next_open-position.ensures.behind c.next_open-position.ensures.passed;
}

pub loop-position-preserved : goal.loop-position-preserved
loop-position-preserved g c =
    let lists = c.args.lists.now in
    let values = value_at c.args.values.now in
    let score = g.C.ScoreMap.score_of c.args.scores.now in
    let best = c.loop-position.best in
    let more = c.if-may_beat.best in
    let qs = c.args.queue.now in
    let i = c.loop-position.position in
    let next = c.next_after-position in
    let known = λ (cold : ColdClauses _) (rest : cold ≡ record c.args.cold.now { warm = cold.warm }). subst (λ (x : ColdClauses _). IsKnownHot score x) (sym rest) c.requires.hot in
    let same = c.may_beat.ensures.seen ∙ c.loop-position.invariant.seen in
    let here : pick_after lists values score best (drop i qs) ≡ pick_after lists values score more (drop (i + 1) qs) = elim c.if-may_beat.branch [
      | then-may_beat+else-is_final w ↦ pick_taken lists values score best qs i _ c.loop-position-test.true ∙ ap (λ b. pick_after lists values score b (drop (i + 1) qs)) (sym (w.best-is ∙ w.or_later-best.ensures ∙ ap (later best) w.take_offer-next.ensures.offer))
      | else-may_beat w ↦ pick_beaten lists values score best qs i c.loop-position-test.true (c.may_beat.ensures.nothing w.if-may_beat.false) ∙ ap (λ b. pick_after lists values score b (drop (i + 1) qs)) (sym w.best-is)
    ] in
    let after : Fits (literals_in lists) c.if-may_beat.self qs = elim c.if-may_beat.branch [
      | then-may_beat+else-is_final w ↦ subst (λ (n : UndecidedClauses). Fits (literals_in lists) n qs) (sym w.self-is) (w.take_offer-next.ensures.fits qs (read_at qs i _ c.loop-position-test.true) c.may_beat.ensures.fits)
      | else-may_beat w ↦ subst (λ (n : UndecidedClauses). Fits (literals_in lists) n qs) (sym w.self-is) c.may_beat.ensures.fits
    ] in
    let stays : c.if-may_beat.self.seen ≡ c.args.self.now.seen = elim c.if-may_beat.branch [
      | then-may_beat+else-is_final w ↦ ap (λ (n : UndecidedClauses). n.seen) w.self-is ∙ w.take_offer-next.ensures.seen ∙ same
      | else-may_beat w ↦ ap (λ (n : UndecidedClauses). n.seen) w.self-is ∙ same
    ] in
    let cold : HasColdBits lists c.if-may_beat.cold qs = elim c.if-may_beat.branch [
      | then-may_beat+else-is_final w ↦ subst (λ (x : ColdClauses _). HasColdBits lists x qs) (sym w.cold-is) c.loop-position.invariant.cold
      | else-may_beat w ↦ subst (λ (x : ColdClauses _). HasColdBits lists x qs) (sym w.cold-is) (w.note_cold.ensures.kept qs (read_at qs i _ c.loop-position-test.true) c.loop-position.invariant.cold)
    ] in
    let rest : c.if-may_beat.cold ≡ record c.args.cold.now { warm = c.if-may_beat.cold.warm } = elim c.if-may_beat.branch [
      | then-may_beat+else-is_final w ↦ subst (λ (x : ColdClauses _). x ≡ record c.args.cold.now { warm = x.warm }) (sym w.cold-is) c.loop-position.invariant.rest
      | else-may_beat w ↦ subst (λ (x : ColdClauses _). x ≡ record c.args.cold.now { warm = x.warm }) (sym w.cold-is) (w.note_cold.ensures.rest ∙ ap (λ (x : ColdClauses _). record x { warm = w.note_cold.new.cold.warm }) c.loop-position.invariant.rest)
    ] in
    let behind : pick_after lists values score more (drop (i + 1) qs) ≡ pick_after lists values score more (drop next.result qs) =
    pick_skipped lists values score c.if-may_beat.self qs after (λ v. c.requires.values v ∙ ap (λ es. value_in es.items v) (sym stays)) c.if-may_beat.cold (known c.if-may_beat.cold rest) cold more (i + 1) next.result next.ensures.behind next.ensures.passed in
    record {
      fits = subst (λ (n : UndecidedClauses). Fits (literals_in lists) n qs) (sym next.ensures.rest) (fits_same (literals_in lists) c.if-may_beat.self qs next.new.self.states next.ensures.same after);
      seen = ap (λ (n : UndecidedClauses). n.seen) next.ensures.rest ∙ stays;
      cold = cold;
      rest = rest;
      picked = c.loop-position.invariant.picked ∙ here ∙ behind;
    }

pub returns-then-is_final-clause-picked : goal.returns-then-is_final-clause-picked
returns-then-is_final-clause-picked g c =
    let lists = c.args.lists.now in
    let values = value_at c.args.values.now in
    let score = g.C.ScoreMap.score_of c.args.scores.now in
    let qs = c.args.queue.now in
    let i = c.loop-position.position in
    let best = c.or_later-best.result in
    sym (c.loop-position.invariant.picked ∙ pick_taken lists values score c.loop-position.best qs i _ c.loop-position-test.true
    ∙ ap (λ b. pick_after lists values score b (drop (i + 1) qs)) (sym (c.or_later-best.ensures ∙ ap (later c.loop-position.best) c.take_offer-next.ensures.offer))
    ∙ pick_final lists values score c.args.ends.most c.requires.bounded c.args.ends.fewest best (drop (i + 1) qs) (many_left lists values score c.args.ends.most c.requires.bounded c.args.ends.fewest (i + 1) qs c.requires.fewest) (c.is_final.ensures c.if-is_final.true))

pub returns-then-is_final-clause-seen : goal.returns-then-is_final-clause-seen
returns-then-is_final-clause-seen g c = c.take_offer-next.ensures.seen ∙ c.may_beat.ensures.seen ∙ c.loop-position.invariant.seen

pub returns-then-is_final-clause-fits : goal.returns-then-is_final-clause-fits
returns-then-is_final-clause-fits g c =
    c.take_offer-next.ensures.fits c.args.queue.now (read_at c.args.queue.now c.loop-position.position _ c.loop-position-test.true) c.may_beat.ensures.fits

pub take_offer-next-requires-clause-kept_count : goal.take_offer-next-requires-clause-kept_count
take_offer-next-requires-clause-kept_count g c = λ k number. c.may_beat.ensures.fits.kept_count.each c.loop-position.position _ k (read_at c.args.queue.now c.loop-position.position _ c.loop-position-test.true) number
