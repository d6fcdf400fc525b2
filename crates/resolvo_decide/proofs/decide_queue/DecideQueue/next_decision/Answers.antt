use Rattle.std.proofs.Common.{List, arith, sym, ◌∙◌, ap, subst}
use Rattle.resolvo_store_core.specs.Pick.{pick}
use Rattle.resolvo_store_core.specs.Values.{value_at}
use Rattle.resolvo_store_core.specs.declared.pick.NeedClause.{NeedClause}
use Rattle.resolvo_decide.specs.Cold.{HasColdBits}
use Rattle.resolvo_decide.specs.Needs.{literals_in, Fits, OffersAtLeast}
use Rattle.resolvo_decide.proofs.decide_queue.DecideQueue.next_decision.Goals as goal

pub pick-next-requires-clause-fits : goal.pick-next-requires-clause-fits
pick-next-requires-clause-fits g c =
    subst (λ (qs : List NeedClause). Fits (literals_in c.args.lists.now) c.args.self.now.undecided qs) (sym c.as_slice-needs.ensures.value) c.requires.sound.fits

pub pick-next-requires-clause-cold : goal.pick-next-requires-clause-cold
pick-next-requires-clause-cold g c = subst (λ (qs : List NeedClause). HasColdBits c.args.lists.now c.args.self.now.cold qs) (sym c.as_slice-needs.ensures.value) c.requires.sound.cold

pub pick-next-requires-clause-bounded : goal.pick-next-requires-clause-bounded
pick-next-requires-clause-bounded g c = λ name. omega (arith, c.requires.hot.bounded name, c.bound-most.ensures)

pub pick-next-requires-clause-fewest : goal.pick-next-requires-clause-fewest
pick-next-requires-clause-fewest g c =
    subst (λ (qs : List NeedClause). OffersAtLeast c.args.lists.now (value_at c.map-values.result.now) qs c.args.fewest) (sym c.as_slice-needs.ensures.value) (c.requires.fewest c.map-values.result.now c.map-values.ensures)

pub returns-clause-picked : goal.returns-clause-picked
returns-clause-picked g c = record {
  values = c.map-values.result.now;
  agree = c.map-values.ensures;
  picked = ap (pick c.args.lists.now (value_at c.map-values.result.now) (g.C.ScoreMap.score_of c.args.scores.now)) (sym c.as_slice-needs.ensures.value) ∙ sym c.pick-next.ensures.picked;
}

pub returns-clause-sound : goal.returns-clause-sound
returns-clause-sound g c = record {
  fits = subst (λ (qs : List NeedClause). Fits (literals_in c.args.lists.now) c.note_count.new.self qs) c.as_slice-needs.ensures.value c.note_count.ensures.fits;
  cold = subst (λ (qs : List NeedClause). HasColdBits c.args.lists.now c.pick-next.new.cold qs) c.as_slice-needs.ensures.value c.pick-next.ensures.cold;
}

pub returns-clause-synced : goal.returns-clause-synced
returns-clause-synced g c = record { seen = ap (λ es. es.items) c.note_count.ensures.seen ∙ ap (λ es. es.items) c.pick-next.ensures.seen ∙ c.requires.synced.seen; once = c.requires.synced.once }

pub returns-in_err-note_count-clause-sound : goal.returns-in_err-note_count-clause-sound
returns-in_err-note_count-clause-sound g c = record {
  fits = subst (λ (qs : List NeedClause). Fits (literals_in c.args.lists.now) c.note_count.new.self qs) c.as_slice-needs.ensures.value c.note_count.ensures.fits;
  cold = subst (λ (qs : List NeedClause). HasColdBits c.args.lists.now c.pick-next.new.cold qs) c.as_slice-needs.ensures.value c.pick-next.ensures.cold;
}

pub returns-in_err-note_count-clause-synced : goal.returns-in_err-note_count-clause-synced
returns-in_err-note_count-clause-synced g c = record { seen = ap (λ es. es.items) c.note_count.ensures.seen ∙ ap (λ es. es.items) c.pick-next.ensures.seen ∙ c.requires.synced.seen; once = c.requires.synced.once }
