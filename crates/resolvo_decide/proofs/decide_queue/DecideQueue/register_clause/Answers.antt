use Rattle.std.proofs.Common.{◌≡◌, ◌∷◌, ◌++◌, [], List, cond, sym, ◌∙◌, ap, subst}
use Rattle.std.specs.Prelude.{is_ok}
use Rattle.resolvo_store_core.specs.declared.pick.NeedClause.{NeedClause}
use Rattle.resolvo_decide.specs.Cold.{HasColdBits}
use Rattle.resolvo_decide.specs.Needs.{literals_in, Fits}
use Rattle.resolvo_decide.specs.Queue.{needs_of}
use Rattle.resolvo_decide.proofs.FitLemmas.{fits_add}
use Rattle.resolvo_decide.proofs.ColdLemmas.{cold_more}
use Rattle.resolvo_decide.proofs.decide_queue.DecideQueue.register_clause.Goals as goal

pub returns-clause-sound : goal.returns-clause-sound
returns-clause-sound g c =
    let q = c.args.self.now in
    let need : NeedClause = c.args.need in
    let grown : c.push.new.self.items ≡ needs_of q ++ need ∷ [] =
    c.push.ensures.items ∙ ap (λ r. cond (is_ok r) (c.reserve.new.self.items ++ need ∷ []) c.reserve.new.self.items) c.unwrap.ensures ∙ ap (λ (qs : List NeedClause). qs ++ need ∷ []) c.reserve.ensures.items in
    λ lists h. record {
      fits = subst (λ (qs : List NeedClause). Fits (literals_in lists) c.add.new.self qs) (sym grown) (fits_add (literals_in lists) need q.undecided c.add.new.self (needs_of q) h.fits c.in_ok-add.ensures.added);
      cold = subst (λ (qs : List NeedClause). HasColdBits lists q.cold qs) (sym grown) (cold_more lists q.cold (needs_of q) need h.cold);
    }

pub returns-in_err-reserve-clause-sound : goal.returns-in_err-reserve-clause-sound
returns-in_err-reserve-clause-sound g c = λ lists h. record {
  fits = subst (λ (qs : List NeedClause). Fits (literals_in lists) c.args.self.now.undecided qs) (sym c.reserve.ensures.items) h.fits;
  cold = subst (λ (qs : List NeedClause). HasColdBits lists c.args.self.now.cold qs) (sym c.reserve.ensures.items) h.cold;
}

pub returns-in_err-add-clause-sound : goal.returns-in_err-add-clause-sound
returns-in_err-add-clause-sound g c = λ lists h. record {
  fits = subst (λ (qs : List NeedClause). Fits (literals_in lists) c.add.new.self qs) (sym c.reserve.ensures.items) (c.in_err-add.ensures.kept (literals_in lists) (needs_of c.args.self.now) h.fits);
  cold = subst (λ (qs : List NeedClause). HasColdBits lists c.args.self.now.cold qs) (sym c.reserve.ensures.items) h.cold;
}
