use Rattle.std.proofs.Common.{◌∙◌, sym, ap, subst}
use Rattle.resolvo_store_core.specs.Trail.{value_in}
use Rattle.resolvo_decide.specs.declared.undecided_clauses.UndecidedClauses.{UndecidedClauses}
use Rattle.resolvo_decide.specs.Needs.{literals_in, Fits}
use Rattle.resolvo_decide.proofs.FitLemmas.{fits_marked}
use Rattle.resolvo_decide.proofs.undecided_clauses.UndecidedClauses.take_offer.Goals as goal

pub returns-in-Some-clause-fits : goal.returns-in-Some-clause-fits
returns-in-Some-clause-fits g c = λ queue at fits.
    subst (λ (n : UndecidedClauses). Fits (literals_in c.args.lists.now) n queue) (sym c.offer_at.ensures.rest) (fits_marked (literals_in c.args.lists.now) c.args.self.now queue c.offer_at.new.self.counted fits)

pub returns-in-None-clause-fits : goal.returns-in-None-clause-fits
returns-in-None-clause-fits g c = λ queue at fits. c.close_met.ensures.fits queue at
    (subst (λ (n : UndecidedClauses). Fits (literals_in c.args.lists.now) n queue) (sym c.offer_at.ensures.rest) (fits_marked (literals_in c.args.lists.now) c.args.self.now queue c.offer_at.new.self.counted fits))

pub close_met-requires : goal.close_met-requires
close_met-requires g c = λ v. c.requires.values v ∙ ap (λ (n : UndecidedClauses). value_in n.seen.items v) (sym c.offer_at.ensures.rest)
