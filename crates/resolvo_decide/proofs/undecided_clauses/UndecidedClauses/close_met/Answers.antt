use Rattle.std.proofs.Common.{List, sym, ◌∙◌, ap, subst}
use Rattle.std.specs.List.{list_any}
use Rattle.resolvo_store_core.specs.Signed.{value_under, is_true}
use Rattle.resolvo_store_core.specs.Values.{value_at}
use Rattle.resolvo_decide.specs.declared.clause_states.ClauseState.{ClauseState}
use Rattle.resolvo_decide.specs.Needs.{literals_in, Fits}
use Rattle.resolvo_decide.proofs.FitLemmas.{fits_found, sound_met}
use Rattle.resolvo_decide.proofs.undecided_clauses.UndecidedClauses.close_met.Goals as goal

pub returns-then-is_any_true-clause-fits : goal.returns-then-is_any_true-clause-fits
returns-then-is_any_true-clause-fits g c = λ queue at fits.
    let lists = c.args.lists.now in
    let values = value_at c.args.values.now in
    let q = c.args.need.now in
    let met = ap (list_any (λ d. is_true (value_under values d.literal))) (sym c.in-Some.ensures.1) ∙ sym c.is_any_true.ensures ∙ c.if-is_any_true.true in
    subst (λ (states : List ClauseState). Fits (literals_in lists) (record c.args.self.now { states = states }) queue) (sym c.put.ensures)
    (fits_found (literals_in lists) c.args.self.now queue c.args.position q c.met-state.result fits at
    (sound_met lists values c.args.self.now.seen.items c.requires q c.met-state.result c.met-state.ensures met))
