use Rattle.std.proofs.Common.{◌∙◌, ap, map}
use Rattle.resolvo_decide.specs.declared.undecided_clauses.UndecidedClauses.{UndecidedClauses}
use Rattle.resolvo_decide.specs.States.{reopened}
use Rattle.resolvo_decide.proofs.FitLemmas.{fits_back}
use Rattle.resolvo_decide.proofs.undecided_clauses.UndecidedClauses.truncate.Goals as goal

pub returns-then-kept-len-clause-fits : goal.returns-then-kept-len-clause-fits
returns-then-kept-len-clause-fits c =
    let rest = c.undo_entries.ensures.rest in
    fits_back c.args.kept c.args.self.now _ c.undo_entries.ensures.seen (c.reopen.ensures ∙ ap (λ (n : UndecidedClauses). map (reopened c.args.kept) n.states) rest) (ap (λ (n : UndecidedClauses). n.by_parent) rest) c.undo_entries.ensures.counts
