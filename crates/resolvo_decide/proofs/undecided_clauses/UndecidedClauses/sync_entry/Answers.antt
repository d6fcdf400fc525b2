use Rattle.std.proofs.Common.{inl, refl, sym, ◌∙◌, ◌++◌, ◌∷◌, [], ap, subst}
use Rattle.std.proofs.lemmas.Bool.{both_ways}
use Rattle.resolvo_decide.specs.Needs.{KeepsCounts}
use Rattle.resolvo_decide.specs.declared.undecided_clauses.UndecidedClauses.{UndecidedClauses}
use Rattle.resolvo_decide.proofs.FitLemmas.{fits_on, fits_widened}
use Rattle.resolvo_decide.proofs.undecided_clauses.UndecidedClauses.sync_entry.Goals as goal

pub returns-then-entry-clause-fits : goal.returns-then-entry-clause-fits
returns-then-entry-clause-fits c =
    let es = c.args.self.now.seen.items in
    let rest = c.open_clauses_of.ensures.rest in
    fits_on c.args.entry c.args.self.now c.open_clauses_of.new.self (ap (λ (n : UndecidedClauses). n.seen.items) rest ∙ c.in_ok-push.ensures.items) (ap (λ (n : UndecidedClauses). n.by_parent) rest)
    c.open_clauses_of.ensures.len c.open_clauses_of.ensures.others (λ is. c.open_clauses_of.ensures.opened)
    (subst (λ ts. KeepsCounts es (es ++ c.args.entry ∷ []) c.args.self.now.counts ts) (sym (ap (λ (n : UndecidedClauses). n.counts) rest)) (c.add_entry.ensures.kept es c.requires))

pub returns-else-entry-clause-fits : goal.returns-else-entry-clause-fits
returns-else-entry-clause-fits c =
    fits_on c.args.entry c.args.self.now _ c.in_ok-push.ensures.items refl refl (λ i. inl refl) (λ is. absurd (both_ways c.args.entry.decision.value c.if-entry.false is)) (c.add_entry.ensures.kept c.args.self.now.seen.items c.requires)

pub returns-in_err-push-clause-fits : goal.returns-in_err-push-clause-fits
returns-in_err-push-clause-fits c = fits_widened c.args.self.now _ refl c.in_err-push.ensures.items (λ v i h. h) (λ i k h. h) refl refl
