use Rattle.std.proofs.Common.{◌≡◌, ◌∷◌, ◌++◌, [], ◌∙◌, OnErr, Ok, Err, Result, length, ap, sym, subst}
use Rattle.resolvo_decide.specs.declared.candidate_counts.CandidateCounts.{CandidateCounts}
use Rattle.resolvo_decide.specs.declared.clause_states.ClauseState.TheVariants.{Open}
use Rattle.resolvo_decide.specs.declared.undecided_clauses.UndecidedClauses.{UndecidedClauses}
use Rattle.resolvo_decide.specs.CandidateCounts.{number_at, Begins}
use Rattle.resolvo_decide.proofs.FitLemmas.{begun_numbers, fits_widened}
use Rattle.resolvo_decide.proofs.undecided_clauses.UndecidedClauses.add.Goals as goal

pub returns-clause-added : goal.returns-clause-added
returns-clause-added c =
    let old = c.args.self.now in
    let rest = c.list_next.ensures.rest in
    let many : c.len.result ≡ length old.states = c.len.ensures ∙ ap (λ (n : UndecidedClauses). length n.states) rest in
    record {
      states = c.in_ok-push.ensures.pushed ∙ ap (λ (n : UndecidedClauses). n.states ++ Open ∷ []) rest;
      seen = ap (λ (n : UndecidedClauses). n.seen) rest;
      placed = c.in_ok-list_next.ensures.placed;
      kept = c.list_next.ensures.kept;
      counts = subst (λ k. Begins k old.counts c.begin.new.self) many (subst (λ (cs : CandidateCounts). Begins c.len.result cs c.begin.new.self) (ap (λ (n : UndecidedClauses). n.counts) rest) c.begin.ensures);
    }

-- a fact holds where there is an error, too
on_err : {T E P : Type 0} (r : Result T E) → P → OnErr r P
on_err (Ok x) p = tt
on_err (Err e) p = p

pub returns-in_err-list_next-clause-kept : goal.returns-in_err-list_next-clause-kept
returns-in_err-list_next-clause-kept c =
    let rest = c.list_next.ensures.rest in
    on_err _ (fits_widened c.args.self.now c.list_next.new.self (ap (λ (n : UndecidedClauses). n.states) rest) (ap (λ (n : UndecidedClauses). n.seen.items) rest) c.list_next.ensures.kept
    (λ i k number. ap (λ (n : UndecidedClauses). number_at n.counts.count_states.items i) (sym rest) ∙ number) (ap (λ (n : UndecidedClauses). n.counts.counts) rest) (ap (λ (n : UndecidedClauses). n.counts.occurrences) rest))

pub returns-in_err-push-clause-kept : goal.returns-in_err-push-clause-kept
returns-in_err-push-clause-kept c =
    let old = c.args.self.now in
    let rest = c.list_next.ensures.rest in
    let begun : Begins c.len.result old.counts c.begin.new.self = subst (λ (cs : CandidateCounts). Begins c.len.result cs c.begin.new.self) (ap (λ (n : UndecidedClauses). n.counts) rest) c.begin.ensures in
    on_err _ (fits_widened old _ (c.in_err-push.ensures.err ∙ ap (λ (n : UndecidedClauses). n.states) rest) (ap (λ (n : UndecidedClauses). n.seen.items) rest) c.list_next.ensures.kept
    (begun_numbers c.len.result old.counts c.begin.new.self begun) begun.counts begun.occurrences)
