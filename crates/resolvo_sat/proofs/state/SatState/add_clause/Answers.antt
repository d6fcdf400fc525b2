use Rattle.std.proofs.Common.{◌≡◌, true, sym, subst}
use Rattle.resolvo_store_core.specs.Signed.{Signed, has}
use Rattle.resolvo_sat.specs.Clauses.{sat_clause}
use Rattle.resolvo_sat.proofs.PendingLemmas.{clause_added, first_differ, first_has}
use Rattle.resolvo_sat.proofs.state.SatState.add_clause.Goals as goal

pub first_watches-watched-requires-clause-present : goal.first_watches-watched-requires-clause-present
first_watches-watched-requires-clause-present c =
    subst (λ (l : Signed). has c.args.literals.now l ≡ true) (sym c.index-literals-0.is) (first_has c.args.literals.now _ c.requires.some)

pub begin-requires : goal.begin-requires
begin-requires c = record { differ = first_differ c.args.literals.now c.index-literals-0.result c.first_watches-watched.result c.first_watches-watched.ensures }

pub returns-clause-added : goal.returns-clause-added
returns-clause-added c =
    clause_added (sat_clause c.args.literals.now c.args.causes.now) c.in_ok-clause.clause c.index-literals-0.result c.is_empty-is_rule.result c.first_watches-watched.result c.args.self.now c.push_clause.new.self c.args.watching.now c.note_pending.new.watching c.begin.new.self
    c.requires.ready c.requires.covered c.first_watches-watched.ensures c.in_ok-clause.ensures.added c.in_ok-note_pending.ensures.noted c.in_ok-begin.ensures.begun
