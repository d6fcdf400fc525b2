-- A choice keeps the code, and so does taking entries away.
use Rattle.std.proofs.Common.{◌≡◌, ℕ, ◌<◌, true, List, length, Option, Some, None, Vec, Global, refl, sym, ◌∙◌, ap, subst}
use Rattle.std.specs.Prelude.{slice_get, IfSome}
use Rattle.resolvo_pool_core.specs.declared.id.ClauseId.{ClauseId}
use Rattle.resolvo_pool_core.specs.declared.id.VariableId.{VariableId}
use Rattle.resolvo_store_core.specs.Signed.{has}
use Rattle.resolvo_sat.specs.Clauses.{SatClause}
use Rattle.resolvo_sat.specs.declared.state.SatState.{SatState}
use Rattle.resolvo_sat.specs.declared.state.VariableKind.{VariableKind}
use Rattle.resolvo_sat.specs.Known.{clause_at}
use Rattle.resolvo_sat.specs.State.{lists}
use Rattle.resolvo_sat.specs.Pending.{KeepsLists}
use Rattle.resolvo_sat.specs.Steps.{Chooses, Undoes}
use Rattle.resolvo_sat.specs.declared.watch_lists.WatchLists.{WatchLists}
use Rattle.resolvo_sat.specs.Propagation.{IsReady, AreCovered, SameWatching, Extends, IsPropagation}
use Rattle.resolvo_sat.proofs.Readiness.{ready_undone, ready_floored, covered_same}
use Rattle.resolvo_sat.proofs.StartLemmas.{kept_ready, kept_watching}
use Rattle.resolvo_sat.proofs.SetLemmas.{covered_watching}
use Rattle.resolvo_sat.proofs.ChooseLemmas.{choice_ready}
use Rattle.resolvo_state.specs.declared.solver_state.SolverState.{SolverState}
use Rattle.resolvo_state.specs.SolverState.{IsCoding, KeepsClauses}

-- the trail changed, and the watches
code_watched : {N S : Type 0} (c : SolverState N S) (s : SatState) (w : WatchLists) → IsCoding c → IsReady s w → AreCovered s w → s.variables ≡ c.search.variables → s.clauses ≡ c.search.clauses → KeepsClauses c (record c { search = s; watching = w })
code_watched {N} {S} c s w coding ready covered variables clauses = record {
  coding = record {
    ready = ready;
    covered = covered;
    variable_kinds = ap (λ (variable_kinds : Vec VariableKind Global). variable_kinds.items) variables ∙ coding.variable_kinds;
    each = coding.each ∙ sym (ap (λ (cs : List SatClause). length cs) clauses);
    distinct = coding.distinct;
    learnt = λ n clause h is. coding.learnt n clause h (subst (λ (cs : List SatClause). slice_get cs n ≡ Some clause) clauses is);
    apart = λ n clause h is. coding.apart n clause h (subst (λ (cs : List SatClause). slice_get cs n ≡ Some clause) clauses is);
    drawn = λ n clause h is l a. (
        let (m, before, there) = coding.drawn n clause h (subst (λ (cs : List SatClause). slice_get cs n ≡ Some clause) clauses is) l a in
        (m, before, subst (λ (cs : List SatClause). has (clause_at (lists cs) m) l ≡ true) (sym clauses) there));
    first = coding.first;
    rooted = coding.rooted;
    alone = λ l a. coding.alone l (subst (λ (cs : List SatClause). has (clause_at (lists cs) 0) l ≡ true) clauses a);
  };
  atoms = refl;
  kinds = refl;
  variables = variables;
  clauses = clauses;
}

-- the trail alone changed
code_kept : {N S : Type 0} (c : SolverState N S) (s : SatState) → IsCoding c → IsReady s c.watching → s.variables ≡ c.search.variables → s.clauses ≡ c.search.clauses → KeepsClauses c (record c { search = s })
code_kept c s coding ready variables clauses = code_watched c s c.watching coding ready (covered_same c.search s c.watching coding.covered clauses) variables clauses

pub choice_kept : {N S : Type 0} (c : SolverState N S) (s : SatState) (v : VariableId) (clause : ClauseId) → IsCoding c → Chooses v clause c.search s → KeepsClauses c (record c { search = s })
choice_kept c s v clause coding chosen = code_kept c s coding (choice_ready c.search s c.watching v clause chosen coding.ready) chosen.same.variables chosen.same.clauses

-- or its least length
pub floored_kept : {N S : Type 0} (c : SolverState N S) (floor : ℕ) → IsCoding c → KeepsClauses c (record c { search = record c.search { tracker = record c.search.tracker { floor = floor } } })
floored_kept c floor coding = code_kept c _ coding (ready_floored c.search c.watching floor coding.ready) refl refl

-- ---- propagation

-- entries were taken away, and the watches are the same but for what no proof rests on
pub undo_kept : {N S : Type 0} (c : SolverState N S) (s : SatState) (w : WatchLists) (level : ℕ) → IsCoding c → Undoes level c.search s → KeepsLists c.watching w → KeepsClauses c (record c { search = s; watching = w })
undo_kept c s w level coding undoes lists =
    code_watched c s w coding
    (kept_ready s c.watching w (ready_undone c.search s c.watching level undoes coding.ready) lists)
    (covered_watching s c.watching w (covered_same c.search s c.watching coding.covered undoes.same.clauses) (kept_watching c.watching w lists))
    undoes.same.variables undoes.same.clauses

-- unit clauses that are noted as true are no matter
covered_noted : (s : SatState) (v w : WatchLists) → AreCovered s v → AreCovered s (record v { units_done = w.units_done })
covered_noted s v w covers = record { assertions = covers.assertions; learnt = covers.learnt; covered = covers.covered; first = covers.first }

run_of : (s t : SatState) (v w : WatchLists) (o : Option ClauseId) → IsPropagation s t v w o → Extends s t × IsReady t w × SameWatching v w
run_of s t v w None h = (h.extends, h.ready, h.watching)
run_of s t v w (Some n) h = (h.extends, h.ready, h.watching)

pub run_extends : (s t : SatState) (v w : WatchLists) (o : Option ClauseId) → IsPropagation s t v w o → Extends s t
run_extends s t v w o h = (run_of s t v w o h).0

-- the falsified clause is one of the clauses
pub run_within : (s t : SatState) (v w : WatchLists) (o : Option ClauseId) → IsPropagation s t v w o → IfSome o (λ n. n.0 < length t.clauses)
run_within s t v w None h = tt
run_within s t v w (Some n) h = h.falsified.in_range

pub run_kept : {N S : Type 0} (c : SolverState N S) (s : SatState) (w : WatchLists) (o : Option ClauseId) → IsCoding c → IsPropagation c.search s (record c.watching { units_done = w.units_done }) w o → KeepsClauses c (record c { search = s; watching = w })
run_kept c s w o coding h =
    let (extends, ready, same) = run_of c.search s (record c.watching { units_done = w.units_done }) w o h in
    code_watched c s w coding ready
    (covered_watching s (record c.watching { units_done = w.units_done }) w (covered_noted s c.watching w (covered_same c.search s c.watching coding.covered extends.same.clauses)) same)
    extends.same.variables extends.same.clauses
