-- What new clauses set at once, before propagation.
use Rattle.std.proofs.Common.{◌≡◌, ◌≤◌, inl, inr, take, length, Vec, Global, Option, Some, None, sym, subst, arith}
use Rattle.resolvo_pool_core.specs.declared.id.ClauseId.{ClauseId}
use Rattle.resolvo_sat.specs.declared.state.SatState.{SatState}
use Rattle.resolvo_sat.specs.declared.watch_lists.WatchLists.{WatchLists}
use Rattle.resolvo_sat.specs.declared.watch_lists.UnitClause.{UnitClause}
use Rattle.resolvo_sat.specs.declared.watch_lists.UnitsDone.{UnitsDone}
use Rattle.resolvo_sat.specs.Clauses.{SatClause}
use Rattle.resolvo_sat.specs.Entries.{made_true}
use Rattle.resolvo_sat.specs.State.{history, lists}
use Rattle.resolvo_sat.specs.Propagation.{AllTrue, AreCovered, AreUnits, AreWithin, HasDone, HasUnit, IsRun, SameWatching}
use Rattle.resolvo_sat.specs.AddClause.{AddsClause}
use Rattle.resolvo_sat.specs.Pending.{KeepsLists, Proceeds}
use Rattle.resolvo_sat.proofs.ExtendLemmas.{extends_more}
use Rattle.resolvo_sat.proofs.DoneLemmas.{within_same}
use Rattle.resolvo_sat.proofs.Readiness.{covered_same, watching_more}
use Rattle.resolvo_sat.proofs.StartLemmas.{kept_ready, kept_watching}
use Rattle.resolvo_sat.proofs.CompleteLemmas.{all_true_more, conflicts_later}

-- the same unit clauses, and clauses that watch
pub covered_watching : (s : SatState) (v w : WatchLists) → AreCovered s v → SameWatching v w → AreCovered s w
covered_watching s v w covers same = record {
  assertions = subst (λ (us : Vec UnitClause Global). AreUnits (lists s.clauses) us.items) (sym same.assertions) covers.assertions;
  learnt = subst (λ (us : Vec UnitClause Global). AreUnits (lists s.clauses) us.items) (sym same.learnt) covers.learnt;
  covered = λ n below none. elim (covers.covered n below (same.pairs n none)) [
    | inl first ↦ inl first
    | inr (x, is, inl there) ↦ inr (x, is, inl (subst (λ (us : Vec UnitClause Global). HasUnit us.items x) (sym same.assertions) there))
    | inr (x, is, inr there) ↦ inr (x, is, inr (subst (λ (us : Vec UnitClause Global). HasUnit us.items x) (sym same.learnt) there))
  ];
  first = covers.first;
}

-- a clause was added, and then what no proof rests on changed
pub adds_kept : (c : SatClause) (id : ClauseId) (s : SatState) (v : WatchLists) (t : SatState) (w x : WatchLists) → AddsClause c id s v t w → KeepsLists w x → AddsClause c id s v t x
adds_kept c id s v t w x addition kept = record {
  adds = addition.adds;
  ready = kept_ready t w x addition.ready kept;
  covered = covered_watching t w x addition.covered (kept_watching w x kept);
}

-- ---- before propagation entries were added

pub covered_proceeds : (s t : SatState) (v w : WatchLists) → AreCovered s v → Proceeds s t v w → AreCovered t w
covered_proceeds s t v w covers a = covered_watching t v w (covered_same s t v covers a.extends.same.clauses) a.watching

pub within_proceeds : (s t : SatState) (v w : WatchLists) → AreWithin s.qhead v → Proceeds s t v w → AreWithin t.qhead w
within_proceeds s t v w within a = within_same s.qhead t.qhead v w a.watching.notes (let same : t.qhead ≡ s.qhead = a.qhead in omega arith) within

pub done_proceeds : (s t : SatState) (v w : WatchLists) (d : UnitsDone) → HasDone s v d → Proceeds s t v w → HasDone t w d
done_proceeds s t v w d done a = record {
  assertions_within = subst (λ (us : Vec UnitClause Global). d.assertions ≤ length us.items) (sym a.watching.assertions) done.assertions_within;
  learnt_within = subst (λ (us : Vec UnitClause Global). d.learnt ≤ length us.items) (sym a.watching.learnt) done.learnt_within;
  assertions = subst (λ (us : Vec UnitClause Global). AllTrue (made_true (history t)) (take d.assertions us.items)) (sym a.watching.assertions) (all_true_more s t (take d.assertions v.assertions.items) a.extends done.assertions);
  learnt = subst (λ (us : Vec UnitClause Global). AllTrue (made_true (history t)) (take d.learnt us.items)) (sym a.watching.learnt) (all_true_more s t (take d.learnt v.learnt.items) a.extends done.learnt);
}

pub run_proceeds : (s t u : SatState) (v w x : WatchLists) (o : Option ClauseId) → Proceeds s t v w → IsRun t u w x o → IsRun s u v x o
run_proceeds s t u v w x None a (run, end) = (
  record {
    watching = watching_more v w x a.watching run.watching;
    settled = run.settled;
    fits = run.fits;
    extends = extends_more s t u a.extends run.extends;
    walked = run.walked;
    assertions = subst (λ (us : Vec UnitClause Global). AllTrue (made_true (history u)) us.items) a.watching.assertions run.assertions;
    learnt = subst (λ (us : Vec UnitClause Global). AllTrue (made_true (history u)) us.items) a.watching.learnt run.learnt;
    in_range = run.in_range;
    done = run.done;
    within = run.within;
  },
  end,
)
run_proceeds s t u v w x (Some n) a c = conflicts_later n.0 s t u v w x a.watching a.extends c
