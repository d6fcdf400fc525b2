use Rattle.std.proofs.Common.{◌≡◌, true, false, refl, sym, ◌∙◌, subst}
use Rattle.resolvo_store_core.specs.Signed.{Signed, negation, has}
use Rattle.resolvo_store_core.specs.Pairs.{other_of}
use Rattle.resolvo_sat.specs.Known.{Forces, clause_at}
use Rattle.resolvo_sat.specs.State.{history, clauses_of}
use Rattle.resolvo_sat.specs.Entries.{made_true}
use Rattle.resolvo_sat.proofs.ExtendLemmas.{extends_nothing, set_extends}
use Rattle.resolvo_sat.proofs.VisitLemmas.{pair_watches, forces_other, falls_whole, keeps_recorded}
use Rattle.resolvo_sat.proofs.state.SatState.visit_clause.Goals as goal

pub assign-requires-clause-forces : goal.assign-requires-clause-forces
assign-requires-clause-forces c =
    let s = c.args.self.now in
    let known = made_true (history s) in
    let is : c.other-other.result ≡ other_of c.args.watched c.args.cursor.now.literal = c.other-other.ensures in
    subst (λ (l : Signed). Forces known (clause_at (clauses_of s) c.args.clause.0) l) (sym is)
    (forces_other known (clause_at (clauses_of s) c.args.clause.0) c.args.watched c.args.cursor.now.literal (c.requires.fits.own c.args.clause.0 c.args.watched c.requires.pair)
    (pair_watches s c.args.watching.now c.args.cursor.now.literal c.args.cursor.now.place c.args.clause c.args.watched c.requires.fits c.requires.present c.requires.pair)
    c.requires.known c.in-None.ensures
    (subst (λ (l : Signed). has known l ≡ false) is (sym c.is_true.ensures ∙ c.if-is_true.false))
    (subst (λ (l : Signed). has known (negation l) ≡ false) is (sym c.is_false.ensures ∙ c.if-is_false.false)))

pub returns-then-is_false-clause-met : goal.returns-then-is_false-clause-met
returns-then-is_false-clause-met c =
    let s = c.args.self.now in
    let known = made_true (history s) in
    let is : c.other-other.result ≡ other_of c.args.watched c.args.cursor.now.literal = c.other-other.ensures in
    record {
      same_state = refl;
      same_watching = refl;
      falls = falls_whole known (clause_at (clauses_of s) c.args.clause.0) c.args.watched c.args.cursor.now.literal
          (pair_watches s c.args.watching.now c.args.cursor.now.literal c.args.cursor.now.place c.args.clause c.args.watched c.requires.fits c.requires.present c.requires.pair)
          c.requires.known c.in-None.ensures
          (subst (λ (l : Signed). has known (negation l) ≡ true) is (sym c.is_false.ensures ∙ c.if-is_false.true));
    }

pub returns-then-is_true-clause-met : goal.returns-then-is_true-clause-met
returns-then-is_true-clause-met c =
    keeps_recorded c.args.cursor.now.literal c.other-other.result c.args.watched c.args.self.now c.args.self.now c.record_guard.new.self c.args.watching.now c.other-other.ensures (extends_nothing c.args.self.now c.requires.state) refl c.record_guard.ensures

pub returns-in_ok-assign-in-None-clause-met : goal.returns-in_ok-assign-in-None-clause-met
returns-in_ok-assign-in-None-clause-met c =
    let set = c.in_ok-assign-in-None.ensures.set in
    keeps_recorded c.args.cursor.now.literal c.other-other.result c.args.watched c.args.self.now c.assign.new.self c.record_guard-else-is_false.new.self c.args.watching.now c.other-other.ensures
    (set_extends c.args.self.now c.assign.new.self c.args.clause c.other-other.result set) set.qhead c.record_guard-else-is_false.ensures
