use Rattle.std.proofs.Common.{◌≡◌, ◌-◌, ◌<◌, ◌≤◌, ℕ, List, ◌∷◌, [], ◌++◌, true, length, is_ok, sym, ◌∙◌, ap, subst, arith}
use Rattle.std.proofs.ResultArms.{chosen}
use Rattle.resolvo_pool_core.specs.declared.id.ClauseId.{ClauseId}
use Rattle.resolvo_store_core.specs.Signed.{Signed}
use Rattle.resolvo_store_core.specs.declared.decision.Entry.{Entry}
use Rattle.resolvo_sat.specs.declared.state.SatState.{SatState}
use Rattle.resolvo_sat.specs.Entries.{before, top_level, IsPropagated, reason_of}
use Rattle.resolvo_sat.specs.State.{count_of, clauses_of}
use Rattle.resolvo_sat.specs.Known.{clause_at}
use Rattle.resolvo_sat.specs.Analysis.{Walks, Seen, Collects, IsBelow, IsAsserting, IsDecisionOrForced, IsRefusal, is_seen, denied}
use Rattle.resolvo_sat.proofs.Clauses.{length-lists}
use Rattle.resolvo_sat.proofs.MarkLemmas.{few_begun, few_passed, few_resolved}
use Rattle.resolvo_sat.proofs.Trails.{trail_before}
use Rattle.resolvo_sat.proofs.WalkLemmas.{Meets, came, meets, walk_starts, walk_keeps, walk_resolves, walk_at, rooted_before, kept_low, in_range_from, if_ok_more, none_first, walk_ends}
use Rattle.resolvo_sat.proofs.MetLemmas.{met_starts, met_resolves, learnt_analysis, refusal_moved}
use Rattle.resolvo_sat.proofs.state.SatState.analyze.Goals.{then-loop-place-test+else-marked-gt0, else-loop-place-test}
use Rattle.resolvo_sat.proofs.state.SatState.analyze.Goals as goal

pub loop-place-init : goal.loop-place-init
loop-place-init c =
    let s : SatState = c.args.self.now in
    let pushed : c.push.new.self.items ≡ c.args.falsified ∷ [] =
    chosen _ _ _ _ c.push.ensures.items (ap is_ok c.in_ok-push.was) ∙ ap (λ (l : List ClauseId). l ++ c.args.falsified ∷ []) c.new-causes.ensures.items in
    let whole : length c.stack-place.result.now ≡ length s.tracker.trail = ap length c.stack-place.ensures.trail in
    let bound : c.args.falsified.0 < length (clauses_of s) = omega (arith, length-lists s.clauses, c.requires.in_range) in
    let marked : Seen (clause_at (clauses_of s) c.args.falsified.0) c.begin.new.self c.mark_seen.new.seen = subst (λ (l : List Signed). Seen l c.begin.new.self c.mark_seen.new.seen) c.literals-literals.ensures c.in_ok-marked.ensures.marked in
    let collected : Collects (clause_at (clauses_of s) c.args.falsified.0) c.begin.new.self [] c.mark_seen.new.seen c.mark_seen.new.met.items = subst (λ (l : List Signed). Collects l c.begin.new.self [] c.mark_seen.new.seen c.mark_seen.new.met.items) c.literals-literals.ensures
    (subst (λ (e : List Signed). Collects (c.literals-literals.result.0.now ++ c.literals-literals.result.1.now) c.begin.new.self e c.mark_seen.new.seen c.mark_seen.new.met.items) c.new-met.ensures.items c.in_ok-marked.ensures.collected) in
    record {
      met = met_starts s c.args.falsified c.begin.new.self c.mark_seen.new.seen c.mark_seen.new.met.items c.requires.falls c.begin.ensures collected;
      few = few_begun c.in_ok-marked.marked.all (count_of s) (clauses_of s) c.begin.new.self c.mark_seen.new.seen (before s.tracker.trail (length c.stack-place.result.now)) (trail_before (count_of s) (clauses_of s) s.tracker.trail (length c.stack-place.result.now) c.requires.state.trail) c.begin.ensures c.in_ok-marked.ensures.few;
      walks = subst (λ (n : ℕ). Walks s [] n c.mark_seen.new.seen c.new-kept.result.items c.push.new.self.items) (sym whole)
          (subst (λ (k : List Signed). Walks s [] (length s.tracker.trail) c.mark_seen.new.seen k c.push.new.self.items) (sym c.new-kept.ensures.items)
          (subst (λ (r : List ClauseId). Walks s [] (length s.tracker.trail) c.mark_seen.new.seen [] r) (sym pushed)
          (walk_starts s c.args.falsified c.begin.new.self c.mark_seen.new.seen c.requires.state bound c.requires.falls c.begin.ensures marked)));
    }

pub returns-then-is_asserting-clause-analysis : goal.returns-then-is_asserting-clause-analysis
returns-then-is_asserting-clause-analysis c =
    let s : SatState = c.args.self.now in
    let p : ℕ = c.loop-place.place - 1 in
    let d : Entry = c.entry-entry.result in
    let bound : c.loop-place.place ≤ length s.tracker.trail = c.loop-place.invariant.walks.in_range in
    let within : p < length s.tracker.trail = omega arith in
    let m : Meets s p d = meets s p d c.requires.state within c.entry-entry.ensures.next in
    let marked : is_seen c.loop-place.seen d ≡ true = sym c.contains.ensures ∙ c.if-contains.true in
    let asserts : IsAsserting s c.loop-place.seen d (before s.tracker.trail p) true = subst (IsAsserting s c.loop-place.seen d (before s.tracker.trail p)) c.if-is_asserting.true c.is_asserting.ensures in
    if_ok_more c.learnt.result
    (λ x of. learnt_analysis s p d c.loop-place.seen c.loop-place.kept.items c.loop-place.met.items c.in_ok-others.others.literals.items c.loop-place.causes.items c.in_ok-others.others.level x c.requires.state m marked asserts.1 asserts.0 c.loop-place.invariant.met
    (subst (λ (ls : List Signed). IsBelow s ls d.level c.in_ok-others.others.literals.items c.in_ok-others.others.level) c.as_slice.ensures.value c.in_ok-others.ensures.below)
    (walk_at s [] c.loop-place.place c.loop-place.seen c.loop-place.kept.items c.loop-place.causes.items c.loop-place-test.true c.loop-place.invariant.walks) of)
    c.learnt.ensures.learnt

pub loop-place-preserved-in_ok-push-2 : goal.loop-place-preserved-in_ok-push-2
loop-place-preserved-in_ok-push-2 c =
    let s : SatState = c.args.self.now in
    let p : ℕ = c.loop-place.place - 1 in
    let d : Entry = c.entry-entry.result in
    let bound : c.loop-place.place ≤ length s.tracker.trail = c.loop-place.invariant.walks.in_range in
    let within : p < length s.tracker.trail = omega arith in
    let m : Meets s p d = meets s p d c.requires.state within c.entry-entry.ensures.next in
    let marked : is_seen c.loop-place.seen d ≡ true = sym c.contains.ensures ∙ c.if-contains.true in
    let pushed = chosen _ _ _ _ c.push-then-is_decision.ensures.items (ap is_ok c.in_ok-push-2.was) ∙ ap (λ (l : Signed). c.loop-place.kept.items ++ l ∷ []) (c.negate.ensures ∙ ap Rattle.resolvo_store_core.specs.Signed.negation c.literal_made_true.ensures) in
    record {
      met = c.loop-place.invariant.met;
      few = few_passed c.loop-place.seen (before s.tracker.trail c.loop-place.place) d (before s.tracker.trail p) c.loop-place.marked.all c.passed-marked.result.all (came s.tracker.trail c.loop-place.place d (omega arith) c.entry-entry.ensures.next) marked c.loop-place.invariant.few c.passed-marked.ensures;
      walks = walk_keeps s [] p d c.loop-place.seen c.loop-place.kept.items c.push-then-is_decision.new.self.items c.loop-place.causes.items m marked
          (kept_low s p d (top_level (before s.tracker.trail p)) (omega arith) (subst (IsAsserting s c.loop-place.seen d (before s.tracker.trail p)) c.if-is_asserting.false c.is_asserting.ensures)
          (subst (IsDecisionOrForced s d (before s.tracker.trail p)) c.if-is_decision.true c.is_decision.ensures))
          pushed (walk_at s [] c.loop-place.place c.loop-place.seen c.loop-place.kept.items c.loop-place.causes.items c.loop-place-test.true c.loop-place.invariant.walks);
    }

pub literals-reason-requires : goal.literals-reason-requires
literals-reason-requires c =
    let s : SatState = c.args.self.now in
    let p : ℕ = c.loop-place.place - 1 in
    let d : Entry = c.entry-entry.result in
    let forced : IsPropagated (clauses_of s) d (before s.tracker.trail p) = subst (IsDecisionOrForced s d (before s.tracker.trail p)) c.if-is_decision.false c.is_decision.ensures in
    omega (arith, length-lists s.clauses, in_range_from (clauses_of s) (reason_of d) _ forced.forced.present)

pub loop-place-preserved-else-is_decision : goal.loop-place-preserved-else-is_decision
loop-place-preserved-else-is_decision c =
    let s : SatState = c.args.self.now in
    let p : ℕ = c.loop-place.place - 1 in
    let d : Entry = c.entry-entry.result in
    let bound : c.loop-place.place ≤ length s.tracker.trail = c.loop-place.invariant.walks.in_range in
    let within : p < length s.tracker.trail = omega arith in
    let m : Meets s p d = meets s p d c.requires.state within c.entry-entry.ensures.next in
    let is_marked_d : is_seen c.loop-place.seen d ≡ true = sym c.contains.ensures ∙ c.if-contains.true in
    let forced : IsPropagated (clauses_of s) d (before s.tracker.trail p) = subst (IsDecisionOrForced s d (before s.tracker.trail p)) c.if-is_decision.false c.is_decision.ensures in
    let marked : Seen (clause_at (clauses_of s) (reason_of d)) c.loop-place.seen c.mark_seen-else-is_decision.new.seen = subst (λ (l : List Signed). Seen l c.loop-place.seen c.mark_seen-else-is_decision.new.seen) c.literals-reason.ensures c.in_ok-more.ensures.marked in
    let pushed = chosen _ _ _ _ c.push-else-is_decision.ensures.items (ap is_ok c.in_ok-push-3.was) in
    let passed : length (denied c.loop-place.seen (before s.tracker.trail p)) ≤ c.passed-marked.result.all = few_passed c.loop-place.seen (before s.tracker.trail c.loop-place.place) d (before s.tracker.trail p) c.loop-place.marked.all c.passed-marked.result.all (came s.tracker.trail c.loop-place.place d (omega arith) c.entry-entry.ensures.next) is_marked_d c.loop-place.invariant.few c.passed-marked.ensures in
    let collected : Collects (clause_at (clauses_of s) (reason_of d)) c.loop-place.seen c.loop-place.met.items c.mark_seen-else-is_decision.new.seen c.mark_seen-else-is_decision.new.met.items =
    subst (λ (l : List Signed). Collects l c.loop-place.seen c.loop-place.met.items c.mark_seen-else-is_decision.new.seen c.mark_seen-else-is_decision.new.met.items) c.literals-reason.ensures c.in_ok-more.ensures.collected in
    record {
      met = met_resolves s p d c.loop-place.seen c.mark_seen-else-is_decision.new.seen c.loop-place.met.items c.mark_seen-else-is_decision.new.met.items m c.loop-place.invariant.walks.rootless is_marked_d forced collected c.loop-place.invariant.met;
      few = few_resolved c.passed-marked.result.all c.in_ok-more.more.all c.plus-marked.result.all _ (count_of s) (clauses_of s) c.loop-place.seen c.mark_seen-else-is_decision.new.seen s.tracker.trail p m.trail (omega arith) (omega arith) c.in_ok-more.ensures.few c.plus-marked.ensures passed;
      walks = walk_resolves s [] p d c.loop-place.seen c.mark_seen-else-is_decision.new.seen c.loop-place.kept.items c.loop-place.causes.items c.push-else-is_decision.new.self.items m
          (rooted_before s p d c.loop-place.seen c.requires.state m c.loop-place.invariant.walks.rootless is_marked_d) forced marked pushed
          (walk_at s [] c.loop-place.place c.loop-place.seen c.loop-place.kept.items c.loop-place.causes.items c.loop-place-test.true c.loop-place.invariant.walks);
    }

pub returns-clause-analysis : goal.returns-clause-analysis
returns-clause-analysis c =
    let s : SatState = c.args.self.now in
    let none : length (denied c.loop-place.seen (before s.tracker.trail c.loop-place.place)) ≤ 0 = elim c.loop-place-test.branch [
      | then-loop-place-test+else-marked-gt0 w ↦ omega (arith, c.loop-place.invariant.few, w.if-marked-gt0.false)
      | else-loop-place-test w ↦ none_first s.tracker.trail c.loop-place.place c.loop-place.seen w.loop-place-test.false
    ] in
    refusal_moved s c.loop-place.kept.items c.in_ok-with_own_last.field-0.items c.reverse.new.self.items c.in_ok-with_own_last.ensures.same
    (subst (λ (causes : List ClauseId). IsRefusal s c.loop-place.kept.items causes) (sym c.reverse.ensures.items) (walk_ends s c.loop-place.place c.loop-place.seen c.loop-place.kept.items c.loop-place.causes.items none c.loop-place.invariant.walks))
