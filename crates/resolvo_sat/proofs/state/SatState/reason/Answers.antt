use Rattle.std.proofs.Common.{slice_index_or, false, Bool, ◌≡◌, ◌<◌, ◌≤◌, ◌+◌, ◌-◌, ◌^◌, ℕ, inl, inr, List, ◌∷◌, [], ◌++◌, true, length, is_ok, sym, ◌∙◌, ap, subst, arith}
use Rattle.std.proofs.ResultArms.{chosen}
use Rattle.resolvo_pool_core.specs.declared.id.ClauseId.{ClauseId}
use Rattle.resolvo_store_core.specs.Signed.{Signed, negation}
use Rattle.resolvo_store_core.specs.declared.decision.Entry.{Entry}
use Rattle.resolvo_sat.specs.declared.state.SatState.{SatState}
use Rattle.resolvo_sat.specs.Entries.{before, literal_of, reason_of, IsPropagated}
use Rattle.resolvo_sat.specs.State.{clauses_of, count_of}
use Rattle.resolvo_sat.specs.Known.{clause_at}
use Rattle.resolvo_sat.specs.Analysis.{Walks, Seen, IsDecisionOrForced, IsReason, is_seen, denied}
use Rattle.resolvo_sat.proofs.Clauses.{length-lists}
use Rattle.resolvo_store_core.specs.Clauses.{yes, root}
use Rattle.resolvo_sat.proofs.MarkLemmas.{few_begun, few_passed, few_resolved, unmade}
use Rattle.resolvo_sat.proofs.Trails.{trail_before}
use Rattle.resolvo_sat.proofs.WalkLemmas.{Meets, came, meets, none_first, walk_explains, walk_begins, walk_keeps, walk_resolves, walk_at, rooted_before, rooted_before_false, false_forced, below_turn, kept_low, in_range_from}
use Rattle.resolvo_sat.proofs.MetLemmas.{reason_moved}
use Rattle.resolvo_sat.proofs.state.SatState.reason.Goals.{then-loop-at-test+else-marked-gt0, else-loop-at-test}
use Rattle.resolvo_sat.proofs.state.SatState.reason.Goals as goal

pub literals-reason-requires : goal.literals-reason-requires
literals-reason-requires c =
    let s : SatState = c.args.self.now in
    let m : Meets s c.args.place c.args.entry = meets s c.args.place c.args.entry c.requires.state c.requires.in_range c.requires.next in
    let forced : IsPropagated (clauses_of s) c.args.entry (before s.tracker.trail c.args.place) = false_forced s c.args.place c.args.entry m c.requires.fell in
    omega (arith, length-lists s.clauses, in_range_from (clauses_of s) (reason_of c.args.entry) _ forced.forced.present)

pub literal_made_true-requires : goal.literal_made_true-requires
literal_made_true-requires c =
    let s : SatState = c.args.self.now in
    let m : Meets s c.args.place c.args.entry = meets s c.args.place c.args.entry c.requires.state c.requires.in_range c.requires.next in
    let below : c.args.entry.decision.variable.0 < count_of s = m.follows.in_range in
    let small : count_of s < 2 ^ 31 = c.requires.state.small in
    omega arith

pub loop-at-init : goal.loop-at-init
loop-at-init c =
    let s : SatState = c.args.self.now in
    let d : Entry = c.args.entry in
    let m : Meets s c.args.place d = meets s c.args.place d c.requires.state c.requires.in_range c.requires.next in
    let forced : IsPropagated (clauses_of s) d (before s.tracker.trail c.args.place) = false_forced s c.args.place d m c.requires.fell in
    let rooted = rooted_before_false s c.args.place d c.requires.state m c.requires.fell in
    let causes : c.push.new.self.items ≡ d.decision.derived_from ∷ [] =
    chosen _ _ _ _ c.push.ensures.items (ap is_ok c.in_ok-push.was) ∙ ap (λ (l : List ClauseId). l ++ d.decision.derived_from ∷ []) c.new-causes.ensures.items in
    let kept : c.push-2.new.self.items ≡ literal_of d ∷ [] =
    chosen _ _ _ _ c.push-2.ensures.items (ap is_ok c.in_ok-push-2.was) ∙ ap (λ (l : List Signed). l ++ c.literal_made_true.result ∷ []) c.new-kept.ensures.items ∙ ap (λ (l : Signed). l ∷ []) c.literal_made_true.ensures in
    let marked : Seen (clause_at (clauses_of s) (reason_of d)) c.new-seen.result c.mark_seen.new.seen = subst (λ (l : List Signed). Seen l c.new-seen.result c.mark_seen.new.seen) c.literals-reason.ensures c.in_ok-first.ensures.marked in
    let own : is_seen c.mark_seen.new.seen d ≡ true = elim (marked.takes (literal_of d) forced.forced.present) [
      | inl z ↦ absurd (unmade (before s.tracker.trail c.args.place) d (yes root) m.follows.undecided rooted (sym z))
      | inr k ↦ k
    ] in
    let all = few_begun c.in_ok-first.first.all (count_of s) (clauses_of s) c.new-seen.result c.mark_seen.new.seen (before s.tracker.trail (c.args.place + 1)) (trail_before (count_of s) (clauses_of s) s.tracker.trail (c.args.place + 1) c.requires.state.trail) (λ v. ap (λ (xs : List Bool). slice_index_or xs v false) c.new-seen.ensures) c.in_ok-first.ensures.few in
    record {
      walks = subst (λ (k : List Signed). Walks s (literal_of d ∷ []) c.args.place c.mark_seen.new.seen k c.push.new.self.items) (sym kept)
          (subst (λ (r : List ClauseId). Walks s (literal_of d ∷ []) c.args.place c.mark_seen.new.seen (literal_of d ∷ []) r) (sym causes)
          (walk_begins s c.args.place d c.new-seen.result c.mark_seen.new.seen m rooted forced (λ v. ap (λ (xs : List Bool). slice_index_or xs v false) c.new-seen.ensures) marked));
      few = few_passed c.mark_seen.new.seen (before s.tracker.trail (c.args.place + 1)) d (before s.tracker.trail c.args.place) c.in_ok-first.first.all c.passed-begun.result.all c.requires.next own all c.passed-begun.ensures;
    }

pub loop-at-preserved-in_ok-push-3 : goal.loop-at-preserved-in_ok-push-3
loop-at-preserved-in_ok-push-3 c =
    let s : SatState = c.args.self.now in
    let p : ℕ = c.loop-at.at - 1 in
    let d : Entry = c.entry-earlier.result in
    let bound : c.loop-at.at ≤ length s.tracker.trail = c.loop-at.invariant.walks.in_range in
    let within : p < length s.tracker.trail = omega arith in
    let m : Meets s p d = meets s p d c.requires.state within c.entry-earlier.ensures.next in
    let marked : is_seen c.loop-at.seen d ≡ true = sym c.contains.ensures ∙ c.if-contains.true in
    let low : d.level < s.base_level = below_turn s p d c.requires.state m c.requires.above in
    let pushed = chosen _ _ _ _ c.push-then-is_decision.ensures.items (ap is_ok c.in_ok-push-3.was) ∙ ap (λ (l : Signed). c.loop-at.kept.items ++ l ∷ []) (c.negate.ensures ∙ ap negation c.literal_made_true-then-is_decision.ensures) in
    record {
      few = few_passed c.loop-at.seen (before s.tracker.trail c.loop-at.at) d (before s.tracker.trail p) c.loop-at.marked.all c.passed-marked.result.all (came s.tracker.trail c.loop-at.at d (omega arith) c.entry-earlier.ensures.next) marked c.loop-at.invariant.few c.passed-marked.ensures;
      walks = walk_keeps s (literal_of c.args.entry ∷ []) p d c.loop-at.seen c.loop-at.kept.items c.push-then-is_decision.new.self.items c.loop-at.causes.items m marked
          (kept_low s p d 0 (omega arith) (λ above under. absurd (omega arith))
          (subst (IsDecisionOrForced s d (before s.tracker.trail p)) c.if-is_decision.true c.is_decision.ensures))
          pushed (walk_at s (literal_of c.args.entry ∷ []) c.loop-at.at c.loop-at.seen c.loop-at.kept.items c.loop-at.causes.items c.loop-at-test.true c.loop-at.invariant.walks);
    }

pub literals-reason-requires-else-is_decision : goal.literals-reason-requires-else-is_decision
literals-reason-requires-else-is_decision c =
    let s : SatState = c.args.self.now in
    let p : ℕ = c.loop-at.at - 1 in
    let d : Entry = c.entry-earlier.result in
    let forced : IsPropagated (clauses_of s) d (before s.tracker.trail p) = subst (IsDecisionOrForced s d (before s.tracker.trail p)) c.if-is_decision.false c.is_decision.ensures in
    omega (arith, length-lists s.clauses, in_range_from (clauses_of s) (reason_of d) _ forced.forced.present)

pub loop-at-preserved-else-is_decision : goal.loop-at-preserved-else-is_decision
loop-at-preserved-else-is_decision c =
    let s : SatState = c.args.self.now in
    let p : ℕ = c.loop-at.at - 1 in
    let d : Entry = c.entry-earlier.result in
    let bound : c.loop-at.at ≤ length s.tracker.trail = c.loop-at.invariant.walks.in_range in
    let within : p < length s.tracker.trail = omega arith in
    let m : Meets s p d = meets s p d c.requires.state within c.entry-earlier.ensures.next in
    let is_marked_d : is_seen c.loop-at.seen d ≡ true = sym c.contains.ensures ∙ c.if-contains.true in
    let forced : IsPropagated (clauses_of s) d (before s.tracker.trail p) = subst (IsDecisionOrForced s d (before s.tracker.trail p)) c.if-is_decision.false c.is_decision.ensures in
    let marked : Seen (clause_at (clauses_of s) (reason_of d)) c.loop-at.seen c.mark_seen-else-is_decision.new.seen = subst (λ (l : List Signed). Seen l c.loop-at.seen c.mark_seen-else-is_decision.new.seen) c.literals-reason-else-is_decision.ensures c.in_ok-more.ensures.marked in
    let pushed = chosen _ _ _ _ c.push-else-is_decision.ensures.items (ap is_ok c.in_ok-push-4.was) in
    let passed : length (denied c.loop-at.seen (before s.tracker.trail p)) ≤ c.passed-marked.result.all = few_passed c.loop-at.seen (before s.tracker.trail c.loop-at.at) d (before s.tracker.trail p) c.loop-at.marked.all c.passed-marked.result.all (came s.tracker.trail c.loop-at.at d (omega arith) c.entry-earlier.ensures.next) is_marked_d c.loop-at.invariant.few c.passed-marked.ensures in
    record {
      few = few_resolved c.passed-marked.result.all c.in_ok-more.more.all c.plus-marked.result.all _ (count_of s) (clauses_of s) c.loop-at.seen c.mark_seen-else-is_decision.new.seen s.tracker.trail p m.trail (omega arith) (omega arith) c.in_ok-more.ensures.few c.plus-marked.ensures passed;
      walks = walk_resolves s (literal_of c.args.entry ∷ []) p d c.loop-at.seen c.mark_seen-else-is_decision.new.seen c.loop-at.kept.items c.loop-at.causes.items c.push-else-is_decision.new.self.items m
          (rooted_before s p d c.loop-at.seen c.requires.state m c.loop-at.invariant.walks.rootless is_marked_d) forced marked pushed
          (walk_at s (literal_of c.args.entry ∷ []) c.loop-at.at c.loop-at.seen c.loop-at.kept.items c.loop-at.causes.items c.loop-at-test.true c.loop-at.invariant.walks);
    }

pub returns-clause-reason : goal.returns-clause-reason
returns-clause-reason c =
    let s : SatState = c.args.self.now in
    let none : length (denied c.loop-at.seen (before s.tracker.trail c.loop-at.at)) ≤ 0 = elim c.loop-at-test.branch [
      | then-loop-at-test+else-marked-gt0 w ↦ omega (arith, c.loop-at.invariant.few, w.if-marked-gt0.false)
      | else-loop-at-test w ↦ none_first s.tracker.trail c.loop-at.at c.loop-at.seen w.loop-at-test.false
    ] in
    reason_moved s (literal_of c.args.entry) c.loop-at.kept.items c.in_ok-with_first_last.field-0.items c.reverse.new.self.items c.in_ok-with_first_last.ensures.same
    (subst (λ (causes : List ClauseId). IsReason s (literal_of c.args.entry) c.loop-at.kept.items causes) (sym c.reverse.ensures.items) (walk_explains s (literal_of c.args.entry) c.loop-at.at c.loop-at.seen c.loop-at.kept.items c.loop-at.causes.items none c.loop-at.invariant.walks))
