use Rattle.std.proofs.Common.{◌≤◌, List, true, ◌∙◌, ap, arith, refl, sym, subst}
use Rattle.std.proofs.lemmas.Bool.{both_ways}
use Rattle.resolvo_store_core.specs.declared.decision.Entry.{Entry}
use Rattle.resolvo_store_core.specs.declared.pick.NeedClause.{NeedClause}
use Rattle.resolvo_store_core.specs.Trail.{Tracked}
use Rattle.resolvo_decide.specs.Queue.{needs_of}
use Rattle.resolvo_decide.specs.declared.decide_queue.DecideQueue.{DecideQueue}
use Rattle.resolvo_store.specs.Stored.{plain}
use Rattle.resolvo_store.specs.Calls.{picked_in}
use Rattle.resolvo_store.proofs.Plain.{picked_plain}
use Rattle.resolvo_store.proofs.QueueLemmas.{queue_synced, queue_picked}
use Rattle.resolvo_store.proofs.clause_store.ClauseStore.next_decision.Goals as goal

pub next_decision-requires-clause-sound : goal.next_decision-requires-clause-sound
next_decision-requires-clause-sound g c = c.sync.ensures.sound c.self.inside.lists c.self.invariant.3.sound

pub next_decision-requires-clause-hot : goal.next_decision-requires-clause-hot
next_decision-requires-clause-hot g c =
    let inv = c.self.invariant.3 in
    record {
      bounded = λ n. subst (λ (q : DecideQueue _). g.N.Scores.ScoreMap.score_of c.self.inside.scores n ≤ q.most) (sym c.sync.ensures.rest) (inv.hot n);
      known = λ h. absurd (both_ways true (sym h ∙ ap (λ (q : DecideQueue _). q.cold.is_known) c.sync.ensures.rest ∙ inv.unknown) refl);
    }

pub next_decision-requires-clause-fewest : goal.next_decision-requires-clause-fewest
next_decision-requires-clause-fewest g c = λ values agree score q d a offered. omega arith

pub returns-clause-answer : goal.returns-clause-answer
returns-clause-answer g c =
    let score = g.N.Scores.ScoreMap.score_of in
    let in_it = c.self.inside in
    let pick = c.in_ok-next.ensures.picked in
    sym pick.picked
    ∙ picked_plain score (record { lists = in_it.lists; clauses = in_it.clauses.items; watched = in_it.watched.items; watches = in_it.watches; trail = c.sync.new.trail.trail; needs = needs_of c.sync.new.self; scores = in_it.scores }) pick.values pick.agree
    ∙ ap (λ (es : List Entry). picked_in (plain score (record { lists = in_it.lists; clauses = in_it.clauses.items; watched = in_it.watched.items; watches = in_it.watches; trail = es; needs = needs_of c.sync.new.self; scores = in_it.scores }))) (ap (λ (t : Tracked). t.trail) c.sync.ensures.trail)
    ∙ ap (λ (rs : List NeedClause). picked_in (plain score (record { lists = in_it.lists; clauses = in_it.clauses.items; watched = in_it.watched.items; watches = in_it.watches; trail = in_it.tracker.trail; needs = rs; scores = in_it.scores }))) (ap needs_of c.sync.ensures.rest)
    ∙ ap (λ k. picked_in (plain score k)) c.self.view_is

pub invariant_of-self-in_err-next : goal.invariant_of-self-in_err-next
invariant_of-self-in_err-next g c =
    let in_it = c.self.inside in
    let inv = c.self.invariant in
    let score = g.N.Scores.ScoreMap.score_of in_it.scores in
    let synced = queue_synced in_it.lists in_it.tracker c.sync.new.trail score in_it.queue c.sync.new.self c.sync.ensures.sound c.sync.ensures.seen c.sync.ensures.rest inv.3 in
    let picked = c.next_decision.ensures in
    (inv.0, inv.1, inv.2, queue_picked in_it.lists c.sync.new.trail score c.sync.new.self c.next_decision.new.self picked.sound picked.synced picked.rest picked.known synced)

pub invariant_of-self : goal.invariant_of-self
invariant_of-self g c =
    let in_it = c.self.inside in
    let inv = c.self.invariant in
    let score = g.N.Scores.ScoreMap.score_of in_it.scores in
    let synced = queue_synced in_it.lists in_it.tracker c.sync.new.trail score in_it.queue c.sync.new.self c.sync.ensures.sound c.sync.ensures.seen c.sync.ensures.rest inv.3 in
    (inv.0, inv.1, inv.2, synced)
