use Rattle.std.proofs.Common.{◌≡◌, ◌∙◌, List, true, sym, subst}
use Rattle.resolvo_store_core.specs.declared.lists.Candidate.{Candidate}
use Rattle.resolvo_store.specs.Stored.{Kept, plain, Like}
use Rattle.resolvo_store.specs.Calls.{can_fix}
use Rattle.resolvo_store.specs.Changes.{candidates_from, with_candidates}
use Rattle.resolvo_store.proofs.Plain.{on_ok, candidates_like}
use Rattle.resolvo_store.proofs.QueueLemmas.{sound_tried, can_fix_fresh}
use Rattle.resolvo_store.proofs.clause_store.ClauseStore.fix_candidates.Goals as goal

pub returns-clause-store : goal.returns-clause-store
returns-clause-store g c =
    let score = g.N.Scores.ScoreMap.score_of in
    let in_it = c.self.inside in
    let k : Kept _ _ = record { lists = in_it.lists; clauses = in_it.clauses.items; watched = in_it.watched.items; watches = in_it.watches; trail = in_it.tracker.trail; needs = in_it.queue.registered.items; scores = in_it.scores } in
    let listed : c.as_slice.result.now ≡ candidates_from c.args.groups.now = c.as_slice.ensures.value ∙ c.in_ok-candidates.ensures.candidates in
    on_ok c.fix_candidates.result c.fix_candidates.ensures.fixed (λ fixed.
    subst (λ o. Like (plain score (record k { lists = c.fix_candidates.new.self })) (with_candidates c.args.requirement (candidates_from c.args.groups.now) (plain score o))) c.self.view_is
    (subst (λ (cs : List (Candidate _)). Like (plain score (record k { lists = c.fix_candidates.new.self })) (with_candidates c.args.requirement cs (plain score k))) listed
    (candidates_like score k c.fix_candidates.new.self c.args.requirement c.as_slice.result.now fixed)))

pub invariant_of-self : goal.invariant_of-self
invariant_of-self g c =
    let inv = c.self.invariant in
    let score = g.N.Scores.ScoreMap.score_of in
    let in_it = c.self.inside in
    let k : Kept _ _ = record { lists = in_it.lists; clauses = in_it.clauses.items; watched = in_it.watched.items; watches = in_it.watches; trail = in_it.tracker.trail; needs = in_it.queue.registered.items; scores = in_it.scores } in
    let fresh = can_fix_fresh score k c.args.requirement c.args.groups.now (subst (λ o. can_fix (plain score o) c.args.requirement c.args.groups.now ≡ true) (sym c.self.view_is) c.requires) in
    (inv.0, inv.1, inv.2, record { sound = sound_tried c.fix_candidates.result c.args.requirement c.as_slice.result.now in_it.lists c.fix_candidates.new.self in_it.queue fresh c.fix_candidates.ensures.fixed c.fix_candidates.ensures.err inv.3.sound; seen = inv.3.seen; hot = inv.3.hot; unknown = inv.3.unknown })
