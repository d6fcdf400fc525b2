use Rattle.std.proofs.Common.{◌≡◌, ◌∙◌, ap, sym, subst}
use Rattle.resolvo_store_core.specs.Lists.{named_by}
use Rattle.resolvo_store_core.specs.Pick.{pick_by}
use Rattle.resolvo_store_core.specs.Values.{value_at}
use Rattle.resolvo_store_core.proofs.Trails.{seen_prefix}
use Rattle.resolvo_decide.specs.Queue.{needs_of}
use Rattle.resolvo_sat.specs.State.{count_of, clauses_of}
use Rattle.resolvo_state.proofs.Positions.{prefix_equal}
use Rattle.resolvo_encoder.specs.Progress.{AreQuiet}
use Rattle.resolvo_encoder.specs.declared.encoder.Encoder.{Encoder}
use Rattle.resolvo_encoder.proofs.BuildLemmas.{built_queue}
use Rattle.resolvo_encoder.proofs.DecideLemmas.{trail_values}
use Rattle.resolvo_encoder.proofs.UndecidedLemmas.{leaves_undecided}
use Rattle.resolvo_encoder.proofs.encoder.Encoder.next_decision.Goals as goal

pub next_decision-requires-clause-fewest : goal.next_decision-requires-clause-fewest
next_decision-requires-clause-fewest g c =
    leaves_undecided c.sync_queue.new.self c.in_ok-sync_queue.ensures.built (subst (λ (x : Encoder _ _). AreQuiet x) (sym c.in_ok-sync_queue.ensures.syncs.rest) c.requires.quiet)

pub returns-clause-next : goal.returns-clause-next
returns-clause-next g c =
    let e = c.sync_queue.new.self in
    let s = e.coding.search in
    let pick = c.in_ok-next.ensures.picked in
    let needs : needs_of c.next_decision.new.self ≡ needs_of e.queue = ap needs_of c.next_decision.ensures.rest in
    record {
      values = value_at pick.values;
      agree = trail_values (count_of s) (clauses_of s) s.tracker.trail pick.values c.in_ok-sync_queue.ensures.built.coding.ready.state.trail pick.agree;
      picked = ap (pick_by (named_by e.lists) (value_at pick.values) (g.C.ScoreMap.score_of c.args.scores.now.map)) needs ∙ ap (λ m. pick_by (named_by e.lists) (value_at pick.values) (g.C.ScoreMap.score_of m) (needs_of e.queue)) (sym c.map.ensures) ∙ pick.picked;
    }

pub returns-clause-built : goal.returns-clause-built
returns-clause-built g c =
    let e = c.sync_queue.new.self in
    let q = c.next_decision.new.self in
    built_queue e q c.in_ok-sync_queue.ensures.built (ap needs_of c.next_decision.ensures.rest) c.next_decision.ensures.sound
    (seen_prefix e.coding.search.tracker q.undecided.seen.items (prefix_equal q.undecided.seen.items e.coding.search.tracker.trail (sym c.next_decision.ensures.synced.seen)))

pub returns-clause-syncs : goal.returns-clause-syncs
returns-clause-syncs g c =
    let first = c.in_ok-sync_queue.ensures.syncs in
    let q = c.next_decision.new.self in
    record {
      floor = first.floor;
      rest = ap (λ (x : Encoder _ _). record x { queue = q }) first.rest;
      queue = ap needs_of c.next_decision.ensures.rest ∙ first.queue;
    }
