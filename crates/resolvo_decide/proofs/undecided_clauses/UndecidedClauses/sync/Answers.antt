use Rattle.std.proofs.Common.{◌-◌, ◌≤◌, List, ap, arith, length, length-append, subst, sym, take, drop}
use Rattle.resolvo_store_core.specs.AtMostOne.{IsPrefixOf}
use Rattle.resolvo_store_core.specs.declared.decision.Entry.{Entry}
use Rattle.resolvo_decide.proofs.FitLemmas.{keeps_both, seen_more, seen_all, seen_some, seen_fresh}
use Rattle.resolvo_decide.proofs.undecided_clauses.UndecidedClauses.sync.Goals as goal

pub sync_entry-requires : goal.sync_entry-requires
sync_entry-requires c =
    let low : c.len-seen.result ≤ length c.args.trail.now = omega (arith, ap length c.requires.seen.1, length-append c.args.self.now.seen.items c.requires.seen.0) in
    seen_fresh c.len-seen.result c.loop-entry.entry-index c.args.trail.now c.loop-entry.self.seen.items _ low c.loop-entry.invariant.seen c.loop-entry-test.true c.requires.once

pub loop-entry-preserved : goal.loop-entry-preserved
loop-entry-preserved c =
    let common = c.len-seen.result in
    record {
      seen = seen_more (take common c.args.trail.now) (take (length c.args.trail.now - common) (drop common c.args.trail.now)) c.loop-entry.self.seen.items c.sync_entry.new.self.seen.items c.loop-entry.entry-index _ c.loop-entry.invariant.seen c.loop-entry-test.true c.in_ok-sync_entry.ensures.seen;
      fits = keeps_both c.args.self.now c.loop-entry.self c.sync_entry.new.self c.loop-entry.invariant.fits c.sync_entry.ensures.fits;
    }

pub returns-clause-synced : goal.returns-clause-synced
returns-clause-synced c =
    let low : c.len-seen.result ≤ length c.args.trail.now = omega (arith, ap length c.requires.seen.1, length-append c.args.self.now.seen.items c.requires.seen.0) in
    seen_all c.len-seen.result c.loop-entry.entry-index c.args.trail.now c.loop-entry.self.seen.items low c.loop-entry.invariant.seen c.loop-entry-test.false

pub returns-clause-seen : goal.returns-clause-seen
returns-clause-seen c =
    let low : c.len-seen.result ≤ length c.args.trail.now = omega (arith, ap length c.requires.seen.1, length-append c.args.self.now.seen.items c.requires.seen.0) in
    seen_some c.len-seen.result c.loop-entry.entry-index c.args.trail.now c.loop-entry.self.seen.items low c.loop-entry.invariant.seen

pub returns-in_err-sync_entry-clause-seen : goal.returns-in_err-sync_entry-clause-seen
returns-in_err-sync_entry-clause-seen c =
    let low : c.len-seen.result ≤ length c.args.trail.now = omega (arith, ap length c.requires.seen.1, length-append c.args.self.now.seen.items c.requires.seen.0) in
    subst (λ (es : List Entry). IsPrefixOf es c.args.trail.now) (sym c.in_err-sync_entry.ensures.err) (seen_some c.len-seen.result c.loop-entry.entry-index c.args.trail.now c.loop-entry.self.seen.items low c.loop-entry.invariant.seen)

pub returns-in_err-sync_entry-clause-fits : goal.returns-in_err-sync_entry-clause-fits
returns-in_err-sync_entry-clause-fits c = keeps_both c.args.self.now c.loop-entry.self c.sync_entry.new.self c.loop-entry.invariant.fits c.sync_entry.ensures.fits
