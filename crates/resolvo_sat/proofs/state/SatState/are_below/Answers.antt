use Rattle.std.proofs.Common.{◌≡◌, ◌+◌, ◌-◌, ℕ, false, List, ◌∷◌, sym, ◌∙◌, ap, arith}
use Rattle.resolvo_store_core.specs.declared.decision.Entry.{Entry}
use Rattle.resolvo_sat.specs.Entries.{before, top_level}
use Rattle.resolvo_sat.specs.State.{count_of, clauses_of}
use Rattle.resolvo_sat.specs.Analysis.{is_seen}
use Rattle.resolvo_sat.proofs.Trails.{trail_before}
use Rattle.resolvo_sat.proofs.MarkLemmas.{below_top, below_passes, below_first}
use Rattle.resolvo_sat.proofs.state.SatState.are_below.Goals as goal

pub returns-then-entry-level : goal.returns-then-entry-level
returns-then-entry-level c = λ _.
    let xs : List Entry = c.args.self.now.tracker.trail in
    let n : ℕ = c.loop-place.place in
    let same : n ≡ n - 1 + 1 = omega arith in
    let is : before xs n ≡ c.entry-entry.result ∷ before xs (n - 1) = ap (before xs) same ∙ c.entry-entry.ensures.next in
    let top : top_level (before xs n) ≡ c.entry-entry.result.level = ap top_level is in
    c.loop-place.invariant.goes_on (below_top (count_of c.args.self.now) (clauses_of c.args.self.now) c.args.seen.now (before xs n) c.args.level (trail_before (count_of c.args.self.now) (clauses_of c.args.self.now) xs n c.requires.state.trail) (omega arith))

pub loop-place-preserved : goal.loop-place-preserved
loop-place-preserved c =
    let xs : List Entry = c.args.self.now.tracker.trail in
    let n : ℕ = c.loop-place.place in
    let same : n ≡ n - 1 + 1 = omega arith in
    let is : before xs n ≡ c.entry-entry.result ∷ before xs (n - 1) = ap (before xs) same ∙ c.entry-entry.ensures.next in
    let unmarked : is_seen c.args.seen.now c.entry-entry.result ≡ false = sym c.contains.ensures ∙ c.if-contains.false in
    record {
      in_range = omega arith;
      goes_on = λ m. c.loop-place.invariant.goes_on (below_passes c.args.seen.now c.entry-entry.result (before xs (n - 1)) (before xs n) c.args.level is unmarked m);
    }

pub returns : goal.returns
returns c = λ _. c.loop-place.invariant.goes_on (below_first c.args.self.now.tracker.trail c.loop-place.place c.args.seen.now c.args.level c.loop-place-test.false)
