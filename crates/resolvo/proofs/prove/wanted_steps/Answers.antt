use Rattle.std.proofs.Common.{inl}
use Rattle.resolvo.proofs.Solved.{counts_by, counts_none, nothing_written}
use Rattle.resolvo.proofs.prove.wanted_steps.Goals as goal

pub returns-then-needs_none-clause-steps : goal.returns-then-needs_none-clause-steps
returns-then-needs_none-clause-steps g c = nothing_written c.args.coding.now c.args.steps c.args.found.now c.new.result.items (c.needs_none.ensures c.if-needs_none.true) c.new.ensures.items

pub returns-then-needs_none-clause-count : goal.returns-then-needs_none-clause-count
returns-then-needs_none-clause-count g c = counts_none c.args.steps c.args.found.now _ _ (c.needs_none.ensures c.if-needs_none.true)

pub returns-clause-steps : goal.returns-clause-steps
returns-clause-steps g c = record {
  proof = c.in_ok-written.ensures.proof;
  drawn = c.in_ok-written.ensures.drawn;
  signs = c.in_ok-written.ensures.signs;
  places = c.in_ok-written.ensures.places;
  ends = c.in_ok-written.ensures.ends;
  clauses = inl c.in_ok-written.ensures.clauses;
}

pub returns-clause-count : goal.returns-clause-count
returns-clause-count g c = counts_by c.args.steps c.args.found.now _ _ c.in_ok-written.ensures.count
