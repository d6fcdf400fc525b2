use Rattle.std.proofs.Common.{◌≡◌, ◌≤◌, ◌++◌, ◌∷◌, [], List, length, length-append, take, arith, sym, ◌∙◌, ap, subst}
use Rattle.std.proofs.lemmas.List.{take-append-le}
use Rattle.resolvo_store_core.specs.declared.decision.Entry.{Entry}
use Rattle.resolvo_decide.specs.declared.undecided_clauses.UndecidedClauses.{UndecidedClauses}
use Rattle.resolvo_decide.specs.Needs.{AreRightCounts}
use Rattle.resolvo_decide.proofs.undecided_clauses.UndecidedClauses.undo_entries.Goals as goal

pub loop-self-preserved-in-Some : goal.loop-self-preserved-in-Some
loop-self-preserved-in-Some c =
    let here = c.loop-self.self in
    let es : List Entry = c.pop.new.self.items in
    let e : Entry = c.in-Some.entry in
    let is : here.seen.items ≡ es ++ e ∷ [] = c.in-Some.ensures.items in
    let low : c.args.kept ≤ length es = omega (arith, c.loop-self-test.true, ap length is, length-append es (e ∷ [])) in
    record {
      seen = sym (ap (take c.args.kept) is ∙ take-append-le c.args.kept es (e ∷ []) low) ∙ c.loop-self.invariant.seen;
      counts = λ literals queue h. c.undo_entry.ensures.kept es literals queue (subst (λ (xs : List Entry). AreRightCounts literals queue xs here.counts) is (c.loop-self.invariant.counts literals queue h));
      rest = ap (λ (n : UndecidedClauses). record n { seen = c.pop.new.self; counts = c.undo_entry.new.self }) c.loop-self.invariant.rest;
    }
