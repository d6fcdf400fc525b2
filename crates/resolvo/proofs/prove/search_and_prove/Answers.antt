use Rattle.std.proofs.Common.{sym, ◌∙◌, subst}
use Rattle.resolvo.specs.Solve.{AreChosenOnce, EndsSo}
use Rattle.resolvo.specs.declared.search.SearchResult.{SearchResult}
use Rattle.resolvo.proofs.Solved.{listed_once, search_solved}
use Rattle.resolvo.proofs.prove.search_and_prove.Goals as goal

pub returns-clause-solved : goal.returns-clause-solved
returns-clause-solved g c = λ root is candidates.
    let packages = g.A.PackageSource.packages c.args.answers.now in
    let begun = c.requires.encoding packages root (g.met.A.PackageSource.lawful c.args.answers.now) in
    search_solved g.A.SolvableId.PartialEq.eq packages (g.A.PackageSource.orders c.args.answers.now) root c.args.softs.now c.search.new.encoding c.in_ok-found.found c.in_ok-solved.solved (c.in_ok-found.ensures.found root is candidates begun)
    c.in_ok-solved.ensures.found c.in_ok-solved.ensures.steps c.in_ok-solved.ensures.clause_count c.in_ok-solved.ensures.deferred c.in_ok-found.ensures.listed

pub returns-clause-alone : goal.returns-clause-alone
returns-clause-alone g c = λ ask. c.in_ok-solved.ensures.clause_count ∙ c.in_ok-found.ensures.alone ask

pub returns-clause-once : goal.returns-clause-once
returns-clause-once g c = subst AreChosenOnce (sym c.in_ok-solved.ensures.found) (listed_once c.search.new.encoding c.in_ok-found.found c.in_ok-found.ensures.listed)

pub returns-clause-ends : goal.returns-clause-ends
returns-clause-ends g c = subst (λ (f : SearchResult g.row.A-SolvableId.Denot). EndsSo f c.in_ok-solved.solved.proof.items) (sym c.in_ok-solved.ensures.found) c.in_ok-solved.ensures.steps.ends
