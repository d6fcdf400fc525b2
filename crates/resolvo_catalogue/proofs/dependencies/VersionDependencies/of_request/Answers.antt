use Rattle.std.proofs.Common.{[], arith}
use Rattle.resolvo_catalogue.specs.Dependencies.{deps_of}
use Rattle.resolvo_terms.specs.TermCounts.{ids_for_dependency}
use Rattle.resolvo_catalogue.proofs.CountLemmas.{rule_dependency, text_more, text_no_less, text_within}
use Rattle.resolvo_catalogue.proofs.GrowLemmas.{interns_on}
use Rattle.resolvo_catalogue.proofs.DependencyLemmas.{text_next, text_step, deps_none}
use Rattle.resolvo_catalogue.proofs.dependencies.VersionDependencies.of_request.Goals as goal
use Rattle.resolvo_catalogue.proofs.dependencies.VersionDependencies.of_request.Goals.{in-Some+in_ok-add, in_default}

pub loop-line-preserved : goal.loop-line-preserved
loop-line-preserved c = elim c.match-rule.branch [
  | in-Some+in_ok-add w ↦
      let of_line = rw w.in-Some.is at c.rule.ensures.of_line in (
        rw (w.ids-is, w.deps-is, text_step c.args.request.now.lines c.loop-line.line of_line.0 of_line.1) (w.in_ok-add.ensures.as_ids [] of_line.0 _ (of_line.2 []) c.loop-line.invariant.0),
        rw w.ids-is (interns_on _ _ _ c.loop-line.invariant.1 w.in_ok-add.ensures.interns),
        rw w.ids-is (omega (arith, c.loop-line.invariant.2, w.in_ok-add.ensures.few, rule_dependency [] _ _ of_line.0 (of_line.2 []), text_more ids_for_dependency c.args.request.now.lines c.loop-line.line of_line.0 of_line.1)),
      )
  | in_default w ↦
      let none = rw w.in_default.is at c.rule.ensures.none in (
        rw (w.ids-is, w.deps-is, text_next c.args.request.now.lines c.loop-line.line) (deps_none c.loop-line.ids (deps_of c.loop-line.deps) c.args.request.now.lines _ _ c.loop-line.invariant.0 none),
        rw w.ids-is c.loop-line.invariant.1,
        rw w.ids-is (omega (arith, c.loop-line.invariant.2, text_no_less ids_for_dependency c.args.request.now.lines c.loop-line.line)),
      )
]

pub returns-in_err-add-clause-few : goal.returns-in_err-add-clause-few
returns-in_err-add-clause-few c =
    let of_line = rw c.in-Some.is at c.rule.ensures.of_line in
    omega (arith, c.loop-line.invariant.2, c.in_err-add.ensures.few, rule_dependency [] _ _ of_line.0 (of_line.2 []), text_within ids_for_dependency c.args.request.now.lines c.loop-line.line of_line.0 of_line.1)
