use Rattle.std.proofs.Common.{◌≡◌, ◌++◌, ◌∙◌, ap, filter, map}
use Rattle.std.specs.Prelude.{not}
use Rattle.std.proofs.lemmas.Iterator.Consumers.{YieldsList-end}
use Rattle.std.proofs.lemmas.Iterator.Adapters.{YieldsList-from_vec}
use Rattle.resolvo_graph.specs.declared.tree.DisplayOp.TheVariants.{Requirement}
use Rattle.resolvo_graph.specs.Kept.{findings}
use Rattle.resolvo_graph.specs.Outlook.{has_target_in}
use Rattle.resolvo_graph.specs.Tree.{in_rank}
use Rattle.resolvo_graph.proofs.ListLemmas.{puts}
use Rattle.resolvo_graph.proofs.TreeLemmas.{all_yielded}
use Rattle.resolvo_graph.proofs.tree.Findings.in_rank.Goals as goal

pub returns-clause-rank : goal.returns-clause-rank
returns-clause-rank g c =
    let given = c.into_iter-run-iterator.ensures.into_iter_gives in
    let ended = YieldsList-end (YieldsList-from_vec {s = c.into_iter-run-iterator.result} c.args.runs.items given.0 (given.1 ∙ c.args.runs.ok.0)) c.loop-run.yielded c.loop-run.run-iterator c.loop-run.yielded_by c.next.result c.next.new.self c.in-None.is c.next.ensures.steps in
    let all : c.loop-run.yielded ≡ c.args.runs.items = all_yielded c.loop-run.yielded c.args.runs.items ended.0 in
    c.in_ok-append.ensures.items ∙ ap (λ xs. xs ++ c.loop-run.installable.items) c.loop-run.invariant.ranked
    ∙ ap (λ ys. map Requirement (filter (λ r. not (has_target_in c.args.self.now.installable.keys r)) c.loop-run.yielded) ++ ys) c.loop-run.invariant.installable
    ∙ ap (in_rank (findings g.S.PartialEq.eq c.args.self.now)) all

pub loop-run-preserved : goal.loop-run-preserved
loop-run-preserved g c =
    let keys = c.args.self.now.installable.keys in
    let r = c.in-Some.run' in
    record {
      ranked = puts Requirement (λ q. not (has_target_in keys q)) c.loop-run.yielded r c.loop-run.ranked.items c.add_run.new.others.items c.loop-run.invariant.ranked c.in_ok-add_run.ensures.others;
      installable = puts Requirement (has_target_in keys) c.loop-run.yielded r c.loop-run.installable.items c.add_run.new.with_marked.items c.loop-run.invariant.installable c.in_ok-add_run.ensures.marked;
    }
