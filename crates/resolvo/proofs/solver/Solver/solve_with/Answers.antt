use Rattle.std.proofs.Common.{◌≡◌, [], sym, ap, subst, ◌∙◌}
use Rattle.resolvo_packages.specs.PackageSource.{packages_by, orders_by}
use Rattle.std.specs.Option.{option_map}
use Rattle.resolvo.specs.Conflicts.{left_of}
use Rattle.resolvo.specs.Solver.{IsAnswer, root_of}
use Rattle.resolvo.specs.SoftTurns.{AreCandidates}
use Rattle.resolvo.proofs.Answered.{kept_answers, kept_count, kept_ended, kept_leaves_by, kept_once, kept_provider, kept_unstopped}
use Rattle.resolvo.proofs.solver.Solver.solve_with.Goals as goal

pub returns-in-Ok-solve_to_conflict-clause-provider : goal.returns-in-Ok-solve_to_conflict-clause-provider
returns-in-Ok-solve_to_conflict-clause-provider g c =
    kept_provider (record { provider = c.solve_to_conflict.new.answers; clause_count = c.self.inside.clause_count; deferred_count = c.self.inside.deferred_count; turns = c.self.inside.turns.items; proof = c.self.inside.proof.items; conflict = option_map left_of c.self.inside.conflict }) c.in-Ok-solve_to_conflict.solved c.in-Ok-solve_to_conflict.clauses (option_map left_of c.in-Ok-solve_to_conflict.conflict) c.keep.result c.keep.new.self c.keep.ensures ∙ c.in-Ok-solve_to_conflict.ensures.same ∙ ap (λ k. k.provider) c.self.view_is ∙ ap (λ k. k.provider) c.forget.ensures

pub returns-in-Ok-solve_to_conflict-clause-answer : goal.returns-in-Ok-solve_to_conflict-clause-answer
returns-in-Ok-solve_to_conflict-clause-answer g c =
    let same = g.D.SolvableId.PartialEq.eq in
    let one : c.self.inside.answers ≡ c.args.self.now.provider = ap (λ k. k.provider) c.self.view_is ∙ ap (λ k. k.provider) c.forget.ensures in
    let (p, from, whole, (items, long)) = c.in-Ok.ensures.runs tt in
    kept_ended (record { provider = c.solve_to_conflict.new.answers; clause_count = c.self.inside.clause_count; deferred_count = c.self.inside.deferred_count; turns = c.self.inside.turns.items; proof = c.self.inside.proof.items; conflict = option_map left_of c.self.inside.conflict }) c.in-Ok-solve_to_conflict.solved c.in-Ok-solve_to_conflict.clauses (option_map left_of c.in-Ok-solve_to_conflict.conflict) c.keep.result c.keep.new.self _ c.keep.ensures (
      c.as_slice-3.result.now,
      (p, from, whole, c.as_slice-3.ensures.value ∙ items),
      λ candidates.
          subst (λ (d : g.row.D.Denot). AreCandidates same (packages_by g.D.Interner.name_of_solvable g.D.Interner.name_of_version_set g.D.Interner.members_of g.D.Interner.condition_of g.D.DependencyProvider.candidates_of g.D.DependencyProvider.matches g.D.DependencyProvider.dependencies_of d) c.as_slice-3.result.now → IsAnswer same (packages_by g.D.Interner.name_of_solvable g.D.Interner.name_of_version_set g.D.Interner.members_of g.D.Interner.condition_of g.D.DependencyProvider.candidates_of g.D.DependencyProvider.matches g.D.DependencyProvider.dependencies_of d) (root_of c.args.problem) (orders_by g.D.Interner.name_of_version_set g.D.Interner.members_of g.D.DependencyProvider.candidates_of g.D.DependencyProvider.matches g.D.DependencyProvider.sorts g.D.SolvableId.PartialEq.eq d) c.as_slice-3.result.now c.keep.result c.keep.new.self) one
          (λ listed. kept_answers (record { provider = c.solve_to_conflict.new.answers; clause_count = c.self.inside.clause_count; deferred_count = c.self.inside.deferred_count; turns = c.self.inside.turns.items; proof = c.self.inside.proof.items; conflict = option_map left_of c.self.inside.conflict }) same (packages_by g.D.Interner.name_of_solvable g.D.Interner.name_of_version_set g.D.Interner.members_of g.D.Interner.condition_of g.D.DependencyProvider.candidates_of g.D.DependencyProvider.matches g.D.DependencyProvider.dependencies_of c.self.inside.answers) (root_of c.args.problem) (orders_by g.D.Interner.name_of_version_set g.D.Interner.members_of g.D.DependencyProvider.candidates_of g.D.DependencyProvider.matches g.D.DependencyProvider.sorts g.D.SolvableId.PartialEq.eq c.self.inside.answers) c.as_slice-3.result.now c.in-Ok-solve_to_conflict.solved c.in-Ok-solve_to_conflict.clauses c.in-Ok-solve_to_conflict.conflict c.keep.result c.keep.new.self c.keep.ensures
          (c.in-Ok-solve_to_conflict.ensures.solved (root_of c.args.problem) (sym c.as_slice.ensures.value, sym c.as_slice-2.ensures.value) listed) c.in-Ok-solve_to_conflict.ensures.left) candidates,
      λ (needless, free, unwished). kept_count (record { provider = c.solve_to_conflict.new.answers; clause_count = c.self.inside.clause_count; deferred_count = c.self.inside.deferred_count; turns = c.self.inside.turns.items; proof = c.self.inside.proof.items; conflict = option_map left_of c.self.inside.conflict }) c.in-Ok-solve_to_conflict.solved c.in-Ok-solve_to_conflict.clauses (option_map left_of c.in-Ok-solve_to_conflict.conflict) c.keep.result c.keep.new.self c.keep.ensures
          ∙ c.in-Ok-solve_to_conflict.ensures.alone (c.as_slice.ensures.value ∙ needless, c.as_slice-2.ensures.value ∙ free, unwished),
    )

pub returns-in-Ok-solve_to_conflict-clause-leaves : goal.returns-in-Ok-solve_to_conflict-clause-leaves
returns-in-Ok-solve_to_conflict-clause-leaves g c =
    let none : c.self.inside.turns.items ≡ [] = ap (λ k. k.turns) c.self.view_is ∙ ap (λ k. k.turns) c.forget.ensures in
    kept_leaves_by (record { provider = c.solve_to_conflict.new.answers; clause_count = c.self.inside.clause_count; deferred_count = c.self.inside.deferred_count; turns = c.self.inside.turns.items; proof = c.self.inside.proof.items; conflict = option_map left_of c.self.inside.conflict }) c.args.steps g.D.SolvableId.PartialEq.eq (packages_by g.D.Interner.name_of_solvable g.D.Interner.name_of_version_set g.D.Interner.members_of g.D.Interner.condition_of g.D.DependencyProvider.candidates_of g.D.DependencyProvider.matches g.D.DependencyProvider.dependencies_of c.self.inside.answers) (orders_by g.D.Interner.name_of_version_set g.D.Interner.members_of g.D.DependencyProvider.candidates_of g.D.DependencyProvider.matches g.D.DependencyProvider.sorts g.D.SolvableId.PartialEq.eq c.self.inside.answers) c.in-Ok-solve_to_conflict.solved c.in-Ok-solve_to_conflict.clauses c.in-Ok-solve_to_conflict.conflict c.keep.result c.keep.new.self none c.keep.ensures c.in-Ok-solve_to_conflict.ensures.left c.in-Ok-solve_to_conflict.ensures.ends c.in-Ok-solve_to_conflict.ensures.count

pub returns-in-Ok-solve_to_conflict-clause-cancelled : goal.returns-in-Ok-solve_to_conflict-clause-cancelled
returns-in-Ok-solve_to_conflict-clause-cancelled g c = kept_unstopped (record { provider = c.solve_to_conflict.new.answers; clause_count = c.self.inside.clause_count; deferred_count = c.self.inside.deferred_count; turns = c.self.inside.turns.items; proof = c.self.inside.proof.items; conflict = option_map left_of c.self.inside.conflict }) (g.D.DependencyProvider.may_cancel c.args.self.now.provider) c.in-Ok-solve_to_conflict.solved c.in-Ok-solve_to_conflict.clauses (option_map left_of c.in-Ok-solve_to_conflict.conflict) c.keep.result c.keep.new.self c.keep.ensures

pub returns-in-Ok-solve_to_conflict-clause-once : goal.returns-in-Ok-solve_to_conflict-clause-once
returns-in-Ok-solve_to_conflict-clause-once g c = kept_once (record { provider = c.solve_to_conflict.new.answers; clause_count = c.self.inside.clause_count; deferred_count = c.self.inside.deferred_count; turns = c.self.inside.turns.items; proof = c.self.inside.proof.items; conflict = option_map left_of c.self.inside.conflict }) c.in-Ok-solve_to_conflict.solved c.in-Ok-solve_to_conflict.clauses (option_map left_of c.in-Ok-solve_to_conflict.conflict) c.keep.result c.keep.new.self c.keep.ensures c.in-Ok-solve_to_conflict.ensures.once
