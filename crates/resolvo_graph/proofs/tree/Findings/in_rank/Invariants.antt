use Rattle.std.proofs.Common.{◌≡◌, filter, map}
use Rattle.std.specs.Prelude.{not}
use Rattle.resolvo_graph.specs.declared.tree.DisplayOp.TheVariants.{Requirement}
use Rattle.resolvo_graph.specs.Outlook.{has_target_in}
use Rattle.resolvo_graph.proofs.tree.Findings.in_rank.Given as goal

abbrev pub invariant-loop-run : goal.invariant-loop-run
invariant-loop-run g l = record {
  ranked : l.ranked.items ≡ map Requirement (filter (λ r. not (has_target_in l.self.installable.keys r)) l.yielded);
  installable : l.installable.items ≡ map Requirement (filter (has_target_in l.self.installable.keys) l.yielded);
}
