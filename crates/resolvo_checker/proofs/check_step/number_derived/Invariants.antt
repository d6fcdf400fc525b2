use Rattle.std.proofs.Common.{◌≡◌, take, [], map, true}
use Rattle.std.specs.List.{list_all}
use Rattle.resolvo_catalogue_core.specs.Listed.{listed}
use Rattle.resolvo_report.specs.View.{literals_of}
use Rattle.resolvo_checker.specs.StepClauses.{is_atom, literal_of}
use Rattle.resolvo_checker.specs.Keys.{Extends}
use Rattle.resolvo_checker.proofs.check_step.number_derived.Given as goal

abbrev pub invariant-loop-literal : goal.invariant-loop-literal
invariant-loop-literal l = record {
  fine : list_all (λ x. is_atom l.catalogue x.atom) (literals_of (take l.literal-index l.literals)) ≡ true;
  extends : Extends (listed l.catalogue) l.fn.numbers [] l.numbers l.out.items (map literal_of (literals_of (take l.literal-index l.literals)));
}
