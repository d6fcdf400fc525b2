use Rattle.std.proofs.Common.{◌≡◌, ℕ, List, Option, take, length, true}
use Rattle.std.specs.Global.{Vec}
use Rattle.std.specs.List.{list_all}
use Rattle.resolvo_report.specs.Value.{Step}
use Rattle.resolvo_checker.specs.Kept.{is_ready}
use Rattle.resolvo_checker.specs.CheckStep.{CheckerInvariant}
use Rattle.resolvo_checker.proofs.check_step.build_causes.Given as goal

abbrev pub invariant-loop-cause : goal.invariant-loop-cause
invariant-loop-cause l = record {
  represents : (places : List (Option ℕ)) (rules : List (Vec ℕ × ℕ)) (earlier : List Step) → CheckerInvariant l.catalogue l.request.lines l.fn.numbers l.fn.clauses.kept places rules earlier → CheckerInvariant l.catalogue l.request.lines l.numbers l.clauses.kept places rules earlier;
  ready : list_all (is_ready l.clauses.kept) (take l.cause-index l.causes) ≡ true;
  count : length l.clauses.kept ≡ length l.fn.clauses.kept;
  readings : l.clauses.readings ≡ l.fn.clauses.readings;
}
