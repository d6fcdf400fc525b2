use Rattle.std.proofs.Common.{◌≡◌, map, take}
use Rattle.std.specs.Prelude.{Contains}
use Rattle.std.specs.Option.{option_map}
use Rattle.resolvo_report.specs.View.{step_of}
use Rattle.resolve_refusal.specs.InstallSteps.{IsForbidStepOf}
use Rattle.resolve_answer.specs.Wishes.{asked_by}
use Rattle.resolve_answer.specs.declared.wishes.Wish.{Wish}
use Rattle.resolve_answer.proofs.wishes.wishes_of.Given as goal

-- the wishes so far, each with the step that forbids it
abbrev pub invariant-loop-wish : goal.invariant-loop-wish
invariant-loop-wish l = record {
  are : map asked_by l.wishes.items ≡ take l.wish-index l.wish-items;
  forbids : (w : Wish) → Contains l.wishes.items w → IsForbidStepOf l.catalogue w.version.0 (option_map step_of w.forbidden_by);
}
