use Rattle.std.proofs.Common.{◌∙◌, inl, sym}
use Rattle.resolvo_catalogue_core.specs.Listed.{listed}
use Rattle.resolve_order.specs.Kept.{package_at}
use Rattle.resolve_order.proofs.NeedLemmas.{on_ok}
use Rattle.resolve_order.proofs.OpenLemmas.{reopens_both, reopens_one}
use Rattle.resolve_order.proofs.open_lines.reopen.Goals as goal

pub returns-then-is_empty : goal.returns-then-is_empty
returns-then-is_empty c = record {
  opened = λ k i key kept less. absurd (c.is_empty.ensures.none c.if-is_empty.true k i kept);
  stays = λ i is. is;
  within = λ i is. inl is;
  others = λ k i none kept. kept;
}

pub returns-in-Some : goal.returns-in-Some
returns-in-Some c =
    let first = package_at (listed c.args.catalogue.now) c.args.version.0 in
    on_ok c.reopen_by-in-Some.result (λ opened. reopens_both c.args.again.now c.reopen_by.new.again c.reopen_by-in-Some.new.again c.args.below c.args.version.0 first c.in-Some.«package» c.args.kept.now c.reopen_by.new.kept c.reopen_by-in-Some.new.kept c.in_ok-reopen_by.ensures opened (sym c.package_at.ensures ∙ c.in-Some.is)) c.reopen_by-in-Some.ensures

pub returns-in-None : goal.returns-in-None
returns-in-None c = reopens_one c.args.again.now c.reopen_by.new.again c.args.below c.args.version.0 (package_at (listed c.args.catalogue.now) c.args.version.0) c.args.kept.now c.reopen_by.new.kept c.in_ok-reopen_by.ensures (sym c.package_at.ensures ∙ c.in-None.is)
