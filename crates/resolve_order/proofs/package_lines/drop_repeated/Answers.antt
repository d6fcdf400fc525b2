use Rattle.std.proofs.Common.{◌≡◌, ℕ, true, List, sym, subst}
use Rattle.std.specs.Prelude.{◌==◌}
use Rattle.std.specs.List.{list_any}
use Rattle.resolve_order.proofs.LineLists.{kept_once}
use Rattle.resolve_order.proofs.package_lines.drop_repeated.Goals as goal

pub returns : goal.returns
returns c = record {
  kept = λ i h. subst (λ (xs : List ℕ). list_any (λ j. j == i) xs ≡ true) (sym c.in_ok-reserve.ensures.items)
      (kept_once c.args.lines.now.items c.sort_unstable.new.self.items c.dedup.new.self.items c.sort_unstable.ensures.permutation c.dedup.ensures.filtered i h);
}

pub returns-in_err-reserve : goal.returns-in_err-reserve
returns-in_err-reserve c = record {
  kept = λ i h. subst (λ (xs : List ℕ). list_any (λ j. j == i) xs ≡ true) (sym c.in_err-reserve.ensures.items)
      (kept_once c.args.lines.now.items c.sort_unstable.new.self.items c.dedup.new.self.items c.sort_unstable.ensures.permutation c.dedup.ensures.filtered i h);
}
