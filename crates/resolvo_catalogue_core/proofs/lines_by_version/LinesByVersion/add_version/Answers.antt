use Rattle.std.proofs.Common.{◌≡◌, List, ℕ, length, is_ok, sym, subst, arith}
use Rattle.resolvo_catalogue_core.specs.LinesByVersion.{lists_from, AreEnds}
use Rattle.resolvo_catalogue_core.proofs.OwnedLemmas.{one_more_if, empty_list}
use Rattle.resolvo_catalogue_core.proofs.lines_by_version.LinesByVersion.add_version.Goals as goal

pub invariant_of-self-2 : goal.invariant_of-self-2
invariant_of-self-2 c =
    let xs = c.self.inside.lines.items in
    let end : c.in_ok-end.end ≡ length xs = omega (arith, c.self.inside.lines.ok.0, c.len.ensures, c.in_ok-end.ensures) in
    subst (λ (ends : List ℕ). AreEnds 0 ends (length xs)) (sym c.push.ensures.items) (one_more_if (is_ok c.push.result) 0 c.self.inside.ends.items c.in_ok-end.end (length xs) end c.self.invariant)

pub returns : goal.returns
returns c =
    let xs = c.self.inside.lines.items in
    let ends = c.self.inside.ends.items in
    let old : lists_from xs 0 ends ≡ c.args.self.now = c.self.view_is in
    let end : c.in_ok-end.end ≡ length xs = omega (arith, c.self.inside.lines.ok.0, c.len.ensures, c.in_ok-end.ensures) in
    rw (c.in_ok-push.ensures.items, end, ← old) (empty_list xs 0 ends c.self.invariant)
