use Rattle.std.proofs.Common.{◌≡◌, ◌+◌, ◌∷◌, [], ◌∙◌, ℕ, length, sym, ap, subst, arith}
use Rattle.std.specs.List.{slice_set}
use Rattle.std.proofs.lemmas.List.{length-append}
use Rattle.resolvo_terms.proofs.Places.{set_length}
use Rattle.resolvo_catalogue_core.specs.LinesByVersion.{lists_from, AreEnds}
use Rattle.resolvo_catalogue_core.proofs.OwnedLemmas.{count_lists, later, added}
use Rattle.resolvo_catalogue_core.proofs.lines_by_version.LinesByVersion.add_line.Goals as goal

pub index_mut-requires : goal.index_mut-requires
index_mut-requires c =
    let old : lists_from c.self.inside.lines.items 0 c.self.inside.ends.items ≡ c.args.self.now = c.self.view_is in
    omega (arith, count_lists c.self.inside.lines.items 0 c.self.inside.ends.items, ap length old, c.requires, c.self.inside.ends.ok.0)

pub invariant_of-self-2 : goal.invariant_of-self-2
invariant_of-self-2 c =
    let xs = c.self.inside.lines.items in
    let ends = c.self.inside.ends.items in
    let n = c.args.version.0 in
    let old : lists_from xs 0 ends ≡ c.args.self.now = c.self.view_is in
    let last : n + 1 ≡ length ends = omega (arith, count_lists xs 0 ends, ap length old, c.requires) in
    let end : c.len-count.result + 1 ≡ length xs + 1 = omega (arith, c.self.inside.lines.ok.0, c.len-count.ensures) in
    let long : length c.push.new.self.items ≡ length xs + 1 = ap length c.in_ok-push.ensures.items ∙ length-append xs (c.args.line ∷ []) in
    subst (λ (count : ℕ). AreEnds 0 (slice_set ends n (c.len-count.result + 1)) count) (sym long)
    (subst (λ (e : ℕ). AreEnds 0 (slice_set ends n e) (length xs + 1)) (sym end) (later 0 ends n (length xs) c.self.invariant last))

pub returns-clause-same : goal.returns-clause-same
returns-clause-same c =
    let xs = c.self.inside.lines.items in
    let ends = c.self.inside.ends.items in
    let set = slice_set ends c.args.version.0 (c.len-count.result + 1) in
    let old : lists_from xs 0 ends ≡ c.args.self.now = c.self.view_is in
    count_lists c.push.new.self.items 0 set ∙ set_length ends c.args.version.0 (c.len-count.result + 1) ∙ sym (count_lists xs 0 ends) ∙ ap length old

pub returns-clause-added : goal.returns-clause-added
returns-clause-added c = λ k.
    let xs = c.self.inside.lines.items in
    let ends = c.self.inside.ends.items in
    let n = c.args.version.0 in
    let old : lists_from xs 0 ends ≡ c.args.self.now = c.self.view_is in
    let last : n + 1 ≡ length ends = omega (arith, count_lists xs 0 ends, ap length old, c.requires) in
    let end : c.len-count.result + 1 ≡ length xs + 1 = omega (arith, c.self.inside.lines.ok.0, c.len-count.ensures) in
    rw (c.in_ok-push.ensures.items, end, ← old) (added xs c.args.line 0 ends n c.self.invariant last k)
