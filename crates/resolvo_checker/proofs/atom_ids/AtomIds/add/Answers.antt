use Rattle.std.proofs.Common.{◌≡◌, ◌+◌, ◌∙◌, ap, sym, cond, Option, ℕ}
use Rattle.std.specs.BTreeMap.{btree_map_len}
use Rattle.std.specs.Prelude.{is_some, None}
use Rattle.resolvo_checker.specs.Numbers.{number_in}
use Rattle.resolvo_checker.proofs.NumberLemmas.{number-updated, keeps, are_numbers, noted_keeps}
use Rattle.resolvo_checker.proofs.atom_ids.AtomIds.add.Goals as goal

pub invariant_of-self-2 : goal.invariant_of-self-2
invariant_of-self-2 c =
    let absent : number_in c.self.inside.map.entries c.args.key.items ≡ None = rw c.self.view_is c.requires in
    let none : c.in_ok-insert.field-0 ≡ None = c.in_ok-insert.ensures.old ∙ absent in
    let long : btree_map_len c.insert.new.self ≡ c.len-number.result + 1 =
    c.in_ok-insert.ensures.len ∙ (ap (λ (o : Option ℕ). btree_map_len c.self.inside.map + cond (is_some o) 0 1) none ∙ ap (λ n. n + 1) (sym c.len-number.ensures.len)) in
    let updated = number-updated c.self.inside.map c.insert.new.self c.args.key.items _ c.in_ok-insert.ensures.updates in (
      rw long (are_numbers c.self.inside.map.entries c.insert.new.self.entries c.args.key.items c.len-number.result updated absent (rw c.len-number.ensures.len c.self.invariant.0)),
      noted_keeps c.self.inside.map.entries c.insert.new.self.entries c.self.inside.versions.items (keeps c.self.inside.map.entries c.insert.new.self.entries c.args.key.items c.len-number.result updated absent) c.self.invariant.1,
    )

pub returns-clause-keeps : goal.returns-clause-keeps
returns-clause-keeps c =
    let absent : number_in c.self.inside.map.entries c.args.key.items ≡ None = rw c.self.view_is c.requires in
    rw (← c.self.view_is) (keeps c.self.inside.map.entries c.insert.new.self.entries c.args.key.items c.len-number.result
    (number-updated c.self.inside.map c.insert.new.self c.args.key.items _ c.in_ok-insert.ensures.updates) absent)
